use Rattle.std.proofs.Common.{◌≡◌}
use Rattle.table.proofs.rows.few_of.Given as goal

-- the values so far
abbrev pub invariant-loop-value : goal.invariant-loop-value
invariant-loop-value l = l.few.items ≡ l.yielded
