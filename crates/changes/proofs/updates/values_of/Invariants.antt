use Rattle.std.proofs.Common.{◌≡◌, take}
use Rattle.changes.proofs.updates.values_of.Given as goal

-- the values so far are the row's first
abbrev pub invariant-loop-value : goal.invariant-loop-value
invariant-loop-value l = l.values.items ≡ take l.value-index l.row
