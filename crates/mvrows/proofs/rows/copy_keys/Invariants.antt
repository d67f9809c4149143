use Rattle.std.proofs.Common.{◌≡◌, ◌++◌}
use Rattle.mvrows.proofs.rows.copy_keys.Given as goal

-- the keys so far and those that are left are all
abbrev pub invariant-loop-key : goal.invariant-loop-key
invariant-loop-key l = l.copy.items ++ l.key-iterator ≡ l.fn.keys
