use Rattle.std.proofs.Common.{◌≡◌, ◌++◌, drop}
use Rattle.txn.proofs.steps.copy_with.Given as goal

-- the copies so far, and the keys that are left
abbrev pub invariant-loop-key : goal.invariant-loop-key
invariant-loop-key l = l.both.items ++ drop l.key-index l.keys ≡ l.keys
