use Rattle.std.proofs.Common.{◌+◌, length}
use Rattle.conflict.proofs.Safety.{AreHarmless}
use Rattle.conflict.proofs.snapshots.is_safe.Given as goal

-- none so far conflicts to one that the snapshot holds
abbrev pub invariant-loop-commit : goal.invariant-loop-commit
invariant-loop-commit l = AreHarmless l.committed l.snapshot (l.held + length l.yielded)
