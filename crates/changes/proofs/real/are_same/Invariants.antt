use Rattle.std.proofs.Common.{◌≡◌, drop, length}
use Rattle.alone.specs.States.{same_row}
use Rattle.changes.proofs.real.are_same.Given as goal

abbrev pub invariant-loop-i : goal.invariant-loop-i
invariant-loop-i l = (length l.values ≡ length l.others) × (same_row (drop l.i l.values) (drop l.i l.others) ≡ same_row l.values l.others)
