use Rattle.std.proofs.Common.{◌≡◌, ◌++◌, drop}
use Rattle.alone.specs.Modes.{opposite_modes}
use Rattle.alone.proofs.modes.opposite_marks.Given as goal

-- the marks so far and the others of those that are left are the others of all
abbrev pub invariant-loop-mark : goal.invariant-loop-mark
invariant-loop-mark l = l.opposite.items ++ opposite_modes (drop l.mark-index l.marks) ≡ opposite_modes l.marks
