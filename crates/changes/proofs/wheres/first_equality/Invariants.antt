use Rattle.std.proofs.Common.{◌≡◌, drop}
use Rattle.alone.specs.Reads.{first_equality}
use Rattle.changes.proofs.wheres.first_equality.Given as goal

-- none of the parts so far is an equality
abbrev pub invariant-loop-part : goal.invariant-loop-part
invariant-loop-part l = first_equality (drop l.part-index l.parts) ≡ first_equality l.parts
