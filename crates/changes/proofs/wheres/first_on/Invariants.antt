use Rattle.std.proofs.Common.{◌≡◌, drop}
use Rattle.alone.specs.Reads.{first_on}
use Rattle.changes.proofs.wheres.first_on.Given as goal

-- none of the parts so far is an equality on the column
abbrev pub invariant-loop-part : goal.invariant-loop-part
invariant-loop-part l = first_on l.column (drop l.part-index l.parts) ≡ first_on l.column l.parts
