use Rattle.std.proofs.Common.{◌≡◌, ◌++◌, drop, map}
use Rattle.definitions.specs.Constraints.{is_there}
use Rattle.definitions.proofs.constraints.are_there.Given as goal

-- the parts made so far, and those of the other columns
abbrev pub invariant-loop-column : goal.invariant-loop-column
invariant-loop-column l = l.parts ++ map (is_there l.row) (drop l.column-index l.columns) ≡ map (is_there l.row) l.columns
