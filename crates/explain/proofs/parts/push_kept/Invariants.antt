use Rattle.std.specs.Prelude.{All}
use Rattle.table.specs.Bounds.{IsSmallRow}
use Rattle.explain.proofs.parts.push_kept.Given as goal

-- the numbers of the rows to come are within the bounds of a column
abbrev pub invariant-loop-row : goal.invariant-loop-row
invariant-loop-row l = All IsSmallRow l.row-iterator
