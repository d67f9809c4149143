use Rattle.std.specs.Prelude.{All, [], map}
use Rattle.table.specs.Bounds.{IsSmallRow}
use Rattle.table.specs.Eval.{answer}
use Rattle.assertion.specs.Meaning.{filtered_rows}
use Rattle.changes.proofs.Walks.{IsMade}
use Rattle.changes.proofs.listings.each_row.Given as goal

abbrev pub invariant-loop-row : goal.invariant-loop-row
invariant-loop-row l = record {
  small : All IsSmallRow l.row-iterator;
  made : IsMade (λ row. map (answer row []) l.values) (filtered_rows l.filter.condition l.rows) l.made.items l.row-iterator;
}
