use Rattle.std.proofs.Common.{◌≡◌}
use Rattle.std.specs.Prelude.{All}
use Rattle.value.specs.Ordered.{HoldsOf}
use Rattle.table.specs.Rows.{FitsColumns}
use Rattle.assertion.specs.Meaning.{filtered_rows}
use Rattle.alone.specs.Statements.{renewal, update_fault}
use Rattle.changes.proofs.Walks.{IsMade}
use Rattle.changes.proofs.updates.renewals.Given as goal

abbrev pub invariant-loop-row : goal.invariant-loop-row
invariant-loop-row l = record {
  fits : All (FitsColumns l.columns) l.row-iterator;
  made : IsMade (renewal l.filter.table l.filter.key l.sets) (filtered_rows l.filter.condition l.rows) l.made.items l.row-iterator;
  fault : update_fault l.columns l.sets (filtered_rows l.filter.condition l.rows) ≡ update_fault l.columns l.sets l.row-iterator;
  new_fit : All (λ change. HoldsOf (FitsColumns l.columns) change.new) l.made.items;
}
