use Rattle.assertion.specs.Meaning.{filtered_rows}
use Rattle.alone.specs.Statements.{removal}
use Rattle.changes.proofs.Walks.{IsMade}
use Rattle.changes.proofs.deletions.removals.Given as goal

abbrev pub invariant-loop-row : goal.invariant-loop-row
invariant-loop-row l = IsMade (removal l.filter.table l.filter.key) (filtered_rows l.filter.condition l.rows) l.made.items l.row-iterator
