use Rattle.std.proofs.Common.{◌≡◌, length}
use Rattle.std.specs.Prelude.{All}
use Rattle.table.specs.Bounds.{IsSmallRow}
use Rattle.assertion.specs.Meaning.{filtered_rows}
use Rattle.changes.proofs.filtered.next_filtered.Given as goal

-- the rows passed over weren't restriction
abbrev pub invariant-loop-row : goal.invariant-loop-row
invariant-loop-row l = record {
  small : All IsSmallRow l.looked;
  same : filtered_rows l.filter l.looked ≡ filtered_rows l.filter l.initial.looked;
}

abbrev pub decreases-loop-row : goal.decreases-loop-row
decreases-loop-row l = length l.looked
