use Rattle.std.proofs.Common.{◌≡◌, ◌++◌, ℕ, List, drop, map}
use Rattle.std.specs.Prelude.{flat_map}
use Rattle.table.specs.Rows.{RowValues, row_at, put_row}
use Rattle.groups.specs.Totals.{AreTotalsOf, Members}
use Rattle.roots.specs.Around.{IsTurn}
use Rattle.roots.specs.Shown.{lent_query}
use Rattle.roots.specs.Turned.{turned_root}
use Rattle.roots.proofs.AroundLemmas.{midway}
use Rattle.roots.proofs.around.linked_to.Given as goal

-- the totals so far are those of groups in which the rows around that are left have yet to turn, and the roots so far and
-- those of what is left are all
abbrev pub invariant-loop-row : goal.invariant-loop-row
invariant-loop-row l = record {
  totals : (key : ℕ) (rows : List RowValues) (before after : Members) → row_at key l.change.key rows ≡ l.change.old
      → (turn : IsTurn l.around (lent_query l.summary) l.outer l.value rows (put_row key l.change.key l.change.new rows) before after)
      → AreTotalsOf l.summary.aggregate before l.fn.totals
      → AreTotalsOf l.summary.aggregate
      (midway l.around (lent_query l.summary) l.outer l.value rows (put_row key l.change.key l.change.new rows) before after turn (drop l.row-index (map (λ row. row.now) l.row-items))) l.made;
  turned : l.turned.items ++ flat_map (turned_root l.around (lent_query l.summary).filter l.change) (drop l.row-index (map (λ row. row.now) l.row-items))
      ≡ l.initial.turned.items ++ flat_map (turned_root l.around (lent_query l.summary).filter l.change) (map (λ row. row.now) l.row-items);
}
