use Rattle.std.proofs.Common.{map, take}
use Rattle.std.specs.Prelude.{filter}
use Rattle.table.specs.Eval.{keeps}
use Rattle.table.specs.Slots.{values_of}
use Rattle.groups.specs.Answers.{value_for}
use Rattle.groups.specs.Totals.{IsTotalOf}
use Rattle.roots.specs.Shown.{lent_query}
use Rattle.roots.proofs.around.total_of_kept.Given as goal

-- the total so far is that of the rows so far that are kept
abbrev pub invariant-loop-row : goal.invariant-loop-row
invariant-loop-row l =
    IsTotalOf l.fn.summary.aggregate
    (map (value_for l.fn.summary.aggregate) (filter (λ row. keeps row (values_of l.fn.slots) (lent_query l.fn.summary).filter) (take l.row-index (map (λ row. row.now) l.fn.rows)))) l.total
