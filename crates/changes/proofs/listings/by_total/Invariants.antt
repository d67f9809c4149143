use Rattle.std.proofs.Common.{map, take}
use Rattle.groups.specs.Answers.{value_for}
use Rattle.groups.specs.Totals.{IsTotalOf}
use Rattle.changes.proofs.listings.by_total.Given as goal

-- the total so far is that of the rows so far
abbrev pub invariant-loop-row : goal.invariant-loop-row
invariant-loop-row l =
    IsTotalOf l.aggregate (map (value_for l.aggregate) (take l.row-index (map (λ row. row.now) l.rows))) l.total
