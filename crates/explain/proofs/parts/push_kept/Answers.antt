use Rattle.std.proofs.Common.{List, subst}
use Rattle.std.specs.Prelude.{All}
use Rattle.std.proofs.lemmas.List.Elements.{All-tail}
use Rattle.table.specs.Rows.{RowValues}
use Rattle.table.specs.Bounds.{IsSmallRow}
use Rattle.explain.proofs.parts.push_kept.Goals as goal

-- what holds of the rows to come holds of those behind the next
pub loop-row-preserved-then-branch : goal.loop-row-preserved-then-branch
loop-row-preserved-then-branch c =
    All-tail IsSmallRow c.in-Some.row.now c.next.new.self (subst (λ (rows : List RowValues). All IsSmallRow rows) c.in-Some.ensures.steps c.loop-row.invariant)

pub loop-row-preserved : goal.loop-row-preserved
loop-row-preserved c =
    All-tail IsSmallRow c.in-Some.row.now c.next.new.self (subst (λ (rows : List RowValues). All IsSmallRow rows) c.in-Some.ensures.steps c.loop-row.invariant)
