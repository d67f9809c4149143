use Rattle.std.proofs.Common.{◌∙◌, List, [], append-nil, ap, map, subst, sym, ◌++◌}
use Rattle.std.specs.Prelude.{All}
use Rattle.std.proofs.lemmas.List.Elements.{All-filter}
use Rattle.table.specs.Bounds.{IsSmallRow}
use Rattle.table.specs.Eval.{keeps}
use Rattle.table.specs.Rows.{RowValues}
use Rattle.changes.proofs.listings.kept_rows.Goals as goal

pub returns-clause-small : goal.returns-clause-small
returns-clause-small c =
    let kept = map (λ row. row.now) c.loop-row.kept.items in
    let all = sym (append-nil kept) ∙ sym (ap (λ (left : List RowValues). kept ++ left) c.in-None.ensures.steps.0) ∙ c.loop-row.invariant in
    subst (All IsSmallRow) (sym all) (All-filter (λ (row : RowValues). keeps row [] c.args.filter.now.condition) IsSmallRow c.args.rows.now c.requires.small)
