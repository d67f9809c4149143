use Rattle.std.proofs.Common.{◌∙◌, List, ap, map, subst, sym}
use Rattle.std.specs.Prelude.{All, IsTrue, filter}
use Rattle.std.proofs.lemmas.List.Elements.{All-filter}
use Rattle.std.proofs.lemmas.Result.{IfOk-weaker}
use Rattle.table.specs.Bounds.{IsSmallRow, is_bounded}
use Rattle.table.specs.Eval.{keeps}
use Rattle.table.specs.Rows.{RowValues}
use Rattle.table.proofs.SlotlessLemmas.{bounded_beside}
use Rattle.assertion.specs.Meaning.{links, rows_of}
use Rattle.groups.specs.Answers.{value_for}
use Rattle.groups.specs.Figures.{Figures}
use Rattle.groups.specs.Totals.{IsTotalOf}
use Rattle.roots.proofs.AroundLemmas.{kept_are}
use Rattle.roots.proofs.around.total_beside.Goals as goal

pub total_of_kept-requires-clause-bounded : goal.total_of_kept-requires-clause-bounded
total_of_kept-requires-clause-bounded c =
    let f = c.args.summary.filter.now in
    subst IsTrue (sym (ap (λ kinds. is_bounded kinds f) c.in_ok-slots.ensures.kinds ∙ bounded_beside c.args.row.now f)) c.requires.bounded

pub total_of_kept-requires-clause-small : goal.total_of_kept-requires-clause-small
total_of_kept-requires-clause-small c =
    let table = c.args.summary.table in
    subst (All IsSmallRow) (sym (ap (map (λ row. row.now)) c.deref.ensures.value ∙ c.in_ok-linked.ensures))
    (All-filter (λ linked. links c.args.link c.args.row.now linked) IsSmallRow (rows_of table c.args.tables.now) (c.requires.small.small table))

pub returns : goal.returns
returns c =
    let a = c.args.summary.aggregate in
    let f = c.args.summary.filter.now in
    let row = c.args.row.now in
    let rows = rows_of c.args.summary.table c.args.tables.now in
    let found = map (λ row. row.now) c.deref.result.now in
    let lent = ap (map (λ row. row.now)) c.deref.ensures.value ∙ c.in_ok-linked.ensures in
    let beside = ap (λ vs. filter (λ r. keeps r vs f) found) c.in_ok-slots.ensures.values ∙ ap (filter (λ r. keeps r row f)) lent ∙ kept_are c.args.link f rows row in
    IfOk-weaker c.total_of_kept.result _ _ (λ (t : Figures) h. subst (λ (xs : List RowValues). IsTotalOf a (map (value_for a) xs) t) beside h) c.total_of_kept.ensures
