use Rattle.std.proofs.Common.{None, ◌++◌, ◌∙◌, ap, subst, sym}
use Rattle.std.proofs.lemmas.Result.{IfOk-weaker}
use Rattle.assertion.specs.Meaning.{State, rows_of}
use Rattle.groups.specs.Totals.{AreTotalsOf, Entries}
use Rattle.roots.specs.Maintained.{IsSmallState}
use Rattle.roots.specs.Shown.{lent_query}
use Rattle.roots.specs.Summaries.{row_members}
use Rattle.roots.specs.Turned.{turned_by}
use Rattle.roots.proofs.MaintainedLemmas.{totals-as, totals-from}
use Rattle.roots.proofs.TurnedLemmas.{nothing_more}
use Rattle.roots.proofs.maintained.total_after.Goals as goal

pub returns-in-None-clause-totals : goal.returns-in-None-clause-totals
returns-in-None-clause-totals c =
    let q = lent_query c.args.summary in
    let none = sym c.rows_around.ensures ∙ c.in-None.is in
    let step = c.requires.step in
    IfOk-weaker c.total_with_change.result _ _
    (λ (made : Entries) h. totals-as q None none c.args.after.now made
    (subst (λ (state : State). AreTotalsOf q.aggregate (row_members q (rows_of q.table state)) made) (sym step.changed)
    (h c.args.schemas.now c.args.before.now step.is (subst IsSmallState step.changed step.small_after) (totals-from q None none c.args.before.now c.args.totals.now c.requires.totals))))
    c.total_with_change.ensures

pub returns-in-None-clause-turned : goal.returns-in-None-clause-turned
returns-in-None-clause-turned c =
    let q = lent_query c.args.summary in
    let old = c.args.turned.now.items in
    IfOk-weaker c.total_with_change.result _ _
    (λ (made : Entries) h. sym (nothing_more old) ∙ ap (λ o. old ++ turned_by c.args.after.now c.args.change.now q o) (sym c.in-None.is ∙ c.rows_around.ensures))
    c.total_with_change.ensures

pub returns-in-Some-clause-turned : goal.returns-in-Some-clause-turned
returns-in-Some-clause-turned c =
    let q = lent_query c.args.summary in
    let old = c.args.turned.now.items in
    IfOk-weaker c.around_after.result _ _
    (λ (made : Entries) h. h ∙ ap (λ o. old ++ turned_by c.args.after.now c.args.change.now q o) (sym c.in-Some.is ∙ c.rows_around.ensures))
    c.around_after.ensures.turned
