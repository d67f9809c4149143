use Rattle.std.proofs.Common.{◌≡◌, ◌∙◌, false, ap, subst, sym}
use Rattle.std.proofs.lemmas.Result.{IfOk-weaker}
use Rattle.std.specs.Ordering.{eq_by_cmp}
use Rattle.value.specs.ValueOrder.{value_cmp}
use Rattle.groups.specs.Totals.{Entries, IsTotalOf}
use Rattle.roots.proofs.around.with_row.Goals as goal

pub returns : goal.returns
returns c =
    let a = c.args.summary.aggregate in
    IfOk-weaker c.put.result _ _
    (λ (made : Entries) h. λ before after here elsewhere old.
    h a before after (subst (λ vs. IsTotalOf a vs c.in_ok-total.total) (sym (ap after c.value_or.ensures ∙ here)) c.in_ok-total.ensures)
    (λ v e. elsewhere v (subst (λ g. eq_by_cmp value_cmp v g ≡ false) c.value_or.ensures e)) old)
    c.put.ensures.totals
