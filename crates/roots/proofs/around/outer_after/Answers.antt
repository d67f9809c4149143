use Rattle.std.proofs.Common.{Some, subst, sym}
use Rattle.std.proofs.lemmas.Result.{IfOk-weaker}
use Rattle.groups.specs.Totals.{Entries, IsTotalOf}
use Rattle.roots.specs.Shown.{lent_query}
use Rattle.roots.proofs.AroundSteps.{key_is, outer_gone, outer_put}
use Rattle.roots.proofs.MaintainedLemmas.{totals-from}
use Rattle.roots.proofs.around.outer_after.Goals as goal

pub returns-in-Some : goal.returns-in-Some
returns-in-Some c =
    let q = lent_query c.args.summary in
    let around = c.args.around in
    IfOk-weaker c.with_row.result _ _
    (λ (made : Entries) h. outer_put c.args.schemas.now c.args.change.now c.args.before.now c.args._after.now c.requires.step around q (key_is c.args.schemas.now q around c.requires.around c.requires.keyed) c.if-around-change.false
    c.in-Some.row c.in-Some.is c.args.totals made h (totals-from q (Some around) c.requires.around c.args.before.now c.args.totals c.requires.totals))
    c.with_row.ensures

pub returns-in-None : goal.returns-in-None
returns-in-None c =
    let q = lent_query c.args.summary in
    let around = c.args.around in
    let a = c.args.summary.aggregate in
    IfOk-weaker c.put.result _ _
    (λ (made : Entries) h. outer_gone c.args.schemas.now c.args.change.now c.args.before.now c.args._after.now c.requires.step around q (key_is c.args.schemas.now q around c.requires.around c.requires.keyed) c.if-around-change.false
    c.in-None.is c.args.totals made (λ old new gone elsewhere are. h a old new (subst (λ vs. IsTotalOf a vs c.new.result) (sym gone) (c.new.ensures.total a)) elsewhere are)
    (totals-from q (Some around) c.requires.around c.args.before.now c.args.totals c.requires.totals))
    c.put.ensures.totals
