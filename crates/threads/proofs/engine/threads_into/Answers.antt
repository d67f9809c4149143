use Rattle.std.proofs.Common.{◌≡◌, None, true, false, ap, ◌∙◌, subst, rules}
use Rattle.std.specs.Prelude.{OnOk, IfErr}
use Rattle.replay.specs.declared.faults.ProgramFault.TheVariants.{NoThread}
use Rattle.replay.specs.Texts.{is_before_the_run}
use Rattle.session.specs.Books.{Token}
use Rattle.session.specs.Limits.{LimitsState}
use Rattle.threads.specs.Scripts.{AreAnswered}
use Rattle.threads.specs.Grouped.{PrintsGrouped}
use Rattle.threads.proofs.Reporting.{not_unrun, reports, reports_unrun}
use Rattle.threads.proofs.engine.threads_into.Goals as goal

pub returns-in_err-manager-clause-no_thread : goal.returns-in_err-manager-clause-no_thread
returns-in_err-manager-clause-no_thread g c =
    let before : IfErr c.from_residual.result (λ fault. is_before_the_run fault ≡ true) = search rules in
    not_unrun _ _ before

-- what was lent to the two calls as slices are the scripts and the answers; the history is over what the manager was
-- opened on, with the limit that was handed in
pub returns-clause-written : goal.returns-clause-written
returns-clause-written g c =
    let scripts = c.in_ok-manager.scripts.items in
    let found = c.in-Ok.answered.items in
    let history = c.close-history.result in
    let limits = g.N.Named.limits in
    let printed = c.print_report-printed.result in
    let old = g.W.Write.contents c.args.out.now in
    let new = g.W.Write.contents c.print_report-printed.new.out in
    let answered : AreAnswered scripts found =
    subst (λ lent. AreAnswered lent found) c.as_slice.ensures.value c.in-Ok.ensures in
    let loaded = ap (λ (t : Token). t.value.view) c.close-history.ensures.loaded in
    let limit = ap (λ n. (limits n).commits) (c.close-history.ensures.whose.0 ∙ c.in_ok-manager.ensures.id) ∙ ap (λ (l : LimitsState). l.commits) c.requires.limits in
    reports _ _ _ _ _ c.in_ok-manager.ensures.opened printed found old new answered
    (subst (λ n. OnOk printed (PrintsGrouped scripts found c.in_ok-manager.manager.loaded.value.view n None true old new)) limit
    (subst (λ view. OnOk printed (PrintsGrouped scripts found view (limits history.id).commits None true old new)) loaded
    (subst (λ lent. OnOk printed (PrintsGrouped lent found history.loaded.value.view (limits history.id).commits None true old new)) c.as_slice-2.ensures.value
    (subst (λ lent. OnOk printed (PrintsGrouped c.as_slice-2.result.now lent history.loaded.value.view (limits history.id).commits None true old new)) c.as_slice-3.ensures.value
    c.print_report-printed.ensures.written))))

pub returns-clause-no_thread : goal.returns-clause-no_thread
returns-clause-no_thread g c =
    let scripts = c.in_ok-manager.scripts.items in
    let found = c.in-Ok.answered.items in
    let history = c.close-history.result in
    let limits = g.N.Named.limits in
    let printed = c.print_report-printed.result in
    let old = g.W.Write.contents c.args.out.now in
    let new = g.W.Write.contents c.print_report-printed.new.out in
    let answered : AreAnswered scripts found =
    subst (λ lent. AreAnswered lent found) c.as_slice.ensures.value c.in-Ok.ensures in
    let loaded = ap (λ (t : Token). t.value.view) c.close-history.ensures.loaded in
    let limit = ap (λ n. (limits n).commits) (c.close-history.ensures.whose.0 ∙ c.in_ok-manager.ensures.id) ∙ ap (λ (l : LimitsState). l.commits) c.requires.limits in
    reports_unrun _ _ _ _ _ c.in_ok-manager.ensures.opened printed found old new answered
    (subst (λ n. IfErr printed (λ fault. fault ≡ NoThread → PrintsGrouped scripts found c.in_ok-manager.manager.loaded.value.view n None false old new)) limit
    (subst (λ view. IfErr printed (λ fault. fault ≡ NoThread → PrintsGrouped scripts found view (limits history.id).commits None false old new)) loaded
    (subst (λ lent. IfErr printed (λ fault. fault ≡ NoThread → PrintsGrouped lent found history.loaded.value.view (limits history.id).commits None false old new)) c.as_slice-2.ensures.value
    (subst (λ lent. IfErr printed (λ fault. fault ≡ NoThread
    → PrintsGrouped c.as_slice-2.result.now lent history.loaded.value.view (limits history.id).commits None false old new))
    c.as_slice-3.ensures.value c.print_report-printed.ensures.no_thread))))
