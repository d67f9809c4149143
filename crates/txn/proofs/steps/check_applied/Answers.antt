use Rattle.std.proofs.Common.{◌≡◌, List, ap, sym, refl, ◌∙◌, subst, ◌++◌}
use Rattle.table.specs.declared.rows.Change.{Change}
use Rattle.assertion.specs.Declarations.{Declared, layouts_in}
use Rattle.alone.specs.Modes.{immediate_ones}
use Rattle.alone.specs.Checks.{checks_read, violation}
use Rattle.alone.specs.States.{IsState, net_change}
use Rattle.changes.specs.Nets.{AreChangesBetween}
use Rattle.delta.specs.Views.{ViewState}
use Rattle.txn.proofs.Putting.{between_net, rows_between, rows_done}
use Rattle.txn.proofs.steps.check_applied.Goals as goal

pub returns-clause-done : goal.returns-clause-done
returns-clause-done c = λ effect put.
    rows_done c.args.own.now c.args.modes.now c.args.reads.items effect c.args.applied.view _ c.in_ok-violated.violated c.leave_rows_unless.result
    (ap (λ (v : ViewState). v.state) put.view)
    refl
    (subst (λ (v : ViewState). c.in_ok-violated.violated ≡ violation (layouts_in v.declared) (immediate_ones c.args.modes.now v.declared.assertions) v.state) put.view c.in_ok-violated.ensures.first)
    (subst (λ (v : ViewState). c.leave_rows_unless.result.reads.items ≡ c.args.reads.items ++ checks_read (layouts_in v.declared) v.state (immediate_ones c.args.modes.now v.declared.assertions) (net_change (layouts_in c.args.own.now.declared) c.args.own.now.state v.state)) put.view
    (c.leave_rows_unless.ensures.reads ∙ (rw (c.as_slice.ensures.value) at c.in_ok-push_checks.ensures)
    ∙ ap (λ (changes : List Change). c.args.reads.items ++ checks_read (layouts_in c.args.applied.view.declared) c.args.applied.view.state (immediate_ones c.args.modes.now c.args.applied.view.declared.assertions) changes) put.changes))
    (rw (put.reply) at c.leave_rows_unless.ensures.left)

pub returns-clause-changes : goal.returns-clause-changes
returns-clause-changes c =
    rows_between c.args.own.now c.args.modes.now c.args.applied.changes.items c.leave_rows_unless.result.changes.items c.args.applied.view c.args.applied.reply c.in_ok-violated.violated c.leave_rows_unless.result
    (subst (AreChangesBetween (layouts_in c.args.own.now.declared) c.args.own.now.state c.args.applied.view.state) (sym c.requires.changes)
    (between_net (layouts_in c.args.own.now.declared) c.args.own.now.state c.args.applied.view.state c.recall_order.ensures
    (subst (λ (d : Declared). IsState (layouts_in d) c.args.applied.view.state) c.requires.declared c.recall_order-2.ensures)))
    c.leave_rows_unless.ensures.left c.leave_rows_unless.ensures.changes
