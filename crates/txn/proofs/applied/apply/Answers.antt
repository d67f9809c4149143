use Rattle.std.proofs.Common.{◌≡◌, List, ap, sym, refl, ◌∙◌, subst}
use Rattle.table.specs.declared.rows.Change.{Change}
use Rattle.assertion.specs.Declarations.{layouts_in}
use Rattle.assertion.specs.Changes.{AreChangesOf, state_after_all}
use Rattle.alone.specs.States.{net_change}
use Rattle.alone.proofs.Orders.{due_changes, net_is_real}
use Rattle.delta.specs.Views.{ViewState}
use Rattle.txn.proofs.applied.apply.Goals as goal

pub after-requires-clause-are : goal.after-requires-clause-are
after-requires-clause-are c =
    subst (λ changes. AreChangesOf (layouts_in c.args.own.now.declared) changes c.args.own.now.state) (sym c.as_slice.ensures.value)
    (due_changes (layouts_in c.args.own.now.declared) c.args.own.now.state c.recall_order.ensures c.args.effect.changes.items c.requires.changes.due)

pub returns : goal.returns
returns c =
    let layouts = layouts_in c.args.own.now.declared in
    let view : c.in_ok-view.view ≡ record (c.args.own.now) { state = state_after_all layouts c.args.effect.changes.items c.args.own.now.state } =
    c.in_ok-view.ensures
    ∙ ap (λ (changes : List Change). record (c.args.own.now) { state = state_after_all layouts changes c.args.own.now.state }) c.as_slice.ensures.value in
    record {
      applied = record {
        reply = refl;
        view = view;
        changes =
            c.real_changes.ensures.real
            ∙ net_is_real layouts c.args.own.now.state c.recall_order.ensures c.args.effect.changes.items c.requires.changes.due
            ∙ ap (λ (v : ViewState). net_change layouts c.args.own.now.state v.state) (sym view);
      };
    }
