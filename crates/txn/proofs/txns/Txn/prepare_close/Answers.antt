use Rattle.std.proofs.Common.{ap, sym, ◌∙◌, subst, List, ◌++◌}
use Rattle.std.specs.Prelude.{unwrap_or}
use Rattle.siread.specs.declared.keys.LockKey.{LockKey}
use Rattle.assertion.specs.Declarations.{Declared, layouts_in}
use Rattle.alone.specs.Checks.{checks_read, violation}
use Rattle.alone.specs.Modes.{Immediates, deferred_ones}
use Rattle.alone.specs.States.{IsState, net_change}
use Rattle.alone.proofs.Ones.{all_ones}
use Rattle.delta.specs.Views.{ViewState}
use Rattle.txn.specs.contracts.txns.Txn as txn
use Rattle.txn.specs.Held.{IsClosed}
use Rattle.txn.specs.Transactions.{run_of, standing_of}
use Rattle.txn.proofs.txns.Txn.prepare_close.Goals as goal

pub returns : goal.returns
returns c =
    let fit = subst (λ (declared : Declared). IsState (layouts_in declared) c.self.inside.own.state) (ap (λ (s : ViewState). s.declared) c.self.invariant.own_is) c.recall_order-2.ensures in
    let net =
    c.in_ok-changes.ensures (layouts_in c.self.inside.start.declared) c.self.inside.start.state c.self.inside.own.state c.recall_order.ensures fit c.self.invariant.noted
    ∙ ap (λ (s : ViewState). net_change (layouts_in c.self.inside.start.declared) c.self.inside.start.state s.state) c.self.invariant.own_is
    in
    subst (λ t. IsClosed t c.in_ok-changes.changes.items c.in_ok-refused.refused (unwrap_or c.in_ok-keys.keys (run_of t).reads)) c.self.view_is (record {
      changes_are = net;
      refused_is =
          (rw (c.all_immediate-meant.ensures, c.assertions.ensures.value) at c.in_ok-refused.ensures.first)
          ∙ ap (λ ones. violation (layouts_in c.self.inside.own.declared) ones c.self.inside.own.state) (all_ones c.self.inside.own.declared.assertions)
          ∙ ap (λ (s : ViewState). violation (layouts_in s.declared) s.declared.assertions s.state) c.self.invariant.own_is;
      reads_are =
          ap (λ (ks : List LockKey). unwrap_or c.in_ok-keys.keys ks) (sym c.self.invariant.reads_are)
          ∙ (rw (c.as_slice-2.ensures.value) at c.in_ok-keys.ensures)
          ∙ ap (λ ks. ks ++ c.in_ok-checked.checked.items) c.self.invariant.reads_are
          ∙ ap (λ ks. (run_of (txn.the_view c.self.inside)).reads ++ ks) (
          (rw (c.in_ok-deferred.ensures, c.as_slice.ensures.value) at c.in_ok-checked.ensures)
          ∙ ap (λ (modes : Immediates). checks_read (layouts_in c.self.inside.own.declared) c.self.inside.own.state (deferred_ones modes c.self.inside.own.declared.assertions) c.in_ok-changes.changes.items) c.self.invariant.modes_are
          ∙ ap (λ (s : ViewState). checks_read (layouts_in s.declared) s.state (deferred_ones (standing_of (txn.the_view c.self.inside)).modes s.declared.assertions) c.in_ok-changes.changes.items) c.self.invariant.own_is
          ∙ ap (checks_read (layouts_in c.self.inside.start.declared) (run_of (txn.the_view c.self.inside)).final.view (deferred_ones (standing_of (txn.the_view c.self.inside)).modes c.self.inside.start.declared.assertions)) net);
    })
