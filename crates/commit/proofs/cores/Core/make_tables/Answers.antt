use Rattle.std.proofs.Common.{◌≡◌, [], ap, sym, ◌∙◌, subst}
use Rattle.changes.proofs.Places.{tables_state}
use Rattle.assertion.specs.Declarations.{layouts_in}
use Rattle.assertion.specs.Changes.{AreChangesOf}
use Rattle.delta.specs.Views.{AreTables, ViewState}
use Rattle.alone.specs.Commits.{HasNoWriteConflict}
use Rattle.txn.specs.Transactions.{OpenTransaction, own_view}
use Rattle.commit.specs.Cores.{CoreState, IsLive, log_of, newest_tables, record_of, with_commit}
use Rattle.commit.specs.Kept.{idle_core}
use Rattle.commit.proofs.Keeping.{idle_view}
use Rattle.commit.proofs.Accepting.{own_is, puts}
use Rattle.commit.proofs.cores.Core.make_tables.Goals as goal

pub after-requires-clause-are : goal.after-requires-clause-are
after-requires-clause-are c =
    let now = idle_core c.self.inside.limit c.self.inside.loaded c.self.inside.records.items c.self.inside.refused.items c.self.inside.live in
    let is : now ≡ c.args.self.now = idle_view now c.args.self.now c.self.inside.prepared c.self.view_is c.requires.idle in
    let live = subst (λ (s : CoreState). IsLive s c.args.closed.now) (sym is) c.requires.live in
    let free = subst (λ (s : CoreState). HasNoWriteConflict (log_of s) (record_of s [] c.args.closed.now)) (sym is) (c.requires.free []) in
    subst (λ changes. AreChangesOf (layouts_in c.self.inside.newest.declared) changes c.self.inside.newest.state) (sym c.changes.ensures.net)
    (puts now c.self.inside.newest c.self.inside.places.items c.self.inside.reaches.items c.self.inside.order.items c.self.invariant.0 [] c.args.closed.now live
    free)

pub returns-in_ok-view : goal.returns-in_ok-view
returns-in_ok-view c = λ session.
    let now = idle_core c.self.inside.limit c.self.inside.loaded c.self.inside.records.items c.self.inside.refused.items c.self.inside.live in
    let is : now ≡ c.args.self.now = idle_view now c.args.self.now c.self.inside.prepared c.self.view_is c.requires.idle in
    let live = subst (λ (s : CoreState). IsLive s c.args.closed.now) (sym is) c.requires.live in
    c.in_ok-view.ensures ∙ (c.own-own.ensures ∙ ap own_view c.txn-txn.ensures)
    ∙ subst (λ (s : CoreState). own_view c.args.closed.now ≡ newest_tables (with_commit s (record_of s session c.args.closed.now))) is
    (own_is now c.self.inside.newest c.self.inside.places.items c.self.inside.reaches.items c.self.inside.order.items c.self.invariant.0 session c.args.closed.now live
    (sym (c.snapshot.ensures ∙ ap (λ (t : OpenTransaction). t.snapshot) c.txn-txn.ensures) ∙ c.if-snapshot-len.true ∙ c.len.ensures ∙ c.self.inside.records.ok.0)
    (tables_state _ _ (subst (λ (s : ViewState). AreTables (layouts_in s.declared) s.state) (c.own-own.ensures ∙ ap own_view c.txn-txn.ensures) c.catalog.ensures.tables)))
