use Rattle.std.proofs.Common.{◌≡◌, ℕ, List, Option, Some, length, sym, ◌∙◌, ap, subst, lit<}
use Rattle.boxcar.specs.Table.{Shelves, Shows}
use Rattle.value.specs.declared.refusals.Refusal.{Refusal}
use Rattle.alone.specs.Commits.{IsLog}
use Rattle.commit.specs.Cores.{CoreState, core_after_commit, log_of, record_of}
use Rattle.session.specs.declared.items.Item.{Item}
use Rattle.session.specs.Books.{AreReceipts, BookState, IsBook, ReceiptState, TicketedTransaction, Token, after_commit, item_after}
use Rattle.session.specs.Answers.{AreShownBy, IsReason, shown_among, shown_for, shown_unless}
use Rattle.session.proofs.Tokens.{book_committed, receipts_of}
use Rattle.session.proofs.Committing.{back_ticketed, refused_book, refused_reason, refused_told}
use Rattle.session.proofs.book.Book.commit_own.Goals as goal

pub refuse_commit-requires : goal.refuse_commit-requires
refuse_commit-requires g c =
    let closed : TicketedTransaction = record { inner = c.closed.inside.inner; ticket = c.closed.inside.ticket } in (
      lit< tt,
      (
        subst (λ (ts : List Token). AreReceipts (g.N.Named.shelf c.self.inside.id) c.self.inside.epoch ts) (sym (c.as_slice.ensures.value ∙ c.in-Err.ensures.same)) (receipts_of _ _ _ c.self.invariant),
        back_ticketed c.self.inside.core c.append.new.core c.args.session.now.name closed c.in-Err.fault.refusal c.in-Err.fault.txn c.closed.invariant.0 c.in-Err.ensures.refused,
      ),
    )

pub invariant_of-self : goal.invariant_of-self
invariant_of-self g c =
    let closed : TicketedTransaction = record { inner = c.closed.inside.inner; ticket = c.closed.inside.ticket } in
    let log : IsLog (log_of c.self.inside.core) = subst (λ (s : BookState). IsLog (log_of s.core)) (sym c.self.view_is) c.count-count.ensures.log in
    let declared : closed.inner.declared ≡ c.self.inside.core.declared =
    ap (λ (t : TicketedTransaction). t.inner.declared) c.closed.view_is ∙ (c.requires.live.declared_is ∙ ap (λ (s : BookState). s.core.declared) (sym c.self.view_is)) in
    subst (λ (ts : List Token). IsBook (g.N.Named.shelf c.self.inside.id) (g.N.Named.limits c.self.inside.id) (record { core = c.append.new.core; id = c.self.inside.id; epoch = c.self.inside.epoch; tokens = ts; handed = c.self.inside.handed; most = c.self.inside.most }))
    (sym c.in-Err.ensures.same)
    (refused_book _ _ _ c.self.invariant log c.args.session.now.name closed declared c.in-Err.fault.refusal c.in-Err.fault.txn c.append.new.core c.in-Err.ensures.refused)

pub returns-in-Err-clause-refused : goal.returns-in-Err-clause-refused
returns-in-Err-clause-refused g c =
    let closed : TicketedTransaction = record { inner = c.closed.inside.inner; ticket = c.closed.inside.ticket } in
    let book : BookState = record { core = c.self.inside.core; id = c.self.inside.id; epoch = c.self.inside.epoch; tokens = c.self.inside.tokens.items; handed = c.self.inside.handed; most = c.self.inside.most } in
    let log : IsLog (log_of c.self.inside.core) = subst (λ (s : BookState). IsLog (log_of s.core)) (sym c.self.view_is) c.count-count.ensures.log in
    let declared : closed.inner.declared ≡ c.self.inside.core.declared =
    ap (λ (t : TicketedTransaction). t.inner.declared) c.closed.view_is ∙ (c.requires.live.declared_is ∙ ap (λ (s : BookState). s.core.declared) (sym c.self.view_is)) in
    let count : c.count-count.result ≡ length c.self.inside.core.records = c.count-count.ensures.count ∙ ap (λ (s : BookState). length s.core.records) (sym c.self.view_is) in
    let shown : c.refuse_commit.result.shown ≡ shown_unless c.in-Err.fault.txn (shown_for book c.in-Err.fault.refusal) =
    c.refuse_commit.ensures.shown
    ∙ (ap (λ (ts : List Token). shown_unless c.in-Err.fault.txn (shown_among ts c.self.inside.id c.self.inside.epoch c.count-count.result c.in-Err.fault.refusal)) (c.as_slice.ensures.value ∙ c.in-Err.ensures.same)
    ∙ ap (λ (n : ℕ). shown_unless c.in-Err.fault.txn (shown_among c.self.inside.tokens.items c.self.inside.id c.self.inside.epoch n c.in-Err.fault.refusal)) count) in
    refused_told _ _ book c.self.invariant log c.args.session.now.name closed declared c.in-Err.fault.refusal c.in-Err.fault.txn c.append.new.core c.in-Err.ensures.refused
    c.args.self.now c.self.view_is c.args.closed c.closed.view_is c.refuse_commit.result.refusal c.refuse_commit.ensures.refusal c.refuse_commit.result.txn c.refuse_commit.ensures.txn
    c.refuse_commit.result.shown shown
    _ (ap (λ (ts : List Token). record { core = c.append.new.core; id = c.self.inside.id; epoch = c.self.inside.epoch; tokens = ts; handed = c.self.inside.handed; most = c.self.inside.most }) c.in-Err.ensures.same)

pub returns-in-Err-clause-reason : goal.returns-in-Err-clause-reason
returns-in-Err-clause-reason g c =
    let closed : TicketedTransaction = record { inner = c.closed.inside.inner; ticket = c.closed.inside.ticket } in
    let book : BookState = record { core = c.self.inside.core; id = c.self.inside.id; epoch = c.self.inside.epoch; tokens = c.self.inside.tokens.items; handed = c.self.inside.handed; most = c.self.inside.most } in
    let log : IsLog (log_of c.self.inside.core) = subst (λ (s : BookState). IsLog (log_of s.core)) (sym c.self.view_is) c.count-count.ensures.log in
    let declared : closed.inner.declared ≡ c.self.inside.core.declared =
    ap (λ (t : TicketedTransaction). t.inner.declared) c.closed.view_is ∙ (c.requires.live.declared_is ∙ ap (λ (s : BookState). s.core.declared) (sym c.self.view_is)) in
    let count : c.count-count.result ≡ length c.self.inside.core.records = c.count-count.ensures.count ∙ ap (λ (s : BookState). length s.core.records) (sym c.self.view_is) in
    let shown : c.refuse_commit.result.shown ≡ shown_unless c.in-Err.fault.txn (shown_for book c.in-Err.fault.refusal) =
    c.refuse_commit.ensures.shown
    ∙ (ap (λ (ts : List Token). shown_unless c.in-Err.fault.txn (shown_among ts c.self.inside.id c.self.inside.epoch c.count-count.result c.in-Err.fault.refusal)) (c.as_slice.ensures.value ∙ c.in-Err.ensures.same)
    ∙ ap (λ (n : ℕ). shown_unless c.in-Err.fault.txn (shown_among c.self.inside.tokens.items c.self.inside.id c.self.inside.epoch n c.in-Err.fault.refusal)) count) in
    let id : c.self.inside.id ≡ c.args.asker.now.id = ap (λ (s : BookState). s.id) c.self.view_is ∙ c.requires.id in
    let reason = refused_reason _ _ book c.self.invariant log c.args.session.now.name closed declared c.in-Err.fault.refusal c.in-Err.fault.txn c.append.new.core c.in-Err.ensures.refused in
    subst (λ (n : ℕ). IsReason (g.N.Named.limits n).commits c.args.session.now.name c.args.closed.inner c.refuse_commit.result.refusal c.refuse_commit.result.shown) id
    (subst (λ (x : TicketedTransaction). IsReason (g.N.Named.limits c.self.inside.id).commits c.args.session.now.name x.inner c.refuse_commit.result.refusal c.refuse_commit.result.shown) c.closed.view_is
    (subst (λ (r : Refusal). IsReason (g.N.Named.limits c.self.inside.id).commits c.args.session.now.name closed.inner r c.refuse_commit.result.shown) (sym c.refuse_commit.ensures.refusal)
    (subst (λ (s : List (Option ReceiptState)). IsReason (g.N.Named.limits c.self.inside.id).commits c.args.session.now.name closed.inner c.in-Err.fault.refusal s) (sym shown) reason)))

pub returns-in-Err-clause-shown : goal.returns-in-Err-clause-shown
returns-in-Err-clause-shown g c =
    let id : c.self.inside.id ≡ c.args.asker.now.id = ap (λ (s : BookState). s.id) c.self.view_is ∙ c.requires.id in
    let epoch : c.self.inside.epoch ≡ c.args.asker.now.epoch = ap (λ (s : BookState). s.epoch) c.self.view_is ∙ c.requires.epoch in
    subst (λ n. AreShownBy n c.args.asker.now.epoch c.refuse_commit.result.shown) id
    (subst (λ n. AreShownBy c.self.inside.id n c.refuse_commit.result.shown) epoch c.refuse_commit.ensures.by)

pub invariant_of-self-2 : goal.invariant_of-self-2
invariant_of-self-2 g c =
    let book : BookState = record { core = c.self.inside.core; id = c.self.inside.id; epoch = c.self.inside.epoch; tokens = c.self.inside.tokens.items; handed = c.self.inside.handed; most = c.self.inside.most } in
    let id : c.self.inside.id ≡ c.args.asker.now.id = ap (λ (s : BookState). s.id) c.self.view_is ∙ c.requires.id in
    let epoch : c.self.inside.epoch ≡ c.args.asker.now.epoch = ap (λ (s : BookState). s.epoch) c.self.view_is ∙ c.requires.epoch in
    let made = c.in-Ok.ensures in
    let token = c.in-Ok.made.token in
    let log = subst (λ (k : CoreState). IsLog (log_of k)) made.after made.log in
    let shown : Shows (g.N.Named.shelf c.self.inside.id) token = subst (λ (s : Shelves). Shows s token) (c.requires.shelf ∙ sym (ap g.N.Named.shelf id)) made.shown in
    let value : token.value ≡ item_after c.self.inside.epoch c.self.inside.core c.args.session.now.name c.closed.inside.inner =
    made.item ∙ ap (λ (e : ℕ). item_after e c.self.inside.core c.args.session.now.name c.closed.inside.inner) (sym epoch) in
    let done = book_committed _ _ book c.args.session.now.name c.closed.inside.inner token c.self.invariant log shown value in
    subst (λ (k : CoreState). IsBook (g.N.Named.shelf c.self.inside.id) (g.N.Named.limits c.self.inside.id) (record { core = k; id = c.self.inside.id; epoch = c.self.inside.epoch; tokens = c.append.new.tokens.items; handed = c.self.inside.handed; most = c.self.inside.most })) (sym made.after)
    (subst (λ (ts : List Token). IsBook (g.N.Named.shelf c.self.inside.id) (g.N.Named.limits c.self.inside.id) (record { core = core_after_commit c.self.inside.core c.args.session.now.name c.closed.inside.inner; id = c.self.inside.id; epoch = c.self.inside.epoch; tokens = ts; handed = c.self.inside.handed; most = c.self.inside.most })) (sym made.tokens) done)

pub returns-clause-commit : goal.returns-clause-commit
returns-clause-commit g c =
    ap (λ (r : ReceiptState). r.token.value.commit) c.new.ensures
    ∙ (ap (λ (i : Item). i.commit) c.in-Ok.ensures.item
    ∙ (ap (λ (s : BookState). Some (record_of s.core c.args.session.now.name c.closed.inside.inner)) c.self.view_is
    ∙ ap (λ (t : TicketedTransaction). Some (record_of c.args.self.now.core c.args.session.now.name t.inner)) c.closed.view_is))

pub returns-clause-after : goal.returns-clause-after
returns-clause-after g c =
    let book : BookState = record { core = c.self.inside.core; id = c.self.inside.id; epoch = c.self.inside.epoch; tokens = c.self.inside.tokens.items; handed = c.self.inside.handed; most = c.self.inside.most } in
    ap (λ (k : CoreState). record { core = k; id = c.self.inside.id; epoch = c.self.inside.epoch; tokens = c.append.new.tokens.items; handed = c.self.inside.handed; most = c.self.inside.most }) c.in-Ok.ensures.after
    ∙ (ap (λ (ts : List Token). record { core = core_after_commit c.self.inside.core c.args.session.now.name c.closed.inside.inner; id = c.self.inside.id; epoch = c.self.inside.epoch; tokens = ts; handed = c.self.inside.handed; most = c.self.inside.most }) c.in-Ok.ensures.tokens
    ∙ (ap (λ (w : Token). after_commit book c.args.session.now.name c.closed.inside.inner w) (sym (ap (λ (r : ReceiptState). r.token) c.new.ensures))
    ∙ (ap (λ (s : BookState). after_commit s c.args.session.now.name c.closed.inside.inner c.new.result.token) c.self.view_is
    ∙ ap (λ (t : TicketedTransaction). after_commit c.args.self.now c.args.session.now.name t.inner c.new.result.token) c.closed.view_is)))
