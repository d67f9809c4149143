-- What a COMMIT leaves of a Book.
use Rattle.std.proofs.Common.{◌≡◌, ℕ, ◌+◌, Bool, true, false, List, Option, Some, None, Result, Ok, Err, length, refl, sym, ap, ◌∙◌, subst}
use Rattle.std.specs.Prelude.{◌==◌, IfOk}
use Rattle.boxcar.specs.Table.{Shelves}
use Rattle.value.specs.Ordered.{HoldsOf}
use Rattle.value.specs.declared.refusals.Refusal.{Refusal}
use Rattle.alone.specs.Commits.{IsLog}
use Rattle.txn.specs.Transactions.{OpenTransaction, outcome_of}
use Rattle.commit.specs.Cores.{CoreState, IsCommitAnswer, IsDecided, IsUncommitted, log_of, record_of, record_with}
use Rattle.session.specs.Limits.{LimitsState}
use Rattle.session.specs.Books.{BookState, IsBook, IsTicketed, ReceiptState, TicketedTransaction}
use Rattle.session.specs.Answers.{IsNotCommitted, IsReason, IsUntaken, only, shown_for, shown_unless, with_ticket}
use Rattle.session.proofs.Reasons.{reasons}
use Rattle.session.proofs.Tokens.{book_refused}

-- an accepted commit has the next number
pub next_number : (c : CoreState) (session : List ℕ) (t : OpenTransaction) (number : ℕ) → IsCommitAnswer c session t (Ok number) → number ≡ length c.records + 1
next_number c session t number h = go (outcome_of t).refused (length c.records == c.limit) h
  where
    go : (refused : Option Refusal) (full : Bool) → IsDecided c (record_of c session t) refused full (Ok number) → number ≡ length c.records + 1
    go (Some refusal) full h = let no : ⊥ = cc in absurd no
    go None true h = let no : ⊥ = cc in absurd no
    go None false h = h.0

-- the transaction that a refused COMMIT gives back is the one that was closed
pub back_ticketed : (c after : CoreState) (session : List ℕ) (t : TicketedTransaction) (refusal : Refusal) (back : Option OpenTransaction) → IsTicketed t
    → IsUncommitted c session t.inner refusal back after → HoldsOf (λ u. IsTicketed (record { inner = u; ticket = t.ticket })) back
back_ticketed c after session t refusal None h u = tt
back_ticketed c after session t refusal (Some back) h u = subst (λ (v : OpenTransaction). IsTicketed (record { inner = v; ticket = t.ticket })) (sym u.1) h

module _ (shelf : Shelves) (limits : LimitsState) (b : BookState) (book : IsBook shelf limits b) (log : IsLog (log_of b.core)) (session : List ℕ) (t : TicketedTransaction) (declared : t.inner.declared ≡ b.core.declared) where
  -- a refused COMMIT leaves the Book as it was, or with one refused commit more
  pub refused_answer : (refusal : Refusal) (back : Option OpenTransaction) (after : CoreState) → IsUncommitted b.core session t.inner refusal back after
      → IsNotCommitted b true session t refusal (with_ticket t.ticket back) (shown_unless back (shown_for b refusal)) (record b { core = after })
  refused_answer refusal None after u =
      (refl, (reasons shelf limits b book log session t.inner refusal declared u.1).1, u.1, refl, ap (λ (c : CoreState). record b { core = c }) u.2)
  refused_answer refusal (Some back) after u = (
    subst (λ (r : Refusal). IsUntaken true r) (sym u.0) refl,
    ap (λ (v : OpenTransaction). record { inner = v; ticket = t.ticket }) u.1,
    refl,
    ap (λ (c : CoreState). record b { core = c }) u.2,
  )

  pub refused_reason : (refusal : Refusal) (back : Option OpenTransaction) (after : CoreState) → IsUncommitted b.core session t.inner refusal back after
      → IsReason limits.commits session t.inner refusal (shown_unless back (shown_for b refusal))
  refused_reason refusal None after u =
      subst (λ n. IsReason n session t.inner refusal (shown_for b refusal)) book.commits (reasons shelf limits b book log session t.inner refusal declared u.1).0
  refused_reason refusal (Some back) after u = subst (λ (r : Refusal). IsReason limits.commits session t.inner r (only None)) (sym u.0) tt

  pub refused_book : (refusal : Refusal) (back : Option OpenTransaction) (after : CoreState) → IsUncommitted b.core session t.inner refusal back after
      → IsBook shelf limits (record b { core = after })
  refused_book refusal None after u = subst (λ (c : CoreState). IsBook shelf limits (record b { core = c })) (sym u.2) (book_refused shelf limits b session t.inner refusal book)
  refused_book refusal (Some back) after u = subst (λ (c : CoreState). IsBook shelf limits (record b { core = c })) (sym u.2) book

  -- the same, as the Book, the transaction and the answer are named by the caller
  pub refused_told : (refusal : Refusal) (back : Option OpenTransaction) (after : CoreState) → IsUncommitted b.core session t.inner refusal back after
      → (b' : BookState) → b ≡ b' → (t' : TicketedTransaction) → t ≡ t' → (refusal' : Refusal) → refusal' ≡ refusal → (txn : Option TicketedTransaction) → txn ≡ with_ticket t.ticket back
      → (shown : List (Option ReceiptState)) → shown ≡ shown_unless back (shown_for b refusal) → (d : BookState) → d ≡ record b { core = after }
      → IsNotCommitted b' true session t' refusal' txn shown d
  refused_told refusal back after u b' eb t' et refusal' er txn ex shown es d ed =
      subst (λ (x : BookState). IsNotCommitted x true session t' refusal' txn shown d) eb
      (subst (λ (x : TicketedTransaction). IsNotCommitted b true session x refusal' txn shown d) et
      (subst (λ (x : Refusal). IsNotCommitted b true session t x txn shown d) (sym er)
      (subst (λ (x : Option TicketedTransaction). IsNotCommitted b true session t refusal x shown d) (sym ex)
      (subst (λ (x : List (Option ReceiptState)). IsNotCommitted b true session t refusal (with_ticket t.ticket back) x d) (sym es)
      (subst (λ (x : BookState). IsNotCommitted b true session t refusal (with_ticket t.ticket back) (shown_unless back (shown_for b refusal)) x) (sym ed)
      (refused_answer refusal back after u))))))

-- the record of a receipt, by its number
pub by_number : {E : Type 0} (c : CoreState) (name : List ℕ) (t u : OpenTransaction) → t ≡ u → (result : Result ReceiptState E)
    → IfOk result (λ r. r.token.value.commit ≡ Some (record_of c name t)) → IfOk result (λ r. IsCommitAnswer c name t (Ok r.number))
    → IfOk result (λ r. r.token.value.commit ≡ Some (record_with r.number name u))
by_number c name t u same (Ok r) h a =
    h ∙ (ap (λ (n : ℕ). Some (record_with n name t)) (sym (next_number c name t r.number a)) ∙ ap (λ (v : OpenTransaction). Some (record_with r.number name v)) same)
by_number c name t u same (Err fault) h a = tt
