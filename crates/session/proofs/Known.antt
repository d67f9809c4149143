-- The tests that tell a manager's own from a stranger's say what they test.
use Rattle.std.proofs.Common.{◌≡◌, ℕ, List, true, refl, sym, subst, Option, Some, None}
use Rattle.std.specs.Prelude.{slice_get}
use Rattle.std.proofs.lemmas.Bool.{and_parts, eqb-true, leb-true, ltb-true}
use Rattle.conflict.specs.declared.open_snapshots.LiveSnapshot.{LiveSnapshot}
use Rattle.conflict.proofs.Holding.{held_facts}
use Rattle.value.specs.declared.refusals.Party.{Party}
use Rattle.value.specs.declared.refusals.Party.TheVariants.{This, Number as Numbered}
use Rattle.value.specs.declared.refusals.Refusal.{Refusal}
use Rattle.value.specs.declared.refusals.Refusal.TheVariants.{EpochFull, WriteConflict, Dangerous}
use Rattle.txn.specs.Transactions.{OpenTransaction}
use Rattle.session.specs.Books.{BookState, IsAt, IsFrom, IsKept, IsKnown, IsOf, IsOwned, ReceiptState, SessionState, TicketState, Token, is_from, is_index, is_kept, is_of, knows, owns}
use Rattle.session.specs.Answers.{AreShownBy, IsShownBy, only, party_receipt, receipt_at, receipt_of, shown_among, shown_unless}

pub of_facts : (b : BookState) (own_id own_epoch id epoch : ℕ) → is_of b own_id own_epoch id epoch ≡ true
    → IsOf b own_id own_epoch id epoch
of_facts b own_id own_epoch id epoch h =
    let p = and_parts _ _ h in
    let q = and_parts _ _ p.1 in
    let r = and_parts _ _ q.1 in record {
      book_id = eqb-true _ _ p.0;
      book_epoch = eqb-true _ _ q.0;
      same_id = eqb-true _ _ r.0;
      same_epoch = eqb-true _ _ r.1;
    }

pub known_facts : (b : BookState) (s : SessionState) (id epoch : ℕ) → knows b s id epoch ≡ true → IsKnown b s id epoch
known_facts b s id epoch h =
    let p = and_parts _ _ h in record { of = of_facts b s.id s.epoch id epoch p.0; seen = leb-true _ _ p.1 }

at_facts : (b : BookState) (number index : ℕ) → is_index index (slice_get b.tokens number) ≡ true → IsAt b number index
at_facts b number index h = go (slice_get b.tokens number) refl h
  where
    go : (o : Option Token) → slice_get b.tokens number ≡ o → is_index index o ≡ true → IsAt b number index
    go None at h = let no : ⊥ = cc in absurd no
    go (Some token) at h = record { token = token; at = at; same = eqb-true _ _ h }

pub owned_facts : (b : BookState) (t : TicketState) (one : LiveSnapshot) (id epoch : ℕ) → owns b t one id epoch ≡ true → IsOwned b t one id epoch
owned_facts b t one id epoch h =
    let p = and_parts _ _ h in
    let q = and_parts _ _ p.1 in record {
      of = of_facts b t.id t.epoch id epoch p.0;
      held = held_facts one.begin_number one.snapshot one.read_only b.core.live.snapshots q.0;
      token = at_facts b one.snapshot t.token.index q.1;
    }

pub kept_facts : (b : BookState) (r : ReceiptState) (id epoch : ℕ) → is_kept b r id epoch ≡ true → IsKept b r id epoch
kept_facts b r id epoch h =
    let p = and_parts _ _ h in
    let q = and_parts _ _ p.1 in record {
      of = of_facts b r.id r.epoch id epoch p.0;
      positive = ltb-true _ _ q.0;
      token = at_facts b r.number r.token.index q.1;
    }

pub from_facts : (b : BookState) (id epoch : ℕ) (loaded : Token) → is_from b id epoch loaded ≡ true → IsFrom b id epoch loaded.index
from_facts b id epoch loaded h =
    let p = and_parts _ _ h in
    let q = and_parts _ _ p.1 in record {
      book_id = eqb-true _ _ p.0;
      book_epoch = eqb-true _ _ q.0;
      token = at_facts b 0 loaded.index q.1;
    }

-- the receipts that a refusal shows are of the id and epoch that they are made for
receipt_by : (id epoch number : ℕ) (token : Option Token) → IsShownBy id epoch (receipt_of id epoch number token)
receipt_by id epoch number None = tt
receipt_by id epoch number (Some token) = (refl, refl)

party_by : (tokens : List Token) (id epoch : ℕ) (party : Party) → IsShownBy id epoch (party_receipt tokens id epoch party)
party_by tokens id epoch This = tt
party_by tokens id epoch (Numbered number) = receipt_by id epoch number (slice_get tokens number)

none_shown : (id epoch : ℕ) → AreShownBy id epoch (only None)
none_shown id epoch = (tt, (tt, (tt, tt)))

one_shown : (tokens : List Token) (id epoch number : ℕ) → AreShownBy id epoch (only (receipt_at tokens id epoch number))
one_shown tokens id epoch number = (receipt_by id epoch number (slice_get tokens number), (tt, (tt, tt)))

among_by : (tokens : List Token) (id epoch count : ℕ) (refusal : Refusal) → AreShownBy id epoch (shown_among tokens id epoch count refusal)
among_by tokens id epoch count (WriteConflict name key by) = one_shown tokens id epoch by
among_by tokens id epoch count (Dangerous reader pivot writer) =
    (party_by tokens id epoch reader, (party_by tokens id epoch pivot, (party_by tokens id epoch writer, tt)))
among_by tokens id epoch count EpochFull = one_shown tokens id epoch count
among_by tokens id epoch count refusal = none_shown id epoch

pub none_by : (shown : List (Option ReceiptState)) → shown ≡ only None → (id epoch : ℕ) → AreShownBy id epoch shown
none_by shown is id epoch = subst (AreShownBy id epoch) (sym is) (none_shown id epoch)

pub shown_by : (tokens : List Token) (id epoch count : ℕ) (refusal : Refusal) (back : Option OpenTransaction) (shown : List (Option ReceiptState))
    → shown ≡ shown_unless back (shown_among tokens id epoch count refusal) → AreShownBy id epoch shown
shown_by tokens id epoch count refusal None shown is = subst (AreShownBy id epoch) (sym is) (among_by tokens id epoch count refusal)
shown_by tokens id epoch count refusal (Some t) shown is = none_by shown is id epoch
