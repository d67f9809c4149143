-- Epochs that follow one another.
use Rattle.std.proofs.Common.{◌≡◌, ℕ, ◌+◌, ◌-◌, ◌<◌, ◌≤◌, zero, suc, Bool, true, false, List, [], ◌∷◌, ◌++◌, Option, Some, None, length, get_or, take, refl, sym, ◌∙◌, ap, subst, arith}
use Rattle.std.specs.Prelude.{◌||◌, ◌≢◌, is_some, slice_get, Result, Ok, Err, IfOk, OnErr}
use Rattle.std.proofs.lemmas.List.{length-take-le, take_all, take_more}
use Rattle.std.proofs.lemmas.List.Elements.{All-nil}
use Rattle.std.proofs.lemmas.Option.{slice_get_read}
use Rattle.value.specs.declared.refusals.Refusal.{Refusal}
use Rattle.value.specs.declared.refusals.Refusal.TheVariants.{NoMemory}
use Rattle.meaning.specs.Laws.{Pairs}
use Rattle.delta.specs.Views.{ViewState}
use Rattle.definitions.specs.declared.redeclaration.NewAssertion.{NewAssertion}
use Rattle.conflict.specs.declared.open_snapshots.LiveSnapshot.{LiveSnapshot}
use Rattle.conflict.specs.Live.{none_live}
use Rattle.txn.specs.Transactions.{OpenTransaction}
use Rattle.commit.specs.declared.engine.Outcome.{Outcome}
use Rattle.commit.specs.declared.epochs.Epoch.{Epoch}
use Rattle.commit.specs.declared.seats.Seat.{Seat}
use Rattle.commit.specs.Cores.{CoreState, newest_tables}
use Rattle.commit.specs.Epochs.{AreOutcomes, IsEnd, IsNextEpoch, IsOneMore, IsOutcome, IsWhole, IsWholeBefore, is_any_open, next_start, tables_left}
use Rattle.commit.specs.Events.{AreLive, txn_of}

-- where no transaction is open, none is in a seat
pub none_open : (seats : List Seat) → is_any_open seats ≡ false → (place : ℕ) (t : OpenTransaction) → txn_of (slice_get seats place) ≡ Some t → ⊥
none_open [] closed place t e = cc
none_open (seat ∷ rest) closed zero t e = go seat.txn closed e
  where
    go : (txn : Option OpenTransaction) → (is_some txn || is_any_open rest) ≡ false → txn ≡ Some t → ⊥
    go None closed e = cc
    go (Some u) closed e = cc
none_open (seat ∷ rest) closed (suc place) t e = none_open rest (go (is_some seat.txn) closed) place t e
  where
    go : (b : Bool) → (b || is_any_open rest) ≡ false → is_any_open rest ≡ false
    go true closed = cc
    go false closed = closed

-- the tables that an epoch more left
pub left_by : (before : ViewState) (outcomes : List Outcome) (outcome : Outcome) → tables_left before (outcomes ++ outcome ∷ []) ≡ newest_tables outcome.engine.core
left_by before [] outcome = refl
left_by before (o ∷ rest) outcome = left_by (newest_tables o.engine.core) rest outcome

-- one that was answered whole may have any behind it
whole_before : (epoch : Epoch) (outcome : Outcome) (rest : List Outcome) → IsWhole epoch outcome → IsWholeBefore epoch outcome rest
whole_before epoch outcome [] whole = tt
whole_before epoch outcome (next ∷ rest) whole = whole

-- an epoch more, behind those that were answered whole
outcome_more : (limit : ℕ) (before : ViewState) (epochs : List Epoch) (n : ℕ) (outcomes : List Outcome) (epoch : Epoch) (outcome : Outcome) → slice_get epochs (length outcomes) ≡ Some epoch
    → AreOutcomes limit before epochs outcomes → Pairs IsWhole (take n epochs) outcomes → IsOutcome limit (tables_left before outcomes) epoch outcome → AreOutcomes limit before epochs (outcomes ++ outcome ∷ [])
outcome_more limit before [] n [] epoch outcome at all whole one = cc
outcome_more limit before (e ∷ es) n [] epoch outcome at all whole one =
    let same : e ≡ epoch = cc in
    (subst (λ (x : Epoch). IsOutcome limit before x outcome) (sym same) one, tt, tt)
outcome_more limit before [] n (o ∷ rest) epoch outcome at all whole one = absurd all
outcome_more limit before (e ∷ es) zero (o ∷ rest) epoch outcome at all whole one = absurd whole
outcome_more limit before (e ∷ es) (suc n) (o ∷ rest) epoch outcome at all whole one =
    (all.0, whole_before e o (rest ++ outcome ∷ []) whole.0, outcome_more limit (newest_tables o.engine.core) es n rest epoch outcome at all.2 whole.1 one)

pairs_long : {X Y : Type 0} (P : X → Y → Type 0) (xs : List X) (ys : List Y) → Pairs P xs ys → length xs ≡ length ys
pairs_long P [] [] h = refl
pairs_long P [] (y ∷ ys) h = absurd h
pairs_long P (x ∷ xs) [] h = absurd h
pairs_long P (x ∷ xs) (y ∷ ys) h = ap suc (pairs_long P xs ys h.1)

pairs_more : {X Y : Type 0} (P : X → Y → Type 0) (xs : List X) (ys : List Y) (x : X) (y : Y) → Pairs P xs ys → P x y → Pairs P (xs ++ x ∷ []) (ys ++ y ∷ [])
pairs_more P [] [] x y h p = (p, tt)
pairs_more P [] (z ∷ ys) x y h p = absurd h
pairs_more P (z ∷ xs) [] x y h p = absurd h
pairs_more P (z ∷ xs) (w ∷ ys) x y h p = (h.0, pairs_more P xs ys x y h.1 p)

-- the first epochs have passed, each whole
pub record HavePassed (limit : ℕ) (before : ViewState) (epochs : List Epoch) (n : ℕ) (outcomes : List Outcome) : Type 0 where
  pub outcomes_are : AreOutcomes limit before epochs outcomes
  pub whole : Pairs IsWhole (take n epochs) outcomes

-- as many as there are outcomes
passed_long : (limit : ℕ) (before : ViewState) (epochs : List Epoch) (n : ℕ) (outcomes : List Outcome) → n < length epochs → HavePassed limit before epochs n outcomes → length outcomes ≡ n
passed_long limit before epochs n outcomes less passed =
    sym (pairs_long IsWhole (take n epochs) outcomes passed.whole) ∙ length-take-le n epochs (omega arith)

-- the next of them
next_epoch : (limit : ℕ) (before : ViewState) (epochs : List Epoch) (n : ℕ) (outcomes : List Outcome) (epoch : Epoch) → n < length epochs → epoch ≡ get_or epochs n epoch → HavePassed limit before epochs n outcomes → slice_get epochs (length outcomes) ≡ Some epoch
next_epoch limit before epochs n outcomes epoch less is passed =
    ap (slice_get epochs) (passed_long limit before epochs n outcomes less passed) ∙ slice_get_read epochs (length epochs) n epoch refl less is

-- the next has passed too, whole or not
pub one_more : (limit : ℕ) (before : ViewState) (epochs : List Epoch) (n : ℕ) (outcomes more : List Outcome) (epoch : Epoch) (whole : Bool) → n < length epochs → epoch ≡ get_or epochs n epoch → HavePassed limit before epochs n outcomes
    → IsOneMore limit before epoch outcomes more whole → AreOutcomes limit before epochs more
one_more limit before epochs n outcomes more epoch whole less is passed one =
    subst (AreOutcomes limit before epochs) (sym one.more_is)
    (outcome_more limit before epochs n outcomes epoch one.outcome (next_epoch limit before epochs n outcomes epoch less is passed) passed.outcomes_are passed.whole one.is)

pub passed_more : (limit : ℕ) (before : ViewState) (epochs : List Epoch) (n : ℕ) (outcomes more : List Outcome) (epoch : Epoch) → n < length epochs → epoch ≡ get_or epochs n epoch → HavePassed limit before epochs n outcomes
    → IsOneMore limit before epoch outcomes more true → HavePassed limit before epochs (n + 1) more
passed_more limit before epochs n outcomes more epoch less is passed one =
    let longer : take (n + 1) epochs ≡ take n epochs ++ epoch ∷ [] = take_more epochs n epoch less ∙ ap (λ (e : Epoch). take n epochs ++ e ∷ []) (sym is) in
    record {
      outcomes_are = one_more limit before epochs n outcomes more epoch true less is passed one;
      whole = subst (λ (es : List Epoch). Pairs IsWhole es more) (sym longer)
          (subst (Pairs IsWhole (take n epochs ++ epoch ∷ [])) (sym one.more_is)
          (pairs_more IsWhole (take n epochs) outcomes epoch one.outcome passed.whole (one.whole_is refl)));
    }

-- all have passed
pub all_passed : (limit : ℕ) (before : ViewState) (epochs : List Epoch) (n : ℕ) (outcomes : List Outcome) → length epochs ≤ n → HavePassed limit before epochs n outcomes → Pairs IsWhole epochs outcomes
all_passed limit before epochs n outcomes le passed =
    subst (λ (es : List Epoch). Pairs IsWhole es outcomes) (take_all n epochs le) passed.whole

-- the next is refused
pub refused_next : (limit : ℕ) (before : ViewState) (epochs : List Epoch) (n : ℕ) (outcomes more : List Outcome) (epoch : Epoch) (refusal : Refusal) → n < length epochs → epoch ≡ get_or epochs n epoch → HavePassed limit before epochs n outcomes
    → more ≡ outcomes → (refusal ≢ NoMemory → next_start epoch.dropped.items epoch.created.items (tables_left before outcomes) ≡ Err refusal) → IsEnd before epochs more (Some refusal)
refused_next limit before epochs n outcomes more epoch refusal less is passed same refused known = record {
  epoch = epoch;
  whole = subst (λ (os : List Outcome). Pairs IsWhole (take (length os) epochs) os) (sym same)
      (subst (λ (k : ℕ). Pairs IsWhole (take k epochs) outcomes) (sym (passed_long limit before epochs n outcomes less passed)) passed.whole);
  next = ap (λ (os : List Outcome). slice_get epochs (length os)) same ∙ next_epoch limit before epochs n outcomes epoch less is passed;
  refused = ap (λ (os : List Outcome). next_start epoch.dropped.items epoch.created.items (tables_left before os)) same ∙ refused known;
}

-- what the last left
pub last_left : (before : ViewState) (outcomes : List Outcome) (outcome : Outcome) → Some outcome ≡ slice_get outcomes (length outcomes - 1) → newest_tables outcome.engine.core ≡ tables_left before outcomes
last_left before [] outcome e = cc
last_left before (o ∷ []) outcome e = let same : outcome ≡ o = cc in ap (λ (x : Outcome). newest_tables x.engine.core) same
last_left before (o ∷ (p ∷ rest)) outcome e =
    let shorter : length (o ∷ p ∷ rest) - 1 ≡ suc (length (p ∷ rest) - 1) = omega arith in
    last_left (newest_tables o.engine.core) (p ∷ rest) outcome (e ∙ ap (slice_get (o ∷ p ∷ rest)) shorter)

-- the sessions go on, where no transaction is open, or where no epoch begins
pub live_after : (dropped : List (List ℕ)) (created : List NewAssertion) (before after : CoreState) (seats : List Seat) (result : Result CoreState Refusal) → is_any_open seats ≡ false → AreLive before seats
    → IfOk result (λ old. IsNextEpoch dropped created before after) → OnErr result (after ≡ before) → AreLive after seats
live_after dropped created before after seats (Ok old) closed live next same = subst (λ (c : CoreState). AreLive c seats) (sym next.empty) (record {
  each = λ place t e. absurd (none_open seats closed place t e);
  apart = λ place other t u e f same. absurd (none_open seats closed place t e);
  begun = All-nil (λ (one : LiveSnapshot). one.begin_number < none_live.begun);
  idle = refl;
})
live_after dropped created before after seats (Err refusal) closed live next same = subst (λ (c : CoreState). AreLive c seats) (sym same) live
