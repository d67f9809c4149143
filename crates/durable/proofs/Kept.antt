-- What the journal of an epoch says is restored.
use Rattle.std.proofs.Common.{◌≡◌, ◌≤◌, ◌<◌, ◌+◌, ℕ, zero, suc, List, [], ◌∷◌, ◌++◌, length, Option, Some, None, inl, inr, refl, sym, ap, ◌∙◌, subst, arith}
use Rattle.std.specs.Prelude.{Contains, drop, nat_le, take}
use Rattle.std.specs.Option.{option_and_then}
use mathlib.Core.List.{reverse, reverse-cons}
use Rattle.std.proofs.Math.Seq.{take-nil}
use Rattle.std.proofs.lemmas.Bool.{cases_Bool, leb-true, leb-false}
use Rattle.std.proofs.lemmas.List.{length-reverse, take-append-le, take_all}
use Rattle.table.specs.declared.rows.Change.{Change}
use Rattle.table.specs.Rows.{Layout}
use Rattle.assertion.specs.Declarations.{Declared, layouts_in}
use Rattle.assertion.specs.Meaning.{State}
use Rattle.assertion.specs.Changes.{AreChangesOf}
use Rattle.meaning.specs.Laws.{Pairs}
use Rattle.siread.specs.Keys.{place_of}
use Rattle.alone.specs.Alone.{run_on}
use Rattle.alone.specs.States.{AreDue, AreInOrder, IsPut, IsState}
use Rattle.alone.specs.declared.records.Record.{Record}
use Rattle.alone.specs.Commits.{IsLog}
use Rattle.alone.specs.Epoch.{keys_of, newest, put_in, run_of, state_of}
use Rattle.alone.specs.Replay.{IsHistory}
use Rattle.alone.proofs.Changes.{share_row-at}
use Rattle.alone.proofs.Induction.{change_exact}
use Rattle.alone.proofs.Lists.{Each, each_at, each_weaker}
use Rattle.alone.proofs.Newest.{newest_fits, unwritten}
use Rattle.alone.proofs.Orders.{due_changes, net_in_order}
use Rattle.alone.proofs.Ranks.{log_falls}
use Rattle.alone.proofs.Replays.{held_all, held_same}
use Rattle.alone.proofs.Semantics.{history_nets}
use Rattle.delta.specs.Views.{IsFitting}
use Rattle.journal.specs.declared.entries.Entry.{Entry}
use Rattle.txn.specs.Fitting.{RowsFit}
use Rattle.txn.proofs.Fitting.{net_fit, run_fits}
use Rattle.commit.proofs.Fitting.{state_fits}
use Rattle.durable.specs.Restoring.{IsOf, restored, restored_changes}
use Rattle.durable.proofs.PutBack.{put_back}

-- ---- lists

-- a list that is paired with one and another behind it is so itself
pub record IsSplit {X Y : Type 0} (P : X → Y → Type 0) (xs : List X) (x : X) (ys : List Y) : Type 0 where
  pub front : List Y
  pub last : Y
  pub is : ys ≡ front ++ last ∷ []
  pub pairs : Pairs P xs front
  pub pair : P x last

split : {X Y : Type 0} (P : X → Y → Type 0) (xs : List X) (x : X) (ys : List Y) → Pairs P (xs ++ x ∷ []) ys → IsSplit P xs x ys
split P [] x [] p = absurd p
split P [] x (y ∷ []) p = record { front = []; last = y; is = refl; pairs = tt; pair = p.0 }
split P [] x (y ∷ z ∷ ys) p = absurd p.1
split P (w ∷ xs) x [] p = absurd p
split P (w ∷ xs) x (y ∷ ys) p =
    let s = split P xs x ys p.1 in
    record { front = y ∷ s.front; last = s.last; is = ap (λ zs. y ∷ zs) s.is; pairs = (p.0, s.pairs); pair = s.pair }

same_length : {X Y : Type 0} (P : X → Y → Type 0) (xs : List X) (ys : List Y) → Pairs P xs ys → length xs ≡ length ys
same_length P [] [] p = refl
same_length P [] (y ∷ ys) p = absurd p
same_length P (x ∷ xs) [] p = absurd p
same_length P (x ∷ xs) (y ∷ ys) p = (let l = same_length P xs ys p.1 in omega (arith, l))

take_more : {X : Type 0} (m n : ℕ) (xs : List X) → take (m + n) xs ≡ take m xs ++ take n (drop m xs)
take_more zero n xs = (let none : 0 + n ≡ n = omega arith in ap (λ (k : ℕ). take k xs) none)
take_more (suc m) n [] = take-nil (suc m + n) ∙ sym (take-nil n)
take_more (suc m) n (x ∷ xs) =
    (let more : suc m + n ≡ suc (m + n) = omega arith in ap (λ (k : ℕ). take k (x ∷ xs)) more)
    ∙ ap (λ ys. x ∷ ys) (take_more m n xs)

-- ---- entries one after the other

module _ (layouts : List Layout) where
  then_more : (entry : Entry) (entries more : List Entry) (o : Option State)
      → ((state : State) → restored layouts (entries ++ more) state ≡ option_and_then (restored layouts more) (restored layouts entries state))
      → option_and_then (restored layouts (entries ++ more)) o ≡ option_and_then (restored layouts more) (option_and_then (restored layouts entries) o)
  then_more entry entries more None h = refl
  then_more entry entries more (Some state) h = h state

  pub restored_more : (entries more : List Entry) (state : State) → restored layouts (entries ++ more) state ≡ option_and_then (restored layouts more) (restored layouts entries state)
  restored_more [] more state = refl
  restored_more (entry ∷ entries) more state = then_more entry entries more (restored_changes layouts entry.changes state) (restored_more entries more)

-- ---- the entries of an epoch

module _ (declared : Declared) (start : State) (fit : IsState (layouts_in declared) start) (loaded : RowsFit (layouts_in declared) start) where
  abbrev History : List Record → Type 0
  History log = IsHistory (put_in declared) start (run_of declared) (keys_of declared) log

  abbrev committed : List Record → State
  committed log = newest declared start log

  -- the next commit's changes are of the tables that those before it leave
  next_due : (c : Record) (earlier : List Record) → IsLog (c ∷ earlier) → History (c ∷ earlier) → AreDue (layouts_in declared) c.changes (committed earlier)
  next_due c earlier accepted history =
      let snapshot : State = state_of declared start earlier c.snapshot in
      let final : State = (run_on declared c.trace snapshot).final.view in
      record {
        in_order = subst AreInOrder history.0.changes (net_in_order (layouts_in declared) snapshot final);
        exact = λ change m.
            unwritten declared start fit earlier (history_nets declared start earlier history.1) (log_falls earlier accepted.1) c.snapshot (place_of change)
            (λ other d listed later md same. accepted.0.no_write_conflict other listed (record { after_snapshot = later; common = share_row-at c.changes other.changes (place_of change) change d m refl md same }))
            ∙ change_exact declared c.trace snapshot change (subst (λ (changes : List Change). Contains changes change) (sym history.0.changes) m);
        puts = each_at (IsPut (layouts_in declared)) c.changes (history_nets declared start (c ∷ earlier) history).0;
      }

  next_changes : (c : Record) (earlier : List Record) → IsLog (c ∷ earlier) → History (c ∷ earlier) → AreChangesOf (layouts_in declared) c.changes (committed earlier)
  next_changes c earlier accepted history =
      due_changes (layouts_in declared) (committed earlier) (newest_fits declared start fit earlier (history_nets declared start earlier history.1)) c.changes (next_due c earlier accepted history)

  -- and their new rows fit
  next_fits : (c : Record) (earlier : List Record) → History (c ∷ earlier) → Each (IsFitting (layouts_in declared)) c.changes
  next_fits c earlier history =
      let snapshot : State = state_of declared start earlier c.snapshot in
      subst (Each (IsFitting (layouts_in declared))) history.0.changes
      (net_fit (layouts_in declared) snapshot (run_on declared c.trace snapshot).final.view (run_fits declared c.trace snapshot (state_fits declared start loaded earlier history.1 c.snapshot)))

  next_restored : (c : Record) (earlier : List Record) (entry : Entry) → IsOf c entry → IsLog (c ∷ earlier) → History (c ∷ earlier)
      → restored_changes (layouts_in declared) entry.changes (committed earlier) ≡ Some (committed (c ∷ earlier))
  next_restored c earlier entry of accepted history =
      ap (λ (changes : List Change). restored_changes (layouts_in declared) changes (committed earlier)) of
      ∙ put_back (layouts_in declared) c.changes (committed earlier) (next_changes c earlier accepted history) (next_fits c earlier history)

  -- all entries
  all_restored : (log : List Record) → IsLog log → History log → (entries : List Entry) → Pairs IsOf (reverse log) entries → restored (layouts_in declared) entries start ≡ Some (committed log)
  all_restored [] accepted history [] pairs = refl
  all_restored [] accepted history (e ∷ entries) pairs = absurd pairs
  all_restored (c ∷ earlier) accepted history entries pairs =
      let s = split IsOf (reverse earlier) c entries (subst (λ rs. Pairs IsOf rs entries) (reverse-cons c earlier) pairs) in
      ap (λ es. restored (layouts_in declared) es start) s.is
      ∙ restored_more (layouts_in declared) s.front (s.last ∷ []) start
      ∙ ap (option_and_then (restored (layouts_in declared) (s.last ∷ []))) (all_restored earlier accepted.1 history.1 s.front s.pairs)
      ∙ ap (option_and_then (restored (layouts_in declared) [])) (next_restored c earlier s.last s.pair accepted history)

  -- and as many as there are up to a number
  pub some_restored : (log : List Record) → IsLog log → History log → (entries : List Entry) → Pairs IsOf (reverse log) entries → (number : ℕ)
      → restored (layouts_in declared) (take number entries) start ≡ Some (state_of declared start log number)
  some_restored [] accepted history [] pairs number = ap (λ es. restored (layouts_in declared) es start) (take-nil number)
  some_restored [] accepted history (e ∷ entries) pairs number = absurd pairs
  some_restored (c ∷ earlier) accepted history entries pairs number =
      let numbered = accepted.0.numbered in
      elim (cases_Bool (nat_le c.number number)) [
        | inl in' ↦
            let up : c.number ≤ number = leb-true _ _ in' in
            let below = log_falls (c ∷ earlier) accepted in
            let all : Each (λ w. w.number ≤ number) (c ∷ earlier) = (up, each_weaker (λ w. w.number < c.number) (λ w. w.number ≤ number) (λ w l. omega arith) earlier below.0) in
            let long = same_length IsOf (reverse (c ∷ earlier)) entries pairs in
            let turned = length-reverse (c ∷ earlier) in
            ap (λ es. restored (layouts_in declared) es start) (take_all number entries (omega arith))
            ∙ all_restored (c ∷ earlier) accepted history entries pairs
            ∙ ap (λ held. Some (committed held)) (sym (held_all number (c ∷ earlier) all))
        | inr out ↦
            let later : number < c.number = leb-false _ _ out in
            let s = split IsOf (reverse earlier) c entries (subst (λ rs. Pairs IsOf rs entries) (reverse-cons c earlier) pairs) in
            let long = same_length IsOf (reverse earlier) s.front s.pairs in
            let turned = length-reverse earlier in
            ap (λ es. restored (layouts_in declared) (take number es) start) s.is
            ∙ ap (λ es. restored (layouts_in declared) es start) (take-append-le number s.front (s.last ∷ []) (omega arith))
            ∙ some_restored earlier accepted.1 history.1 s.front s.pairs number
            ∙ ap (λ held. Some (committed held)) (sym (held_same number c earlier later))
      ]

-- ---- behind an image

-- what restores a state is restored in one with the entries behind it
pub from_image : (layouts : List Layout) (image : Entry) (entries : List Entry) (blank start state : State) (before more : ℕ) (leaves : ℕ → State)
    → restored layouts (image ∷ []) blank ≡ Some state → ((number : ℕ) → restored layouts (take number entries) start ≡ Some (leaves number)) → state ≡ leaves before
    → restored layouts (image ∷ take more (drop before entries)) blank ≡ Some (leaves (before + more))
from_image layouts image entries blank start state before more leaves put kept is =
    let rest = take more (drop before entries) in
    restored_more layouts (image ∷ []) rest blank
    ∙ ap (λ (o : Option State). option_and_then (restored layouts rest) o) (put ∙ ap Some is ∙ sym (kept before))
    ∙ sym (restored_more layouts (take before entries) rest start)
    ∙ ap (λ (es : List Entry). restored layouts es start) (sym (take_more before more entries))
    ∙ kept (before + more)
