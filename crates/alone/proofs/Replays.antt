-- Why a replay in any order that keeps the order law gives what was recorded, and ends in the newest state.
use Rattle.std.proofs.Common.{◌≡◌, ◌≢◌, ℕ, ◌<◌, ◌≤◌, Bool, true, false, cond, List, [], ◌∷◌, ◌++◌, Option, None, inl, inr, refl, sym, ap, ◌∙◌, subst, arith, append_assoc, append-nil}
use Rattle.std.specs.Prelude.{Contains, filter, nat_le}
use mathlib.Core.List.{reverse, reverse-cons}
use Rattle.std.proofs.lemmas.Bool.{or_parts, cases_Bool, false_from_ne_true, leb-true, leb-false, le-leb, lt-leb}
use Rattle.std.proofs.lemmas.List.Elements.{filter-append}
use Rattle.table.specs.Rows.{RowValues}
use Rattle.table.specs.declared.rows.Change.{Change}
use Rattle.siread.specs.declared.keys.Place.{Place}
use Rattle.siread.specs.declared.keys.LockKey.{LockKey}
use Rattle.siread.specs.Keys.{holds, touches, row_under_key, place_of}
use Rattle.alone.specs.Alone.{Outcome}
use Rattle.alone.proofs.Stores.{change_at, changed, Found, change_at_cases}
use Rattle.alone.proofs.KeyLists.{among}
use Rattle.alone.specs.declared.records.Record.{Record}
use Rattle.alone.specs.Commits.{share_row}
use Rattle.alone.specs.Replay.{commits_in_snapshot, all_put, state_after, replay, Replays, IsSemantics, IsRecorded, IsHistory}
use Rattle.siread.proofs.Members.{in_cases}
use Rattle.alone.proofs.Lists.{Each, Pairs, each_weaker, each_both, each_left, each_right, each_at, each_from, each_filter, pairs_put, pairs_out, pairs_weaker, pairs_before, pairs_after, pairs_filter}
use Rattle.alone.proofs.Arranged.{Arranges, MayPrecede, arranges_each, conflict_from}
use Rattle.alone.proofs.Changes.{share_row-from, touch_any-from}

-- a log by falling numbers, each above its snapshot
abbrev pub Falls : List Record → Type 0
Falls log = Pairs (λ a b. b.number < a.number) log

-- lists arranged and filtered
pub arranges_filter : (test : Record → Bool) (order log : List Record) → Arranges order log → Arranges (filter test order) (filter test log)
arranges_filter test order [] h = ap (filter test) h
arranges_filter test order (c ∷ log) h = go (subst (λ o. Arranges o (filter test log)) (filter-append test h.0 h.1) (arranges_filter test (h.0 ++ h.1) log h.3)) (test c) refl
  where
    split : filter test order ≡ filter test h.0 ++ cond (test c) (c ∷ filter test h.1) (filter test h.1)
    split = ap (filter test) h.2 ∙ filter-append test h.0 (c ∷ h.1)

    go : Arranges (filter test h.0 ++ filter test h.1) (filter test log) → (b : Bool) → test c ≡ b → Arranges (filter test order) (cond b (c ∷ filter test log) (filter test log))
    go rest true e = (filter test h.0, filter test h.1, split ∙ ap (λ b. filter test h.0 ++ cond b (c ∷ filter test h.1) (filter test h.1)) e, rest)
    go rest false e = subst (λ o. Arranges o (filter test log)) (sym (split ∙ ap (λ b. filter test h.0 ++ cond b (c ∷ filter test h.1) (filter test h.1)) e)) rest

pub arranges_pairs : (R : Record → Record → Type 0) → ((a b : Record) → R a b → R b a) → (order log : List Record) → Arranges order log → Pairs R log → Pairs R order
arranges_pairs R turn order [] h p = subst (Pairs R) (sym h) tt
arranges_pairs R turn order (c ∷ log) h p =
    let all : Each (R c) (h.0 ++ h.1) = arranges_each (R c) (h.0 ++ h.1) log h.3 p.0 in
    subst (Pairs R) (sym h.2) (pairs_put R h.0 c h.1 (each_weaker (R c) (λ w. R w c) (λ w r. turn c w r) h.0 (each_left (R c) h.0 h.1 all)) (each_right (R c) h.0 h.1 all) (arranges_pairs R turn (h.0 ++ h.1) log h.3 p.1))

pub all_put-append : {S : Type 0} (put : S → List Change → S) (state : S) (xs ys : List Record) → all_put put state (xs ++ ys) ≡ all_put put (all_put put state xs) ys
all_put-append put state [] ys = refl
all_put-append put state (x ∷ xs) ys = all_put-append put (put state x.changes) xs ys

-- the oldest first, or the newest first
pub in_turn : {S : Type 0} (put : S → List Change → S) (state : S) (records : List Record) → all_put put state (reverse records) ≡ state_after put state records
in_turn put state [] = refl
in_turn put state (r ∷ rest) = ap (all_put put state) (reverse-cons r rest) ∙ all_put-append put state (reverse rest) (r ∷ []) ∙ ap (λ s. put s r.changes) (in_turn put state rest)

-- What is asked of states: a place reads what was put there, and states that read the same are the same. Fit are states that
-- are well formed, and nets the net changes that may be put into them.
pub record IsStore (S : Type 0) (put : S → List Change → S) (look : S → Place → Option RowValues) (IsFit : S → Type 0) (IsNet : List Change → Type 0) : Type 0 where
  pub look_put : (state : S) (changes : List Change) (place : Place) → IsFit state → IsNet changes → look (put state changes) place ≡ changed (change_at changes place) (look state place)
  pub fit : (state : S) (changes : List Change) → IsFit state → IsNet changes → IsFit (put state changes)
  pub same : (one other : S) → IsFit one → IsFit other → ((place : Place) → look one place ≡ look other place) → one ≡ other

-- each has a net change that may be put in
abbrev pub HaveNets : (List Change → Type 0) → List Record → Type 0
HaveNets IsNet log = Each (λ r. IsNet r.changes) log

-- two net changes with no row in common can change places
two_changes : (c d : List Change) (place : Place) (row : Option RowValues) → (share_row c d ≡ true → ⊥) → changed (change_at d place) (changed (change_at c place) row) ≡ changed (change_at c place) (changed (change_at d place) row)
two_changes c d place row apart = elim (change_at_cases c place) [
  | inl none ↦ (ap (λ x. changed (change_at d place) (changed x row)) none ∙ sym (ap (λ x. changed x (changed (change_at d place) row)) none))
  | inr f ↦ elim (change_at_cases d place) [
    | inl none ↦ (ap (λ x. changed x (changed (change_at c place) row)) none ∙ sym (ap (λ x. changed (change_at c place) (changed x row)) none))
    | inr g ↦ absurd (apart (share_row-from c d place f.0 g.0 f.1 g.1))
  ]
]

module _ (S : Type 0) (put : S → List Change → S) (look : S → Place → Option RowValues) (IsFit : S → Type 0) (IsNet : List Change → Type 0) (store : IsStore S put look IsFit IsNet) where
  put_fits : (xs : List Record) (state : S) → IsFit state → HaveNets IsNet xs → IsFit (all_put put state xs)
  put_fits [] state f nets = f
  put_fits (x ∷ xs) state f nets = put_fits xs (put state x.changes) (store.fit state x.changes f nets.0) nets.1

  swap_puts : (state : S) (c d : List Change) → IsFit state → IsNet c → IsNet d → (share_row c d ≡ true → ⊥) → put (put state c) d ≡ put (put state d) c
  swap_puts state c d f nc nd apart =
      let fc = store.fit state c f nc in
      let fd = store.fit state d f nd in
      store.same (put (put state c) d) (put (put state d) c) (store.fit (put state c) d fc nd) (store.fit (put state d) c fd nc) (λ place.
      store.look_put (put state c) d place fc nd ∙ ap (changed (change_at d place)) (store.look_put state c place f nc)
      ∙ two_changes c d place (look state place) apart
      ∙ sym (store.look_put (put state d) c place fd nc ∙ ap (changed (change_at c place)) (store.look_put state d place f nd)))

  -- a net change may be put in after all that share no row with it
  put_last : (c : Record) (xs : List Record) (state : S) → IsFit state → IsNet c.changes → HaveNets IsNet xs → Each (λ w. share_row c.changes w.changes ≡ true → ⊥) xs → all_put put (put state c.changes) xs ≡ put (all_put put state xs) c.changes
  put_last c [] state f net nets e = refl
  put_last c (x ∷ xs) state f net nets e =
      ap (λ s. all_put put s xs) (swap_puts state c.changes x.changes f net nets.0 e.0) ∙ put_last c xs (put state x.changes) (store.fit state x.changes f nets.0) net nets.1 e.1

  -- an order in which earlier writers stand first ends in the newest state
  ends : (start : S) → IsFit start → (order log : List Record) → Arranges order log → Pairs MayPrecede order → Falls log → HaveNets IsNet log → all_put put start order ≡ state_after put start log
  ends start f order [] h p falls nets = ap (all_put put start) h
  ends start f order (c ∷ log) h p falls nets =
      let pairs : Pairs MayPrecede (h.0 ++ c ∷ h.1) = subst (Pairs MayPrecede) h.2 p in
      let below : Each (λ w. w.number < c.number) h.1 = each_right (λ w. w.number < c.number) h.0 h.1 (arranges_each (λ w. w.number < c.number) (h.0 ++ h.1) log h.3 falls.0) in
      let all : HaveNets IsNet (h.0 ++ h.1) = arranges_each (λ r. IsNet r.changes) (h.0 ++ h.1) log h.3 nets.1 in
      let apart : Each (λ w. share_row c.changes w.changes ≡ true → ⊥) h.1
      = each_weaker (λ w. (w.number < c.number) × MayPrecede c w) (λ w. share_row c.changes w.changes ≡ true → ⊥) (λ w q. q.1.not_overwritten q.0) h.1
      (each_both (λ w. w.number < c.number) (MayPrecede c) h.1 below (pairs_after MayPrecede h.0 c h.1 pairs)) in
      ap (all_put put start) h.2
      ∙ all_put-append put start h.0 (c ∷ h.1)
      ∙ put_last c h.1 (all_put put start h.0) (put_fits h.0 start f (each_left (λ r. IsNet r.changes) h.0 h.1 all)) nets.0 (each_right (λ r. IsNet r.changes) h.0 h.1 all) apart
      ∙ ap (λ s. put s c.changes) (sym (all_put-append put start h.0 h.1) ∙ ends start f (h.0 ++ h.1) log h.3 (pairs_out MayPrecede h.0 c h.1 pairs) falls.1 nets.1)

  -- the old rows of each are those that stand in the state before it
  abbrev pub Exact : S → Record → Type 0
  Exact state r = (change : Change) → Contains r.changes change → look state (place_of change) ≡ change.old

  abbrev pub Exacts : S → List Record → Type 0
  Exacts state [] = Unit {0}
  Exacts state (r ∷ rest) = Exact state r × Exacts (put state r.changes) rest

  abbrev pub Same : LockKey → S → S → Type 0
  Same key one other = (place : Place) → row_under_key key place (look one place) ≡ row_under_key key place (look other place)

  -- one more on both sides
  same_put : (key : LockKey) (one other : S) (c : List Change) → IsFit one → IsFit other → IsNet c → Same key one other → Same key (put one c) (put other c)
  same_put key one other c f g net same place =
      ap (row_under_key key place) (store.look_put one c place f net)
      ∙ elim (change_at_cases c place) [
        | inl none ↦ (ap (λ x. row_under_key key place (changed x (look one place))) none ∙ same place ∙ sym (ap (λ x. row_under_key key place (changed x (look other place))) none))
        | inr found ↦ (ap (λ x. row_under_key key place (changed x (look one place))) found.1.is ∙ sym (ap (λ x. row_under_key key place (changed x (look other place))) found.1.is))
      ]
      ∙ sym (ap (row_under_key key place) (store.look_put other c place g net))

  -- one more on one side, which touches no row under the key
  same_left_out : (key : LockKey) (one other : S) (r : Record) → IsFit one → IsNet r.changes → Same key one other → Exact one r → ((change : Change) → Contains r.changes change → touches change key ≡ true → ⊥) → Same key (put one r.changes) other
  same_left_out key one other r f net same exact untouched place =
      ap (row_under_key key place) (store.look_put one r.changes place f net)
      ∙ elim (change_at_cases r.changes place) [
        | inl none ↦ (ap (λ x. row_under_key key place (changed x (look one place))) none ∙ same place)
        | inr found ↦ at_change found.0 found.1
      ]
    where
      at_change : (change : Change) → Found r.changes place change → row_under_key key place (changed (change_at r.changes place) (look one place)) ≡ row_under_key key place (look other place)
      at_change change found =
          let parts = or_parts _ _ (false_from_ne_true (touches change key) (untouched change found.listed)) in
          let old : holds key place change.old ≡ false = subst (λ p. holds key p change.old ≡ false) found.there parts.0 in
          let new : holds key place change.new ≡ false = subst (λ p. holds key p change.new ≡ false) found.there parts.1 in
          let was : look one place ≡ change.old = subst (λ p. look one p ≡ change.old) found.there (exact change found.listed) in
          ap (λ x. row_under_key key place (changed x (look one place))) found.is
          ∙ ap (λ b. cond b change.new None) new
          ∙ sym (ap (λ b. cond b change.old None) old)
          ∙ sym (ap (row_under_key key place) was)
          ∙ same place

  same_without : (key : LockKey) (test : Record → Bool) (xs : List Record) (one other : S) → IsFit one → IsFit other → HaveNets IsNet xs → Same key one other → Exacts one xs
      → Each (λ w. test w ≡ false → (change : Change) → Contains w.changes change → touches change key ≡ true → ⊥) xs
      → Same key (all_put put one xs) (all_put put other (filter test xs))
  same_without key test [] one other f g nets same exact e = same
  same_without key test (x ∷ xs) one other f g nets same exact e = elim (cases_Bool (test x)) [
    | inl kept ↦ subst (λ b. Same key (all_put put (put one x.changes) xs) (all_put put other (cond b (x ∷ filter test xs) (filter test xs)))) (sym kept)
        (same_without key test xs (put one x.changes) (put other x.changes) (store.fit one x.changes f nets.0) (store.fit other x.changes g nets.0) nets.1 (same_put key one other x.changes f g nets.0 same) exact.1 e.1)
    | inr out ↦ subst (λ b. Same key (all_put put (put one x.changes) xs) (all_put put other (cond b (x ∷ filter test xs) (filter test xs)))) (sym out)
        (same_without key test xs (put one x.changes) other (store.fit one x.changes f nets.0) g nets.1 (same_left_out key one other x f nets.0 same exact.0 (e.0 out)) exact.1 e.1)
  ]

not_le : (a b : ℕ) → (a ≤ b → ⊥) → b < a
not_le a b h = omega arith

-- what a snapshot holds
pub held_same : (s : ℕ) (c : Record) (log : List Record) → s < c.number → commits_in_snapshot s (c ∷ log) ≡ commits_in_snapshot s log
held_same s c log l = ap (λ b. cond b (c ∷ commits_in_snapshot s log) (commits_in_snapshot s log)) (lt-leb _ _ l)

pub held_all : (n : ℕ) (log : List Record) → Each (λ w. w.number ≤ n) log → commits_in_snapshot n log ≡ log
held_all n [] e = refl
held_all n (c ∷ log) e = ap (λ b. cond b (c ∷ commits_in_snapshot n log) (commits_in_snapshot n log)) (le-leb _ _ e.0) ∙ ap (λ o. c ∷ o) (held_all n log e.1)

filter_none : (test : Record → Bool) (xs : List Record) → Each (λ w. test w ≡ false) xs → filter test xs ≡ []
filter_none test [] e = refl
filter_none test (x ∷ xs) e = ap (λ b. cond b (x ∷ filter test xs) (filter test xs)) e.0 ∙ filter_none test xs e.1

abbrev pub HasSnapshots : List Record → Type 0
HasSnapshots log = Each (λ w. w.snapshot < w.number) log

module _ (S : Type 0) (put : S → List Change → S) (look : S → Place → Option RowValues) (IsFit : S → Type 0) (IsNet : List Change → Type 0) (store : IsStore S put look IsFit IsNet) (start : S) (fit : IsFit start) where
  exacts_append : (xs ys : List Record) (state : S) → Exacts S put look IsFit IsNet store state xs → Exacts S put look IsFit IsNet store (all_put put state xs) ys → Exacts S put look IsFit IsNet store state (xs ++ ys)
  exacts_append [] ys state e f = f
  exacts_append (x ∷ xs) ys state e f = (e.0, exacts_append xs ys (put state x.changes) e.1 f)

  -- the state before a commit holds the same as its snapshot under each key that it read
  agrees : (order log : List Record) → Arranges order log → Pairs MayPrecede order → Falls log → HaveNets IsNet log → (done : List Record) (x : Record) (xs : List Record) → order ≡ done ++ x ∷ xs
      → x.snapshot < x.number → Exacts S put look IsFit IsNet store start done → (key : LockKey) → Contains x.reads key
      → Same S put look IsFit IsNet store key (all_put put start done) (state_after put start (commits_in_snapshot x.snapshot log))
  agrees order log arr may falls nets done x xs e snap exact key read =
      let test : Record → Bool = λ r. nat_le r.number x.snapshot in
      let pairs : Pairs MayPrecede (done ++ x ∷ xs) = subst (Pairs MayPrecede) e may in
      let differ : Pairs (λ a b. a.number ≢ b.number) (done ++ x ∷ xs)
      = subst (Pairs (λ a b. a.number ≢ b.number)) e (arranges_pairs (λ a b. a.number ≢ b.number) (λ a b d q. d (sym q)) order log arr
      (pairs_weaker (λ a b. b.number < a.number) (λ a b. a.number ≢ b.number) (λ a b l q. omega arith) log falls)) in
      let untouched : Each (λ w. test w ≡ false → (change : Change) → Contains w.changes change → touches change key ≡ true → ⊥) done
      = each_weaker (λ w. MayPrecede w x × (w.number ≢ x.number)) (λ w. test w ≡ false → (change : Change) → Contains w.changes change → touches change key ≡ true → ⊥)
      (λ w q f change m t. q.0.not_read (conflict_from x w (λ g. q.1 (sym g)) (not_le _ _ q.0.not_held) (leb-false _ _ f) (touch_any-from w.changes x.reads change key m read t)))
      done (each_both (λ w. MayPrecede w x) (λ w. w.number ≢ x.number) done (pairs_before MayPrecede done x xs pairs) (pairs_before (λ a b. a.number ≢ b.number) done x xs differ)) in
      let later : filter test (x ∷ xs) ≡ [] = filter_none test (x ∷ xs)
      (lt-leb _ _ snap, each_weaker (MayPrecede x) (λ w. test w ≡ false) (λ w q. lt-leb _ _ (not_le _ _ q.not_held)) xs (pairs_after MayPrecede done x xs pairs)) in
      let kept : filter test order ≡ filter test done
      = ap (filter test) e ∙ filter-append test done (x ∷ xs) ∙ ap (λ o. filter test done ++ o) later ∙ append-nil (filter test done) in
      let newest : all_put put start (filter test done) ≡ state_after put start (commits_in_snapshot x.snapshot log)
      = ap (all_put put start) (sym kept)
      ∙ ends S put look IsFit IsNet store start fit (filter test order) (filter test log) (arranges_filter test order log arr) (pairs_filter MayPrecede test order may) (pairs_filter (λ a b. b.number < a.number) test log falls) (each_filter (λ r. IsNet r.changes) test log nets) in
      subst (Same S put look IsFit IsNet store key (all_put put start done)) newest
      (same_without S put look IsFit IsNet store key test done start start fit fit (each_left (λ r. IsNet r.changes) done (x ∷ xs) (subst (HaveNets IsNet) e (arranges_each (λ r. IsNet r.changes) order log arr nets))) (λ place. refl) exact untouched)

  module _ (run : Record → S → Outcome) (keys : Record → S → List LockKey) (IsGood : S → Type 0) (sem : IsSemantics S put look run keys IsGood) (good : IsGood start) where
    abbrev pub Recorded : List Record → Record → Type 0
    Recorded log r = IsRecorded (state_after put start (commits_in_snapshot r.snapshot log)) run keys r

    recorded_later : (log : List Record) (c r : Record) → r.snapshot < c.number → Recorded log r → Recorded (c ∷ log) r
    recorded_later log c r l h = subst (λ o. IsRecorded (state_after put start o) run keys r) (sym (held_same r.snapshot c log l)) h

    all_recorded : (log : List Record) → Falls log → HasSnapshots log → IsHistory put start run keys log → Each (Recorded log) log
    all_recorded [] falls snaps h = tt
    all_recorded (c ∷ log) falls snaps h = (
      recorded_later log c c snaps.0 h.0,
      each_weaker (λ r. Recorded log r × ((r.number < c.number) × (r.snapshot < r.number))) (Recorded (c ∷ log)) (λ r q. recorded_later log c r (let l = q.1.0 in let m = q.1.1 in omega arith) q.0) log
          (each_both (Recorded log) (λ r. (r.number < c.number) × (r.snapshot < r.number)) log (all_recorded log falls.1 snaps.1 h.1)
          (each_both (λ r. r.number < c.number) (λ r. r.snapshot < r.number) log falls.0 snaps.1)),
    )

    -- what each was answered on the state of its snapshot
    abbrev pub answered : List Record → Record → Outcome
    answered log r = run r (state_after put start (commits_in_snapshot r.snapshot log))

    pub record Walked (log : List Record) (state : S) (xs : List Record) : Type 0 where
      pub replays : Replays put run (answered log) state xs
      pub kept : IsGood (all_put put state xs)

    walk : (order log : List Record) → Arranges order log → Pairs MayPrecede order → Falls log → HaveNets IsNet log → HasSnapshots log → Each (Recorded log) log
        → ((r : Record) → Contains log r → IsGood (state_after put start (commits_in_snapshot r.snapshot log)))
        → (done rest : List Record) → order ≡ done ++ rest → Exacts S put look IsFit IsNet store start done → IsGood (all_put put start done) → Walked log (all_put put start done) rest
    walk order log arr may falls nets snaps recs goods done [] e exact g = record { replays = tt; kept = g }
    walk order log arr may falls nets snaps recs goods done (x ∷ xs) e exact g =
        let state = all_put put start done in
        let snapshot = state_after put start (commits_in_snapshot x.snapshot log) in
        let members : Each (Contains log) (done ++ x ∷ xs) = subst (Each (Contains log)) e (arranges_each (Contains log) order log arr (each_from (Contains log) log (λ y m. m))) in
        let mx : Contains log x = (each_right (Contains log) done (x ∷ xs) members).0 in
        let rec : Recorded log x = each_at (Recorded log) log recs x mx in
        let snap = each_at (λ w. w.snapshot < w.number) log snaps x mx in
        let accepted : (run x snapshot).refused ≡ None = rec.accepted in
        let agree : run x state ≡ run x snapshot = sem.agreement x snapshot state (goods x mx) g accepted
        (λ key m place. sym (agrees order log arr may falls nets done x xs e snap exact key (among (keys x snapshot) x.reads rec.reads key m) place)) in
        let changes : (run x state).changes ≡ x.changes = ap (λ o. o.changes) agree ∙ rec.changes in
        let next : all_put put start (done ++ x ∷ []) ≡ put state x.changes = all_put-append put start done (x ∷ []) in
        let exact' : Exact S put look IsFit IsNet store state x = λ change m. sem.exact x state change (subst (λ cs. Contains cs change) (sym changes) m) in
        let good' : IsGood (put state x.changes) = subst (λ cs. IsGood (put state cs)) changes (sem.keeps x state g (ap (λ o. o.refused) agree ∙ accepted)) in
        let rest = walk order log arr may falls nets snaps recs goods (done ++ x ∷ []) xs (e ∙ sym (append_assoc done (x ∷ []) xs)) (exacts_append done (x ∷ []) start exact (exact', tt)) (subst IsGood (sym next) good') in
        record {
          replays = (agree, subst (λ s. Replays put run (answered log) s xs) (next ∙ ap (put state) (sym changes)) rest.replays);
          kept = subst (λ s. IsGood (all_put put s xs)) next rest.kept;
        }

    -- no state makes an assertion false
    all_good : (log order : List Record) → Arranges order log → Pairs MayPrecede order → Falls log → HaveNets IsNet log → HasSnapshots log → IsHistory put start run keys log → (n : ℕ) → IsGood (state_after put start (commits_in_snapshot n log))
    all_good [] order arr may falls nets snaps h n = good
    all_good (c ∷ log) order arr may falls nets snaps h n =
        let before = arr.0 in
        let after = arr.1 in
        let earlier : (n : ℕ) → IsGood (state_after put start (commits_in_snapshot n log)) = all_good log (before ++ after) arr.3 (pairs_out MayPrecede before c after (subst (Pairs MayPrecede) arr.2 may)) falls.1 nets.1 snaps.1 h.1 in
        elim (cases_Bool (nat_le c.number n)) [
          | inl in' ↦
              let below : Each (λ w. w.number ≤ n) (c ∷ log) = (leb-true _ _ in', each_weaker (λ w. w.number < c.number) (λ w. w.number ≤ n) (λ w l. let m = leb-true _ _ in' in omega arith) log falls.0) in
              subst (λ o. IsGood (state_after put start o)) (sym (held_all n (c ∷ log) below))
              (subst IsGood (ends S put look IsFit IsNet store start fit order (c ∷ log) arr may falls nets)
              (walk order (c ∷ log) arr may falls nets snaps (all_recorded (c ∷ log) falls snaps h) (λ r m. snapshot_good r m earlier) [] order refl tt good).kept)
          | inr out ↦ subst (λ b. IsGood (state_after put start (cond b (c ∷ commits_in_snapshot n log) (commits_in_snapshot n log)))) (sym out) (earlier n)
        ]
      where
        snapshot_good : (r : Record) → Contains (c ∷ log) r → ((n : ℕ) → IsGood (state_after put start (commits_in_snapshot n log))) → IsGood (state_after put start (commits_in_snapshot r.snapshot (c ∷ log)))
        snapshot_good r m earlier = subst (λ o. IsGood (state_after put start o)) (sym (held_same r.snapshot c log (below r m))) (earlier r.snapshot)
          where
            below : (r : Record) → Contains (c ∷ log) r → r.snapshot < c.number
            below r m = elim (in_cases c log r m) [
              | inl same ↦ subst (λ z. z.snapshot < c.number) same snaps.0
              | inr there ↦ (let l = each_at (λ w. w.snapshot < w.number) log snaps.1 r there in let k = each_at (λ w. w.number < c.number) log falls.0 r there in omega arith)
            ]

    replay_is : (log : List Record) → Each (Recorded log) log → (xs : List Record) → Each (Contains log) xs → (state : S) → Replays put run (answered log) state xs → replay put run state xs ≡ all_put put state xs
    replay_is log recs [] members state h = refl
    replay_is log recs (x ∷ xs) members state h =
        let changes : (run x state).changes ≡ x.changes = ap (λ o. o.changes) h.0 ∙ (each_at (Recorded log) log recs x members.0).changes in
        replay_is log recs xs members.1 (put state (run x state).changes) h.1 ∙ ap (λ cs. all_put put (put state cs) xs) changes

    -- The replay, in any order of the log that keeps the law.
    pub record Replayed (order log : List Record) : Type 0 where
      pub replies : Replays put run (answered log) start order
      pub newest : replay put run start order ≡ state_after put start log
      pub recorded : (r : Record) → Contains log r → Recorded log r
      pub never_false : (n : ℕ) → IsGood (state_after put start (commits_in_snapshot n log))

    pub replayed : (order log : List Record) → Arranges order log → Pairs MayPrecede order → Falls log → HaveNets IsNet log → HasSnapshots log → IsHistory put start run keys log → Replayed order log
    replayed order log arr may falls nets snaps h =
        let goods = all_good log order arr may falls nets snaps h in
        let recs = all_recorded log falls snaps h in
        let w = walk order log arr may falls nets snaps recs (λ r m. goods r.snapshot) [] order refl tt good in
        record {
          replies = w.replays;
          newest = replay_is log recs order (arranges_each (Contains log) order log arr (each_from (Contains log) log (λ y m. m))) start w.replays
              ∙ ends S put look IsFit IsNet store start fit order log arr may falls nets;
          recorded = each_at (Recorded log) log recs;
          never_false = goods;
        }
