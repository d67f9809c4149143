-- The greatest reader of what a candidate changes, of those that reach its least conflict out, is the greatest commit
-- that conflicts to it and reaches so far.
use Rattle.std.proofs.Common.{◌≡◌, ℕ, zero, suc, ◌-◌, ◌<◌, ◌≤◌, true, List, [], ◌∷◌, ◌++◌, filter, get_or, map, length, inl, inr, refl, sym, ap, ◌∙◌, subst, arith, lt-ltb}
use Rattle.std.specs.Prelude.{Contains}
use mathlib.Core.Bool.{true≢false}
use mathlib.Core.List.{reverse, reverse-cons}
use Rattle.std.proofs.lemmas.Bool.{and_parts, cases_lt}
use Rattle.std.proofs.lemmas.List.{get_or_append_left, get_or_past, length-map, length-reverse, length_push, map_push}
use Rattle.std.proofs.Math.Seq.{get_or-append_seam}
use Rattle.siread.specs.declared.keys.LockKey.{LockKey}
use Rattle.siread.specs.Keys.{same_key}
use Rattle.siread.specs.Locks.{Reads, IsGreatestReader, touch}
use Rattle.siread.specs.Readers.{ReachNoFurther, reach_of, reaches_above}
use Rattle.siread.proofs.KeyOrder.{same_key-true, same_key-refl}
use Rattle.siread.proofs.Members.{in_head}
use Rattle.alone.proofs.Lists.{each_at}
use Rattle.alone.proofs.Members.{any_from, from_filter, from_map, in_filter, in_map, filter_passes}
use Rattle.alone.specs.declared.records.Record.{Record}
use Rattle.alone.specs.Commits.{IsLog, IsNext, conflicts_to, reach, touch_any}
use Rattle.alone.specs.Numbers.{greatest_in}
use Rattle.alone.specs.Order.{least_out}
use Rattle.alone.proofs.Arranged.{conflict_from, conflict_overlaps}
use Rattle.alone.proofs.Judging.{any_met, greatest_in_met, greatest_in_up_to}
use Rattle.alone.proofs.Ranks.{clean, least_out_met, numbers_below, reach_high}
use Rattle.alone.proofs.Snapshots.{kept_at}
use Rattle.alone.proofs.Turned.{from_turned, in_turned, turned_twice}
use Rattle.conflict.specs.Readers.{HasReaders, has_read, reads_of}

-- what one commit read
touched_by : (c w : Record) → conflicts_to w c ≡ true → (key : LockKey) × Contains w.reads key × (touch c.changes key ≡ true)
unfolding conflicts_to touch_any
touched_by c w h = any_met (touch c.changes) w.reads (and_parts _ _ h).1

touches_some : (c w : Record) (key : LockKey) → Contains w.reads key → touch c.changes key ≡ true → touch_any c.changes w.reads ≡ true
unfolding touch_any
touches_some c w key m touched = any_from (touch c.changes) w.reads key m touched

module _ (commits : List Record) (reads : Reads) (c : Record) (next : IsNext c (reverse commits))
    (has : HasReaders reads (map reach commits) commits c.snapshot) where
  -- who stands under a key is a commit that read it
  pub record IsReader (key : LockKey) (number : ℕ) : Type 0 where
    pub commit : Record
    pub listed : Contains commits commit
    pub numbered : commit.number ≡ number
    pub read : Contains commit.reads key

  reader : (key : LockKey) (number : ℕ) → Contains (reads key) number → IsReader key number
  reader key number m =
      let all = from_filter (reaches_above has.low (map reach commits)) (reads_of commits key) number
      (subst (λ (rs : Reads). Contains (rs key) number) has.are m) in
      let found = from_map (λ (r : Record). r.number) (filter (has_read key) commits) number all in
      let k = any_met (same_key key) found.0.reads (filter_passes (has_read key) commits found.0 found.1.0) in
      record {
        commit = found.0;
        listed = from_filter (has_read key) commits found.0 found.1.0;
        numbered = found.1.1;
        read = subst (Contains found.0.reads) (sym (same_key-true key k.0 k.2)) k.1;
      }

  -- how far each reaches stands at the place of its number
  reach_is : (w : Record) → Contains (reverse commits) w → reach_of (map reach commits) w.number ≡ reach w
  reach_is w m = go w.number refl
    where
      go : (n : ℕ) → n ≡ w.number → reach_of (map reach commits) n ≡ reach w
      go zero e = (let s = (clean (reverse commits) next.accepted).snapshots w m in absurd (omega (arith, e, s)))
      go (suc before) e =
          let is : before ≡ w.number - 1 = omega (arith, e) in
          ap (λ i. get_or (map reach commits) i 0) is ∙ kept_at reach commits next.accepted w m 0

  -- the candidate's least conflict out is after its snapshot
  least_after : c.snapshot < c.number → c.snapshot < least_out (reverse commits) c
  least_after began = elim (least_out_met (reverse commits) c) [
    | inl own ↦ omega (arith, own, began)
    | inr y ↦ (let o = conflict_overlaps c y.0 y.2 in omega (arith, o.second, y.4))
  ]

  conflicts : c.snapshot < c.number → (key : LockKey) (number : ℕ) → touch c.changes key ≡ true
      → Contains (reads key) number → least_out (reverse commits) c ≤ reach_of (map reach commits) number
      → number ≤ greatest_in (reverse commits) c
  conflicts began key number touched m far =
      let r = reader key number m in
      let w = r.commit in
      let listed = in_turned commits w r.listed in
      let small = each_at (λ (o : Record). o.number < suc (length (reverse commits))) (reverse commits) (numbers_below (reverse commits) next.accepted) w listed in
      let snap = (clean (reverse commits) next.accepted).snapshots w listed in
      let is = r.numbered in
      let last = next.numbered in
      let reaches : least_out (reverse commits) c ≤ reach w
      = subst (λ n. least_out (reverse commits) c ≤ n)
      (ap (reach_of (map reach commits)) (sym is) ∙ reach_is w listed) far in
      let high = reach_high (reverse commits) (clean (reverse commits) next.accepted) w listed in
      let after = least_after began in
      let l = greatest_in_up_to (least_out (reverse commits) c) (reverse commits) c w listed
      (conflict_from w c (λ e. omega (arith, e, small, last)) (omega (arith, reaches, high, after))
      (omega (arith, snap, small, last)) (touches_some c w key r.read touched)) reaches in
      omega (arith, l, is)

  -- and a commit that reaches past the snapshot stands under each key that it read
  stands : (w : Record) (key : LockKey) → Contains commits w → Contains w.reads key → c.snapshot < reach w
      → Contains (reads key) w.number
  stands w key m k past =
      let number : Record → ℕ = λ (r : Record). r.number in
      let read : has_read key w ≡ true = any_from (same_key key) w.reads key k (same_key-refl key) in
      let listed : Contains (reads_of commits key) w.number
      = in_map number (filter (has_read key) commits) w (in_filter (has_read key) commits w read m) in
      let low = has.within in
      let is = reach_is w (in_turned commits w m) in
      subst (λ (rs : Reads). Contains (rs key) w.number) (sym has.are)
      (in_filter (reaches_above has.low (map reach commits)) (reads_of commits key) w.number
      (lt-ltb has.low (reach_of (map reach commits) w.number) (omega (arith, low, is, past))) listed)

  up_to : c.snapshot < c.number → (greatest : ℕ)
      → IsGreatestReader reads c.changes (least_out (reverse commits) c) (map reach commits) greatest
      → (w : Record) → Contains (reverse commits) w → conflicts_to w c ≡ true
      → least_out (reverse commits) c ≤ reach w → w.number ≤ greatest
  up_to began greatest g w m h l =
      let key = touched_by c w h in
      let after = least_after began in
      g.all key.0 w.number key.2 (stands w key.0 (from_turned commits w m) key.1 (omega (arith, after, l)))
      (subst (λ n. least_out (reverse commits) c ≤ n) (sym (reach_is w m)) l)

  pub greatest_found : c.snapshot < c.number → (greatest : ℕ)
      → IsGreatestReader reads c.changes (least_out (reverse commits) c) (map reach commits) greatest
      → greatest ≡ greatest_in (reverse commits) c
  greatest_found began greatest g =
      let high : greatest ≤ greatest_in (reverse commits) c = elim g.found [
        | inl none ↦ omega (arith, none)
        | inr f ↦ conflicts began f.0 greatest f.1 f.2 f.3
      ] in
      let low : greatest_in (reverse commits) c ≤ greatest
      = elim (greatest_in_met (least_out (reverse commits) c) (reverse commits) c) [
        | inl none ↦ omega (arith, none)
        | inr x ↦ (let l = up_to began greatest g x.0 x.1 x.2 x.3 in omega (arith, l, x.4))
      ] in
      omega (arith, high, low)

-- none conflicts to one that changes nothing
pub none_conflict : (log : List Record) (c : Record) → c.changes ≡ [] → 0 ≡ greatest_in log c
none_conflict log c nothing = elim (greatest_in_met (least_out log c) log c) [
  | inl none ↦ sym none
  | inr x ↦
      let key = touched_by c x.0 x.2 in
      absurd (true≢false (sym (subst (λ changes. touch changes key.0 ≡ true) nothing key.2)))
]

-- none reaches further than its number
far_at : (log : List Record) → IsLog log → (at : ℕ) → get_or (map reach (reverse log)) at 0 ≤ suc at
far_at [] h at = omega (arith, get_or_past (map reach []) at 0 (omega arith))
far_at (c ∷ log) h at =
    let whole : map reach (reverse (c ∷ log)) ≡ map reach (reverse log) ++ reach c ∷ []
    = ap (map reach) (reverse-cons c log) ∙ map_push reach (reverse log) c in
    let long : length (map reach (reverse log)) ≡ length log = length-map (reverse log) reach ∙ length-reverse log in
    subst (λ xs. get_or xs at 0 ≤ suc at) (sym whole) (elim (cases_lt at (length log)) [
      | inl within ↦
          let is = get_or_append_left (map reach (reverse log)) (reach c ∷ []) 0 at (omega (arith, within, long)) in
          let rest = far_at log h.1 at in
          omega (arith, is, rest)
      | inr past ↦ elim (cases_lt (length log) at) [
        | inl over ↦
            let more = length_push (map reach (reverse log)) (reach c) in
            let none = get_or_past (map reach (reverse log) ++ reach c ∷ []) at 0 (omega (arith, over, long, more)) in
            omega (arith, none)
        | inr up_to ↦
            let here : at ≡ length (map reach (reverse log)) = omega (arith, past, up_to, long) in
            let is = ap (λ i. get_or (map reach (reverse log) ++ reach c ∷ []) i 0) here
            ∙ get_or-append_seam (map reach (reverse log)) (reach c) [] 0 in
            let high = reach_high (c ∷ log) (clean (c ∷ log) h) c (in_head c log) in
            omega (arith, is, high, h.0.numbered, here, long)
      ]
    ])

pub no_further : (commits : List Record) → IsLog (reverse commits) → ReachNoFurther (map reach commits)
no_further commits log zero = omega arith
no_further commits log (suc before) =
    subst (λ xs. get_or (map reach xs) before 0 ≤ suc before) (turned_twice commits)
    (far_at (reverse commits) log before)
