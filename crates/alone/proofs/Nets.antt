-- The net change between two states: it is exact, it leads from the one to the other, and two pairs of states that moved alike
-- have the same.
use Rattle.std.proofs.Common.{◌≡◌, ◌<◌, ◌≤◌, ℕ, Bool, true, false, cond, List, [], ◌∷◌, ◌++◌, ◌⊎◌, Option, Some, None, Ordering, Less, Equal, Greater, map, length, refl, sym, ap, ◌∙◌, subst, inl, inr, not, arith}
use Rattle.std.specs.Prelude.{Contains, flat_map}
use Rattle.std.specs.List.{range_with_len}
use Rattle.std.specs.Ordering.{eq_by_cmp, is_eq}
use Rattle.std.proofs.lemmas.Bool.{cases_Bool, cases_lt}
use Rattle.value.specs.declared.values.Value.{Value}
use Rattle.value.specs.ValueOrder.{value_cmp}
use Rattle.value.specs.Ordered.{by_order, AreAbove, IsAscending, HasKey, at}
use Rattle.value.proofs.OrderedLists.{at-put, IsAscending-put}
use Rattle.value.proofs.ValueOrders.{value_cmp_total, value_exact}
use Rattle.table.specs.declared.rows.Change.{Change}
use Rattle.table.specs.Rows.{RowValues, Layout, value_in, row_at, key_of}
use Rattle.assertion.specs.Meaning.{State, rows_of}
use Rattle.assertion.specs.Changes.{state_after_all}
use Rattle.siread.specs.declared.keys.Place.{Place}
use Rattle.siread.specs.declared.keys.LockKey.{LockKey}
use Rattle.siread.specs.Keys.{row_under_key, SameUnder, same_value, place_of}
use Rattle.alone.specs.States.{row_in, IsState, IsPut, same_there, is_real, change_between, in_order, keys_of_both, table_changes, net_change}
use Rattle.siread.proofs.Members.{in_head, in_tail}
use Rattle.alone.proofs.Lists.{Each, each_at, each_from, each_left, each_right}
use Rattle.alone.proofs.Members.{from_map, from_filter, in_flat, from_flat, in_range, from_range}
use Rattle.alone.proofs.InOrder.{only, same_list, IsAscending-filter, at-filter}
use Rattle.alone.proofs.Stores.{listed_at, empty, same_there-true, same_there-refl, at_own, change_at, changed, Found, change_at_cases, all_fit, row_in-put, same_states}

-- what stands at a key is listed
pub at_in : {X K : Type 0} (R : K → K → Ordering) (key : X → K) (k : K) (xs : List X) (x : X) → at R key k xs ≡ Some x → Contains xs x
at_in R key k [] x h = cc
at_in R key k (y ∷ ys) x h = go (λ e. at_in R key k ys x e) (R k (key y)) refl
  where
    go : (at R key k ys ≡ Some x → Contains ys x) → (c : Ordering) → R k (key y) ≡ c → Contains (y ∷ ys) x
    go more Less c = let e : None ≡ Some x = sym (ap (λ d. by_order d None (Some y) (at R key k ys)) c) ∙ h in cc
    go more Equal c =
        let some : Some y ≡ Some x = sym (ap (λ d. by_order d None (Some y) (at R key k ys)) c) ∙ h in
        let e : y ≡ x = cc in
        subst (λ z. Contains (y ∷ ys) z) e (in_head y ys)
    go more Greater c = in_tail y ys x (more (sym (ap (λ d. by_order d None (Some y) (at R key k ys)) c) ∙ h))

-- the keys
keys_ascend : (vs : List Value) → IsAscending value_cmp (λ k. k) (in_order vs)
keys_ascend [] = tt
keys_ascend (v ∷ vs) = IsAscending-put value_cmp_total (λ k. k) v (Some v) (in_order vs) refl (keys_ascend vs)

-- a value that is none of a list isn't the same as any of it
keys_miss : (q : Value) (vs : List Value) → at value_cmp (λ k. k) q (in_order vs) ≡ None → Each (λ v. same_value q v ≡ false) vs
keys_miss q [] h = tt
keys_miss q (v ∷ vs) h = go (eq_by_cmp value_cmp q v) refl (λ e. keys_miss q vs e) (sym (at-put value_cmp_total (λ k. k) v (Some v) (in_order vs) refl (keys_ascend vs) q) ∙ h)
  where
    go : (b : Bool) → eq_by_cmp value_cmp q v ≡ b → (at value_cmp (λ k. k) q (in_order vs) ≡ None → Each (λ v. same_value q v ≡ false) vs)
        → cond (eq_by_cmp value_cmp q v) (Some v) (at value_cmp (λ k. k) q (in_order vs)) ≡ None → Each (λ v. same_value q v ≡ false) (v ∷ vs)
    go true e more h = let none : Some v ≡ None = sym (ap (λ b. cond b (Some v) (at value_cmp (λ k. k) q (in_order vs))) e) ∙ h in cc
    go false e more h = (e, more (sym (ap (λ b. cond b (Some v) (at value_cmp (λ k. k) q (in_order vs))) e) ∙ h))

missing : (key : ℕ) (q : Value) (rows : List RowValues) → Each (λ v. same_value q v ≡ false) (map (value_in key) rows) → row_at key q rows ≡ None
missing key q [] e = refl
missing key q (row ∷ rows) e = go (value_cmp q (value_in key row)) e.0 (missing key q rows e.1)
  where
    go : (c : Ordering) → is_eq c ≡ false → row_at key q rows ≡ None → by_order c None (Some row) (row_at key q rows) ≡ None
    go Less h more = refl
    go Equal h more = cc
    go Greater h more = more

map_append : {X Y : Type 0} (f : X → Y) (xs ys : List X) → map f (xs ++ ys) ≡ map f xs ++ map f ys
map_append f [] ys = refl
map_append f (x ∷ xs) ys = ap (λ zs. f x ∷ zs) (map_append f xs ys)

-- a list made from keys
module _ {X : Type 0} (f : Value → X) (key : X → Value) (own : (k : Value) → key (f k) ≡ k) where
  above_made : (k : Value) (ks : List Value) → AreAbove value_cmp (λ k. k) k ks → AreAbove value_cmp key k (map f ks)
  above_made k [] a = tt
  above_made k (j ∷ ks) a = (ap (value_cmp k) (own j) ∙ a.0, above_made k ks a.1)

  made_ascend : (ks : List Value) → IsAscending value_cmp (λ k. k) ks → IsAscending value_cmp key (map f ks)
  made_ascend [] s = tt
  made_ascend (k ∷ ks) s = (subst (λ j. AreAbove value_cmp key j (map f ks)) (sym (own k)) (above_made k ks s.0), made_ascend ks s.1)

  made_at : (q : Value) (ks : List Value) → (at value_cmp (λ k. k) q ks ≡ None) ⊎ (at value_cmp key q (map f ks) ≡ Some (f q))
  made_at q [] = inl refl
  made_at q (k ∷ ks) = go (value_cmp q k) refl (made_at q ks)
    where
      go : (c : Ordering) → value_cmp q k ≡ c → (at value_cmp (λ k. k) q ks ≡ None) ⊎ (at value_cmp key q (map f ks) ≡ Some (f q))
          → (at value_cmp (λ k. k) q (k ∷ ks) ≡ None) ⊎ (at value_cmp key q (map f (k ∷ ks)) ≡ Some (f q))
      go Less c more = inl (ap (λ d. by_order d None (Some k) (at value_cmp (λ k. k) q ks)) c)
      go Equal c more =
          inr (ap (λ j. by_order (value_cmp q j) None (Some (f k)) (at value_cmp key q (map f ks))) (own k)
          ∙ ap (λ d. by_order d None (Some (f k)) (at value_cmp key q (map f ks))) c
          ∙ ap (λ j. Some (f j)) (sym (value_exact q k c)))
      go Greater c (inl none) = inl (ap (λ d. by_order d None (Some k) (at value_cmp (λ k. k) q ks)) c ∙ none)
      go Greater c (inr found) =
          inr (ap (λ j. by_order (value_cmp q j) None (Some (f k)) (at value_cmp key q (map f ks))) (own k)
          ∙ ap (λ d. by_order d None (Some (f k)) (at value_cmp key q (map f ks))) c
          ∙ found)

  none_made : (q : Value) (ks : List Value) → at value_cmp (λ k. k) q ks ≡ None → at value_cmp key q (map f ks) ≡ None
  none_made q [] h = refl
  none_made q (k ∷ ks) h = go (value_cmp q k) refl (λ e. none_made q ks e)
    where
      step : (c : Ordering) → value_cmp q k ≡ c → at value_cmp key q (map f (k ∷ ks)) ≡ by_order c None (Some (f k)) (at value_cmp key q (map f ks))
      step c e = ap (λ j. by_order (value_cmp q j) None (Some (f k)) (at value_cmp key q (map f ks))) (own k) ∙ ap (λ d. by_order d None (Some (f k)) (at value_cmp key q (map f ks))) e

      go : (c : Ordering) → value_cmp q k ≡ c → (at value_cmp (λ k. k) q ks ≡ None → at value_cmp key q (map f ks) ≡ None) → at value_cmp key q (map f (k ∷ ks)) ≡ None
      go Less c more = step Less c
      go Equal c more = let none : Some k ≡ None = sym (ap (λ d. by_order d None (Some k) (at value_cmp (λ k. k) q ks)) c) ∙ h in cc
      go Greater c more = step Greater c ∙ more (sym (ap (λ d. by_order d None (Some k) (at value_cmp (λ k. k) q ks)) c) ∙ h)

module _ (layouts : List Layout) where
  -- of one table
  module _ (s u : State) (table : ℕ) where
    abbrev place : Value → Place
    place k = record { table = table; key = k }

    pub changes_ascend : IsAscending value_cmp (λ c. c.key) (table_changes layouts s u table)
    changes_ascend =
        IsAscending-filter value_cmp_total (λ c. c.key) is_real (map (λ k. change_between layouts s u (place k)) (keys_of_both layouts s u table))
        (made_ascend (λ k. change_between layouts s u (place k)) (λ c. c.key) (λ k. refl) (keys_of_both layouts s u table) (keys_ascend (map (value_in (key_of table layouts)) (rows_of table s ++ rows_of table u))))

    -- what the changes have at a key
    pub changes_at : (q : Value) → at value_cmp (λ c. c.key) q (table_changes layouts s u table) ≡ only is_real (Some (change_between layouts s u (place q)))
    changes_at q =
        at-filter value_cmp_total (λ c. c.key) is_real q (map (λ k. change_between layouts s u (place k)) (keys_of_both layouts s u table))
        (made_ascend (λ k. change_between layouts s u (place k)) (λ c. c.key) (λ k. refl) (keys_of_both layouts s u table) (keys_ascend (map (value_in (key_of table layouts)) (rows_of table s ++ rows_of table u))))
        ∙ go (at value_cmp (λ k. k) q (keys_of_both layouts s u table)) refl
      where
        go : (o : Option Value) → at value_cmp (λ k. k) q (keys_of_both layouts s u table) ≡ o
            → only is_real (at value_cmp (λ c. c.key) q (map (λ k. change_between layouts s u (place k)) (keys_of_both layouts s u table))) ≡ only is_real (Some (change_between layouts s u (place q)))
        go (Some k) e = elim (made_at (λ k. change_between layouts s u (place k)) (λ c. c.key) (λ k. refl) q (keys_of_both layouts s u table)) [
          | inl none ↦ (let no : Some k ≡ None = sym e ∙ none in cc)
          | inr found ↦ ap (only is_real) found
        ]
        go None e =
            let gone : Each (λ v. same_value q v ≡ false) (map (value_in (key_of table layouts)) (rows_of table s) ++ map (value_in (key_of table layouts)) (rows_of table u))
            = subst (Each (λ v. same_value q v ≡ false)) (map_append (value_in (key_of table layouts)) (rows_of table s) (rows_of table u)) (keys_miss q (map (value_in (key_of table layouts)) (rows_of table s ++ rows_of table u)) e) in
            let before : row_in layouts s (place q) ≡ None = missing (key_of table layouts) q (rows_of table s) (each_left (λ v. same_value q v ≡ false) _ _ gone) in
            let after : row_in layouts u (place q) ≡ None = missing (key_of table layouts) q (rows_of table u) (each_right (λ v. same_value q v ≡ false) (map (value_in (key_of table layouts)) (rows_of table s)) _ gone) in
            ap (only is_real) (none_made (λ k. change_between layouts s u (place k)) (λ c. c.key) (λ k. refl) q (keys_of_both layouts s u table) e)
            ∙ sym (λ i. cond (not (same_there (before i) (after i))) (Some (record { table = table; key = q; old = before i; new = after i })) None)

  -- a change of the net change is one of a table that there is, has what stands before and after, and may be put in
  pub net_exact : (s u : State) (change : Change) → Contains (net_change layouts s u) change → (change ≡ change_between layouts s u (place_of change)) × (change.table < length layouts)
  unfolding net_change
  net_exact s u change m =
      let found = from_flat (table_changes layouts s u) (range_with_len 0 (length layouts)) change m in
      let made = from_map (λ k. change_between layouts s u (record { table = found.0; key = k })) (keys_of_both layouts s u found.0) change
      (from_filter is_real (map (λ k. change_between layouts s u (record { table = found.0; key = k })) (keys_of_both layouts s u found.0)) change found.1.1) in
      (subst (λ c. c ≡ change_between layouts s u (place_of c)) made.1.1 refl, subst (λ (c : Change). c.table < length layouts) made.1.1 (let l = from_range 0 (length layouts) found.0 found.1.0 in omega (arith, l)))

  own_key : (place : Place) (state : State) → HasKey value_cmp (value_in (key_of place.table layouts)) place.key (row_in layouts state place)
  own_key place state = go (row_in layouts state place) refl
    where
      go : (o : Option RowValues) → row_in layouts state place ≡ o → HasKey value_cmp (value_in (key_of place.table layouts)) place.key o
      go None e = tt
      go (Some row) e = at_own layouts place.table place.key (rows_of place.table state) row e

  pub net_puts : (s u : State) → Each (IsPut layouts) (net_change layouts s u)
  net_puts s u = each_from (IsPut layouts) (net_change layouts s u) (λ c m.
      let is = net_exact s u c m in
      record { table_in = is.1; keyed = subst (λ (d : Change). HasKey value_cmp (value_in (key_of d.table layouts)) d.key d.new) (sym is.0) (own_key (place_of c) u) })

  -- a table that there isn't holds nothing
  beyond : (state : State) → IsState layouts state → (place : Place) → length layouts ≤ place.table → row_in layouts state place ≡ None
  beyond state fit place l = ap (row_at (key_of place.table layouts) place.key) (empty state place.table (subst (λ n. n ≤ place.table) (sym fit.long) l))

  -- it has each row in which the states differ
  pub net_all : (s u : State) → IsState layouts s → IsState layouts u → (place : Place) → (row_in layouts s place ≡ row_in layouts u place) ⊎ Contains (net_change layouts s u) (change_between layouts s u place)
  unfolding net_change
  net_all s u f g place = elim (cases_Bool (same_there (row_in layouts s place) (row_in layouts u place))) [
    | inl same ↦ inl (same_there-true _ _ same)
    | inr differ ↦ elim (cases_lt place.table (length layouts)) [
      | inl there ↦ inr (in_flat (table_changes layouts s u) (range_with_len 0 (length layouts)) place.table (change_between layouts s u place) (in_range 0 (length layouts) place.table (omega arith) (omega (arith, there)))
          (at_in value_cmp (λ (c : Change). c.key) place.key (table_changes layouts s u place.table) (change_between layouts s u place) (changes_at s u place.table place.key ∙ ap (λ b. cond (not b) (Some (change_between layouts s u place)) None) differ)))
      | inr out ↦ inl (beyond s f place out ∙ sym (beyond u g place out))
    ]
  ]

  -- put into the one state it gives the other
  pub put_net : (s u : State) → IsState layouts s → IsState layouts u → state_after_all layouts (net_change layouts s u) s ≡ u
  put_net s u f g =
      same_states layouts (state_after_all layouts (net_change layouts s u) s) u (all_fit layouts (net_change layouts s u) s f (net_puts s u)) g (λ place.
      row_in-put layouts (net_change layouts s u) s place f (net_puts s u)
      ∙ (elim (change_at_cases (net_change layouts s u) place) [
        | inl none ↦ ap (λ o. changed o (row_in layouts s place)) none ∙ (elim (net_all s u f g place) [ inl same ↦ same | inr listed ↦ absurd (listed_at (net_change layouts s u) place (change_between layouts s u place) listed refl none) ])
        | inr found ↦
            let new : found.0.new ≡ row_in layouts u (place_of found.0) = ap (λ (c : Change). c.new) (net_exact s u found.0 found.1.listed).0 in
            ap (λ o. changed o (row_in layouts s place)) found.1.is ∙ new ∙ ap (row_in layouts u) found.1.there
      ]))

  -- At each place both pairs of states moved to the same from the same, or neither moved.
  abbrev pub AlikeAt : (s o u v : State) → Place → Type 0
  AlikeAt s o u v p = ((row_in layouts u p ≡ row_in layouts v p) × (row_in layouts s p ≡ row_in layouts o p)) ⊎ ((row_in layouts u p ≡ row_in layouts s p) × (row_in layouts v p ≡ row_in layouts o p))

  abbrev pub Alike : (s o u v : State) → Type 0
  Alike s o u v = (p : Place) → AlikeAt s o u v p

  pub alike_start : (s o : State) → Alike s o s o
  alike_start s o p = inr (refl, refl)

  pub alike_under : (s o u v : State) → Alike s o u v → (key : LockKey) → SameUnder (row_in layouts) key s o → SameUnder (row_in layouts) key u v
  alike_under s o u v a key h p = elim (a p) [
    | inl moved ↦ ap (row_under_key key p) moved.0
    | inr still ↦ ap (row_under_key key p) still.0 ∙ h p ∙ sym (ap (row_under_key key p) still.1)
  ]

  table_alike : (s o u v : State) → Alike s o u v → (table : ℕ) → table_changes layouts s u table ≡ table_changes layouts o v table
  table_alike s o u v a table =
      same_list value_cmp_total (λ (c : Change). c.key) (table_changes layouts s u table) (table_changes layouts o v table) (changes_ascend s u table) (changes_ascend o v table)
      (λ q. changes_at s u table q ∙ go (record { table = table; key = q }) (a (record { table = table; key = q })) ∙ sym (changes_at o v table q))
    where
      none : (s u : State) (p : Place) → row_in layouts u p ≡ row_in layouts s p → only is_real (Some (change_between layouts s u p)) ≡ None
      none s u p e = ap (λ b. cond (not b) (Some (change_between layouts s u p)) None) (ap (same_there (row_in layouts s p)) e ∙ same_there-refl (row_in layouts s p))

      go : (p : Place) → AlikeAt s o u v p → only is_real (Some (change_between layouts s u p)) ≡ only is_real (Some (change_between layouts o v p))
      go p (inl moved) = λ i. only is_real (Some (record { table = p.table; key = p.key; old = moved.1 i; new = moved.0 i }))
      go p (inr still) = none s u p still.0 ∙ sym (none o v p still.1)

  pub net_same : (s o u v : State) → Alike s o u v → net_change layouts s u ≡ net_change layouts o v
  unfolding net_change
  net_same s o u v a = ap (λ f. flat_map f (range_with_len 0 (length layouts))) (λ i table. table_alike s o u v a table i)

  abbrev pub IsExact : List Change → State → Type 0
  IsExact changes state = Each (λ c. row_in layouts state (place_of c) ≡ c.old) changes

  -- the same changes, exact on both, leave both moved alike
  pub alike_put : (s o u v : State) (changes : List Change) → IsState layouts u → IsState layouts v → Each (IsPut layouts) changes → Alike s o u v → IsExact changes u → IsExact changes v
      → Alike s o (state_after_all layouts changes u) (state_after_all layouts changes v)
  alike_put s o u v changes f g puts a eu ev p = elim (change_at_cases changes p) [
    | inl none ↦ quiet none (a p)
    | inr found ↦ inl (now u f found.0 found.1 ∙ sym (now v g found.0 found.1), before found.0 found.1 (a p))
  ]
    where
      now : (state : State) → IsState layouts state → (c : Change) → Found changes p c → row_in layouts (state_after_all layouts changes state) p ≡ c.new
      now state fit c found = row_in-put layouts changes state p fit puts ∙ ap (λ o. changed o (row_in layouts state p)) found.is

      stays : (state : State) → IsState layouts state → change_at changes p ≡ None → row_in layouts (state_after_all layouts changes state) p ≡ row_in layouts state p
      stays state fit none = row_in-put layouts changes state p fit puts ∙ ap (λ o. changed o (row_in layouts state p)) none

      quiet : change_at changes p ≡ None → AlikeAt s o u v p → AlikeAt s o (state_after_all layouts changes u) (state_after_all layouts changes v) p
      quiet none (inl moved) = inl (stays u f none ∙ moved.0 ∙ sym (stays v g none), moved.1)
      quiet none (inr still) = inr (stays u f none ∙ still.0, stays v g none ∙ still.1)

      old : (state : State) (c : Change) → IsExact changes state → Found changes p c → row_in layouts state p ≡ c.old
      old state c e found = ap (row_in layouts state) (sym found.there) ∙ each_at (λ c. row_in layouts state (place_of c) ≡ c.old) changes e c found.listed

      before : (c : Change) → Found changes p c → AlikeAt s o u v p → row_in layouts s p ≡ row_in layouts o p
      before c found (inl moved) = moved.1
      before c found (inr still) = sym still.0 ∙ old u c eu found ∙ sym (old v c ev found) ∙ still.1
