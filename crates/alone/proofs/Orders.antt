-- Changes in the order of their places: two lists with the same members are one, so what has the differences of two states is
-- their net change.
use Rattle.std.proofs.Common.{◌≡◌, ◌<◌, ◌≤◌, ◌+◌, ℕ, zero, suc, true, false, cond, List, [], ◌∷◌, ◌++◌, ◌⊎◌, Option, Some, None, Ordering, Less, Equal, Greater, map, filter, length, refl, sym, ap, ◌∙◌, subst, inl, inr, not, nat_cmp, arith}
use Rattle.std.specs.Prelude.{Contains, flat_map}
use Rattle.std.specs.List.{range_with_len}
use Rattle.std.specs.Ordering.{ordering_then, ordering_reverse}
use Rattle.std.specs.Cmp.{IsTotalOrder, nat_cmp_is, nat_cmp_total, then_total, on_total}
use Rattle.std.specs.FinMap.{nat_cmp-IsAntisymmetric}
use Rattle.std.proofs.lemmas.Bool.{cases_Bool, not-false}
use Rattle.std.proofs.lemmas.Cmp.{tied_itself}
use Rattle.std.proofs.lemmas.Map.Lookups.{CmpEqualImpliesEq}
use Rattle.value.specs.declared.values.Value.{Value}
use Rattle.value.specs.ValueOrder.{value_cmp}
use Rattle.value.specs.Ordered.{by_order, AreAbove, IsAscending, at}
use Rattle.value.proofs.ValueOrders.{value_cmp_total, value_exact}
use Rattle.table.specs.declared.rows.Change.{Change}
use Rattle.table.specs.Rows.{RowValues, Layout, value_in, key_of}
use Rattle.assertion.specs.Meaning.{State, rows_of}
use Rattle.assertion.specs.Changes.{IsOrdered, AreChangesOf, state_after, state_after_all}
use Rattle.table.specs.declared.conds.Cond.{Cond}
use Rattle.table.specs.Eval.{keeps}
use Rattle.siread.specs.declared.keys.Place.{Place}
use Rattle.siread.specs.Keys.{same_place, place_of}
use Rattle.alone.specs.States.{row_in, IsState, IsPut, same_there, is_real, change_between, place_cmp, AreInOrder, AreDue, AreDifferences, keys_of_both, table_changes, net_change}
use Rattle.alone.specs.Statements.{Effect, found_rows}
use Rattle.alone.proofs.Effects.{IsDoable}
use Rattle.siread.proofs.Members.{in_head, in_tail, in_cases, not_in_nil}
use Rattle.alone.proofs.Lists.{Each, each_at, each_from}
use Rattle.alone.proofs.Members.{from_map, in_filter, from_filter, from_flat, filter_passes}
use Rattle.assertion.proofs.ListLemmas.{at-key}
use Rattle.alone.proofs.InOrder.{same_list, IsAscending-filter}
use Rattle.siread.proofs.KeyOrder.{same_place-true}
use Rattle.alone.proofs.Stores.{same_there-true, same_there-refl, changed, Found, change_at_cases, listed_at, row_in-after, row_in-put, after_fits, all_fit}
use Rattle.alone.proofs.Nets.{at_in, changes_ascend, net_exact, net_all}

pub place_cmp_total : IsTotalOrder place_cmp
place_cmp_total = then_total (on_total (λ (p : Place). p.table) nat_cmp_total) (on_total (λ (p : Place). p.key) value_cmp_total)

both_equal : (p q : Ordering) → ordering_then p q ≡ Equal → (p ≡ Equal) × (q ≡ Equal)
both_equal Less q e = cc
both_equal Equal q e = (refl, e)
both_equal Greater q e = cc

pub place_exact : CmpEqualImpliesEq place_cmp
place_exact a b e =
    let p = both_equal (nat_cmp a.table b.table) (value_cmp a.key b.key) e in
    let t : a.table ≡ b.table = nat_cmp-IsAntisymmetric _ _ p.0 in
    let k : a.key ≡ b.key = value_exact _ _ p.1 in
    λ i. record { table = t i; key = k i }

module _ {X K : Type 0} {R : K → K → Ordering} (o : IsTotalOrder R) (exact : CmpEqualImpliesEq R) (key : X → K) where
  above_each : (k : K) (xs : List X) → AreAbove R key k xs → (x : X) → Contains xs x → R k (key x) ≡ Less
  above_each k [] a x m = absurd (not_in_nil x m)
  above_each k (y ∷ ys) a x m = elim (in_cases y ys x m) [ inl same ↦ ap (λ z. R k (key z)) (sym same) ∙ a.0 | inr there ↦ above_each k ys a.1 x there ]

  pub each_above : (k : K) (xs : List X) → ((x : X) → Contains xs x → R k (key x) ≡ Less) → AreAbove R key k xs
  each_above k [] h = tt
  each_above k (x ∷ xs) h = (h x (in_head x xs), each_above k xs (λ y m. h y (in_tail x xs y m)))

  -- a member of a list in order stands at its key
  pub at_member : (xs : List X) → IsAscending R key xs → (x : X) → Contains xs x → at R key (key x) xs ≡ Some x
  at_member [] s x m = absurd (not_in_nil x m)
  at_member (y ∷ ys) s x m = elim (in_cases y ys x m) [
    | inl same ↦ subst (λ z. at R key (key z) (y ∷ ys) ≡ Some z) same (ap (λ c. by_order c None (Some y) (at R key (key y) ys)) (tied_itself o (key y)))
    | inr there ↦
        ap (λ c. by_order c None (Some y) (at R key (key x) ys)) (o.antisymm (key x) (key y) ∙ ap ordering_reverse (above_each (key y) ys s.0 x there))
        ∙ at_member ys s.1 x there
  ]

  -- lists in order with the same members are one
  pub same_members : (xs ys : List X) → IsAscending R key xs → IsAscending R key ys → ((x : X) → Contains xs x → Contains ys x) → ((x : X) → Contains ys x → Contains xs x) → xs ≡ ys
  same_members xs ys s t there back = same_list o key xs ys s t (λ k. go k (at R key k xs) refl (at R key k ys) refl)
    where
      moved : (k : K) (us vs : List X) → IsAscending R key vs → ((x : X) → Contains us x → Contains vs x) → (x : X) → at R key k us ≡ Some x → at R key k vs ≡ Some x
      moved k us vs v over x h =
          ap (λ j. at R key j vs) (exact k (key x) (at-key R key k us x h)) ∙ at_member vs v x (over x (at_in R key k us x h))

      go : (k : K) (p : Option X) → at R key k xs ≡ p → (q : Option X) → at R key k ys ≡ q → at R key k xs ≡ at R key k ys
      go k (Some x) e q f = e ∙ sym (moved k xs ys t there x e)
      go k None e (Some y) f = let no : None ≡ Some y = sym e ∙ moved k ys xs s back y f in cc
      go k None e None f = e ∙ sym f

  pub IsAscending-append : (xs ys : List X) → IsAscending R key xs → IsAscending R key ys → ((x y : X) → Contains xs x → Contains ys y → R (key x) (key y) ≡ Less) → IsAscending R key (xs ++ ys)
  IsAscending-append [] ys s t h = t
  IsAscending-append (x ∷ xs) ys s t h =
      (above_both xs s.0, IsAscending-append xs ys s.1 t (λ z y m n. h z y (in_tail x xs z m) n))
    where
      above_both : (zs : List X) → AreAbove R key (key x) zs → AreAbove R key (key x) (zs ++ ys)
      above_both [] a = each_above (key x) ys (λ y n. h x y (in_head x xs) n)
      above_both (z ∷ zs) a = (a.0, above_both zs a.1)

same_nat : (n : ℕ) → nat_cmp n n ≡ Equal
same_nat n = tied_itself nat_cmp_total n

-- changes of one table, by key, are by place
module _ {X : Type 0} (table : ℕ) (key : X → Value) (place : X → Place) (own : (x : X) → place x ≡ record { table = table; key = key x }) where
  place_keys : (x y : X) → place_cmp (place x) (place y) ≡ value_cmp (key x) (key y)
  place_keys x y = (λ i. place_cmp (own x i) (own y i)) ∙ ap (λ c. ordering_then c (value_cmp (key x) (key y))) (same_nat table)

  by_place_above : (x : X) (xs : List X) → AreAbove value_cmp key (key x) xs → AreAbove place_cmp place (place x) xs
  by_place_above x [] a = tt
  by_place_above x (y ∷ ys) a = (place_keys x y ∙ a.0, by_place_above x ys a.1)

  pub by_place : (xs : List X) → IsAscending value_cmp key xs → IsAscending place_cmp place xs
  by_place [] s = tt
  by_place (x ∷ xs) s = (by_place_above x xs s.0, by_place xs s.1)

map_above : {X Y K : Type 0} (R : K → K → Ordering) (f : X → Y) (key : Y → K) (k : K) (xs : List X) → AreAbove R (λ x. key (f x)) k xs → AreAbove R key k (map f xs)
map_above R f key k [] a = tt
map_above R f key k (x ∷ xs) a = (a.0, map_above R f key k xs a.1)

map_ascend : {X Y K : Type 0} (R : K → K → Ordering) (f : X → Y) (key : Y → K) (xs : List X) → IsAscending R (λ x. key (f x)) xs → IsAscending R key (map f xs)
map_ascend R f key [] s = tt
map_ascend R f key (x ∷ xs) s = (map_above R f key (key (f x)) xs s.0, map_ascend R f key xs s.1)

module _ (layouts : List Layout) where
  -- the changes of a DELETE or an UPDATE are in order
  pub found_in_order : (state : State) → IsOrdered layouts state → (table : ℕ) (restriction : Cond) (f : RowValues → Change) → ((row : RowValues) → place_of (f row) ≡ record { table = table; key = value_in (key_of table layouts) row })
      → AreInOrder (map f (found_rows state table restriction))
  found_in_order state asc table restriction f own =
      map_ascend place_cmp f place_of (found_rows state table restriction)
      (by_place table (value_in (key_of table layouts)) (λ row. place_of (f row)) own (found_rows state table restriction)
      (IsAscending-filter value_cmp_total (value_in (key_of table layouts)) (λ row. keeps row [] restriction) (rows_of table state) (asc table)))

  module _ (s u : State) where
    of_table : (table : ℕ) (change : Change) → Contains (table_changes layouts s u table) change → change.table ≡ table
    of_table table change m =
        let found = from_map (λ k. change_between layouts s u (record { table = table; key = k })) (keys_of_both layouts s u table) change (from_filter is_real _ change m) in
        sym (ap (λ (c : Change). c.table) found.1.1)

    own_places : (table : ℕ) (xs : List Change) → ((c : Change) → Contains xs c → c.table ≡ table) → IsAscending value_cmp (λ c. c.key) xs → AreInOrder xs
    own_places table [] own s = tt
    own_places table (x ∷ xs) own s = (go xs (λ c m. own c (in_tail x xs c m)) s.0, own_places table xs (λ c m. own c (in_tail x xs c m)) s.1)
      where
        go : (ys : List Change) → ((c : Change) → Contains ys c → c.table ≡ table) → AreAbove value_cmp (λ c. c.key) x.key ys → AreAbove place_cmp place_of (place_of x) ys
        go [] h a = tt
        go (y ∷ ys) h a =
            (ap (λ c. ordering_then c (value_cmp x.key y.key)) (ap (nat_cmp x.table) (h y (in_head y ys) ∙ sym (own x (in_head x xs))) ∙ same_nat x.table) ∙ a.0, go ys (λ c m. h c (in_tail y ys c m)) a.1)

    lower : (a b : ℕ) → a < b → nat_cmp a b ≡ Less
    lower a b l = sym (nat_cmp_is a b Less l)

    tables_in_order : (a n : ℕ) → AreInOrder (flat_map (table_changes layouts s u) (range_with_len a n))
    tables_in_order a zero = tt
    tables_in_order a (suc n) =
        IsAscending-append place_cmp_total place_exact place_of (table_changes layouts s u a) (flat_map (table_changes layouts s u) (range_with_len (a + 1) n))
        (own_places a (table_changes layouts s u a) (of_table a) (changes_ascend layouts s u a)) (tables_in_order (a + 1) n)
        (λ x y m k.
        let found = from_flat (table_changes layouts s u) (range_with_len (a + 1) n) y k in
        let low : x.table ≡ a = of_table a x m in
        let high : y.table ≡ found.0 = of_table found.0 y found.1.1 in
        let more : a + 1 ≤ found.0 = at_least (a + 1) n found.0 found.1.0 in
        ap (λ c. ordering_then c (value_cmp x.key y.key)) (lower x.table y.table (omega (arith, low, high, more))))
      where
        at_least : (a n t : ℕ) → Contains (range_with_len a n) t → a ≤ t
        at_least a zero t m = absurd (not_in_nil t m)
        at_least a (suc n) t m = elim (in_cases a (range_with_len (a + 1) n) t m) [
          | inl same ↦ subst (λ z. a ≤ z) same (omega arith)
          | inr there ↦ (let l = at_least (a + 1) n t there in omega (arith, l))
        ]

    pub net_in_order : AreInOrder (net_change layouts s u)
    unfolding net_change
    net_in_order = tables_in_order 0 (length layouts)

    net_real : (change : Change) → Contains (net_change layouts s u) change → is_real change ≡ true
    unfolding net_change
    net_real change m =
        let found = from_flat (table_changes layouts s u) (range_with_len 0 (length layouts)) change m in
        filter_passes is_real (map (λ k. change_between layouts s u (record { table = found.0; key = k })) (keys_of_both layouts s u found.0)) change found.1.1

    -- what has the rows in which two states differ is their net change
    pub net_only : IsState layouts s → IsState layouts u → (changes : List Change) → AreDifferences layouts changes s u → changes ≡ net_change layouts s u
    net_only f g changes d =
        same_members place_cmp_total place_exact place_of changes (net_change layouts s u) d.in_order net_in_order
        (λ c m. over (net_change layouts s u) c (d.exact c m) (d.real c m) (net_all layouts s u f g (place_of c)))
        (λ c m. over changes c (net_exact layouts s u c m).0 (net_real c m) (d.all (place_of c)))
      where
        over : (list : List Change) (c : Change) → c ≡ change_between layouts s u (place_of c) → is_real c ≡ true → (row_in layouts s (place_of c) ≡ row_in layouts u (place_of c)) ⊎ Contains list (change_between layouts s u (place_of c)) → Contains list c
        over list c e r (inr listed) = subst (Contains list) (sym e) listed
        over list c e r (inl same) =
            let still : same_there (row_in layouts s (place_of c)) (row_in layouts u (place_of c)) ≡ true = ap (same_there (row_in layouts s (place_of c))) (sym same) ∙ same_there-refl (row_in layouts s (place_of c)) in
            let no : true ≡ false = sym r ∙ ap is_real e ∙ ap not still in
            cc

  -- due changes: what they leave at each of their places, and elsewhere
  module _ (state : State) (fit : IsState layouts state) (changes : List Change) (due : AreDue layouts changes state) where
    abbrev left : State
    left = state_after_all layouts changes state

    all_put : Each (IsPut layouts) changes
    all_put = each_from (IsPut layouts) changes due.puts

    -- a place has one change
    one_change : (c d : Change) → Contains changes c → Contains changes d → place_of d ≡ place_of c → d ≡ c
    one_change c d m n e =
        let at_c : at place_cmp place_of (place_of c) changes ≡ Some c = at_member place_cmp_total place_exact place_of changes due.in_order c m in
        let at_d : at place_cmp place_of (place_of c) changes ≡ Some d = subst (λ p. at place_cmp place_of p changes ≡ Some d) e (at_member place_cmp_total place_exact place_of changes due.in_order d n) in
        let same : Some d ≡ Some c = sym at_d ∙ at_c in
        cc

    left_new : (c : Change) → Contains changes c → row_in layouts left (place_of c) ≡ c.new
    left_new c m = row_in-put layouts changes state (place_of c) fit all_put ∙ (elim (change_at_cases changes (place_of c)) [
      | inl none ↦ absurd (listed_at changes (place_of c) c m refl none)
      | inr found ↦ ap (λ o. changed o (row_in layouts state (place_of c))) found.1.is ∙ ap (λ (c : Change). c.new) (one_change c found.0 m found.1.listed found.1.there)
    ])

    due_exact : (c : Change) → Contains changes c → c ≡ change_between layouts state left (place_of c)
    due_exact c m =
        let old : c.old ≡ row_in layouts state (place_of c) = sym (due.exact c m) in
        let new : c.new ≡ row_in layouts left (place_of c) = sym (left_new c m) in
        λ i. record { table = c.table; key = c.key; old = old i; new = new i }

    -- the net change of due changes: those that aren't of a row to what it held
    pub net_is_real : filter is_real changes ≡ net_change layouts state left
    net_is_real = net_only state left fit (all_fit layouts changes state fit all_put) (filter is_real changes) (record {
      in_order = IsAscending-filter place_cmp_total place_of is_real changes due.in_order;
      exact = λ c m. due_exact c (from_filter is_real changes c m);
      real = λ c m. filter_passes is_real changes c m;
      all = λ place. elim (change_at_cases changes place) [
        | inl none ↦ inl (sym (row_in-put layouts changes state place fit all_put ∙ ap (λ o. changed o (row_in layouts state place)) none))
        | inr found ↦ at_found place found.0 found.1 (cases_Bool (is_real found.0))
      ];
    })
      where
        at_found : (place : Place) (c : Change) → Found changes place c → (is_real c ≡ true) ⊎ (is_real c ≡ false)
            → (row_in layouts state place ≡ row_in layouts (state_after_all layouts changes state) place) ⊎ Contains (filter is_real changes) (change_between layouts state (state_after_all layouts changes state) place)
        at_found place c found (inl real) =
            inr (subst (Contains (filter is_real changes)) (due_exact c found.listed ∙ ap (change_between layouts state left) found.there) (in_filter is_real changes c real found.listed))
        at_found place c found (inr still) =
            let same : c.old ≡ c.new = same_there-true c.old c.new (not-false (same_there c.old c.new) still) in
            inl (ap (row_in layouts state) (sym found.there) ∙ due.exact c found.listed ∙ same ∙ sym (left_new c found.listed) ∙ ap (row_in layouts left) found.there)

  -- one after the other, each is a change of the state that those before it leave
  pub due_changes : (state : State) → IsState layouts state → (changes : List Change) → AreDue layouts changes state → AreChangesOf layouts changes state
  due_changes state fit [] due = tt
  due_changes state fit (c ∷ rest) due =
      let put : IsPut layouts c = due.puts c (in_head c rest) in (
        record { table_in = subst (λ n. c.table < n) (sym fit.long) put.table_in; stands = due.exact c (in_head c rest); keyed = put.keyed },
        due_changes (state_after layouts c state) (after_fits layouts state fit c put) rest (record {
          in_order = due.in_order.1;
          exact = λ d m.
              row_in-after layouts state fit c put (place_of d)
              ∙ ap (λ b. cond b c.new (row_in layouts state (place_of d))) (apart d m)
              ∙ due.exact d (in_tail c rest d m);
          puts = λ d m. due.puts d (in_tail c rest d m);
        }),
      )
    where
      apart : (d : Change) → Contains rest d → same_place (place_of c) (place_of d) ≡ false
      apart d m = elim (cases_Bool (same_place (place_of c) (place_of d))) [
        | inr other ↦ other
        | inl same ↦
            let less : place_cmp (place_of c) (place_of d) ≡ Less = above_each place_cmp_total place_exact place_of (place_of c) rest due.in_order.0 d m in
            let level : place_cmp (place_of c) (place_of d) ≡ Equal = subst (λ p. place_cmp (place_of c) p ≡ Equal) (same_place-true (place_of c) (place_of d) same) (tied_itself place_cmp_total (place_of c)) in
            let no : Less ≡ Equal = sym less ∙ level in
            cc
      ]

  pub due_from : (state : State) (effect : Effect) → AreInOrder effect.changes → IsDoable layouts effect state → AreDue layouts effect.changes state
  due_from state effect order d = record {
    in_order = order;
    exact = λ c m. each_at (λ c. row_in layouts state (place_of c) ≡ c.old) effect.changes d.exact c m;
    puts = λ c m. each_at (IsPut layouts) effect.changes d.puts c m;
  }
