-- A node that is changed where it stands.
use Rattle.std.proofs.lemmas.List.{length-append, length-map}
use Rattle.std.proofs.Common.{◌≡◌, ℕ, zero, suc, ◌+◌, ◌<◌, ◌≤◌, ◌⊎◌, inl, inr, List, [], ◌∷◌, ◌++◌, take, drop, length, map, Bool, true, false, Option, Some, None, Result, Ok, Err, refl, sym, ◌∙◌, ap, arith, slice_index_or, set, subst, Global}
use Rattle.std.specs.Prelude.{option_to_list, is_some, OnErr}
use Rattle.std.proofs.lemmas.Bool.{false≢true}
use Rattle.std.specs.Arc.{arc_value}
use Rattle.std.specs.declared.sync.Arc.{Arc}
use Rattle.std.specs.declared.cmp.Ordering.TheVariants.{Less, Equal, Greater}
use Rattle.value.specs.declared.values.Value.{Value}
use Rattle.value.specs.ValueOrder.{value_cmp}
use Rattle.value.specs.Ordered.{by_order, put, HasKey}
use Rattle.value.proofs.ValueOrders.{value_cmp_total}
use Rattle.value.proofs.OrderedLists.{IsAscending-put}
use Rattle.std.specs.List.{insert}
use Rattle.pages.specs.Reach.{key_of, entry_of, AreInOrder}
use Rattle.pages.specs.Levels.{Tree, entries_of, entries_at, highest, HaveHeight, HaveEntries, IsSoAt, IsNarrow}
use Rattle.pages.specs.Parts.{Leads, AreBelow, AreFilled, AreFilledBut, AreSame}
use Rattle.pages.specs.Shapes.{HasRoom}
use Rattle.pages.specs.Cuts.{AreHalves}
use Rattle.pages.proofs.Orders.{index_map, shared_there}
use Rattle.pages.proofs.Trees.{height_is, own_height, height_at, entries_at-is, but_set}
use Rattle.pages.proofs.Parting.{put_led, parted_led, parted_same, entries_same, height_set, count_set, led_within}
use Rattle.pages.proofs.Descents.{child_entries}
use Rattle.pages.proofs.Shifts.{map_set, map_insert, set_itself, cut_same, first_so, second_so, nodes_cut, length_set, AreCut}

-- another owner of an equal node
pub own_same : {X : Type 0} (nodes : List (Arc X Global)) (r : ℕ) (x y : Arc X Global) → x ≡ slice_index_or nodes r x → arc_value y ≡ arc_value x → map arc_value (set nodes r y) ≡ map arc_value nodes
own_same nodes r x y e f = map_set arc_value nodes r y ∙ ap (set (map arc_value nodes) r) f ∙ sym (map_set arc_value nodes r x) ∙ ap (map arc_value) (set_itself nodes r x e)

module _ {V : Type 0} where
  pub same_as : (seps newer : List Value) (ts us : List (Tree V)) → newer ≡ seps → us ≡ ts → AreBelow seps ts → AreFilled ts → AreSame seps newer ts us
  same_as seps newer ts us n e below filled = record {
    items = ap entries_of e;
    height = ap highest e;
    below = subst (λ ss. AreBelow ss us) (sym n) (subst (AreBelow seps) (sym e) below);
    filled = subst AreFilled (sym e) filled;
  }

  pub same_from : (seps newer : List Value) (ts us vs : List (Tree V)) → us ≡ ts → AreSame seps newer us vs → AreSame seps newer ts vs
  same_from seps newer ts us vs e s = record { items = s.items ∙ ap entries_of e; height = s.height ∙ ap highest e; below = s.below; filled = s.filled }

  pub at_most_all : (ts : List (Tree V)) (r : ℕ) → length (entries_at ts r) ≤ length (entries_of ts)
  at_most_all [] r = omega arith
  at_most_all (t ∷ ts) zero = omega (arith, length-append t.1 (entries_of ts))
  at_most_all (t ∷ ts) (suc r) = omega (arith, length-append t.1 (entries_of ts), at_most_all ts r)

  one_most : (new : Option (Value × V)) → length (option_to_list new) ≤ 1
  one_most None = omega arith
  one_most (Some w) = omega arith

  -- a change adds at most one entry
  pub length_put : (k : Value) (new : Option (Value × V)) (xs : List (Value × V)) → length (put value_cmp key_of k new xs) ≤ length xs + 1
  length_put k new [] = omega (arith, one_most new)
  length_put k new (x ∷ xs) = elim (value_cmp k (key_of x)) as (λ c. length (by_order c (option_to_list new ++ x ∷ xs) (option_to_list new ++ xs) (x ∷ put value_cmp key_of k new xs)) ≤ length (x ∷ xs) + 1) [
    | Less ↦ omega (arith, length-append (option_to_list new) (x ∷ xs), one_most new)
    | Equal ↦ omega (arith, length-append (option_to_list new) xs, one_most new)
    | Greater ↦ omega (arith, length_put k new xs)
  ]

  -- and takes at most one away
  pub put_length : (k : Value) (new : Option (Value × V)) (xs : List (Value × V)) → length xs ≤ length (put value_cmp key_of k new xs) + 1
  put_length k new [] = omega arith
  put_length k new (x ∷ xs) = elim (value_cmp k (key_of x)) as (λ c. length (x ∷ xs) ≤ length (by_order c (option_to_list new ++ x ∷ xs) (option_to_list new ++ xs) (x ∷ put value_cmp key_of k new xs)) + 1) [
    | Less ↦ omega (arith, length-append (option_to_list new) (x ∷ xs))
    | Equal ↦ omega (arith, length-append (option_to_list new) xs)
    | Greater ↦ omega (arith, put_length k new xs)
  ]

  -- what is put in stands there
  put_some : (k : Value) (w : Value × V) (xs : List (Value × V)) → 0 < length (put value_cmp key_of k (Some w) xs)
  put_some k w [] = omega arith
  put_some k w (x ∷ xs) = elim (value_cmp k (key_of x)) as (λ c. 0 < length (by_order c (w ∷ x ∷ xs) (w ∷ xs) (x ∷ put value_cmp key_of k (Some w) xs))) [
    | Less ↦ omega arith
    | Equal ↦ omega arith
    | Greater ↦ omega arith
  ]

  -- where no entry is left, one at most was there, and none was to come
  pub none_left : (k : Value) (new : Option V) (grows : Bool) (xs ys : List (Value × V)) → grows ≡ is_some new → ys ≡ put value_cmp key_of k (entry_of k new) xs → ys ≡ [] → (grows ≡ false) × (length xs ≤ 1)
  none_left k None grows xs ys e p n = (e, omega (arith, put_length k None xs, ap length (sym p ∙ n)))
  none_left k (Some v) grows xs ys e p n = absurd (omega (arith, put_some k (k, v) xs, ap length (sym p ∙ n)))

  pub set_there : (r : ℕ) (ts : List (Tree V)) (t : Tree V) → r < length ts → entries_at (set ts r t) r ≡ t.1
  set_there r [] t h = absurd (omega (arith, h))
  set_there zero (u ∷ ts) t h = refl
  set_there (suc r) (u ∷ ts) t h = set_there r ts t (omega (arith, h))

  -- the nodes after a change of the one that the key belongs to
  pub record ArePut (k : Value) (new : Option (Value × V)) (seps : List Value) (ts us : List (Tree V)) (r : ℕ) : Type 0 where
    pub items : entries_of us ≡ put value_cmp key_of k new (entries_of ts)
    pub height : highest us ≡ highest ts
    pub below : AreBelow seps us
    pub filled : AreFilledBut r us
    pub within : r < length us
    pub count : length (entries_of ts) + length (entries_at us r) ≡ length (entries_of us) + length (entries_at ts r)

  pub are_put : (k : Value) (new : Option (Value × V)) (seps : List Value) (nodes : List (Arc (Tree V) Global)) (us : List (Tree V)) (r : ℕ) (x : Arc (Tree V) Global) (t : Tree V) → HasKey value_cmp key_of k new → Leads k seps r → AreBelow seps (map arc_value nodes) → AreFilled (map arc_value nodes)
      → x ≡ slice_index_or nodes r x → us ≡ set (map arc_value nodes) r t → t.0.0 ≡ (arc_value x).0.0 → t.1 ≡ put value_cmp key_of k new (arc_value x).1 → ArePut k new seps (map arc_value nodes) us r
  are_put k new seps nodes us r x t n l below filled is made high changed =
      let ts = map arc_value nodes in
      let within : r < length ts = led_within k seps r ts l below.parted in
      let node : arc_value x ≡ slice_index_or ts r (arc_value x) = ap arc_value is ∙ sym (index_map arc_value nodes r x) in
      let old : entries_at ts r ≡ (arc_value x).1 = entries_at-is ts r (arc_value x) within ∙ ap (λ (u : Tree V). u.1) (sym node) in
      let height : t.0.0 ≡ highest ts = high ∙ ap (λ (u : Tree V). u.0.0) node ∙ height_at (highest ts) ts r (arc_value x) within below.level in
      let entries : t.1 ≡ put value_cmp key_of k new (entries_at ts r) = changed ∙ ap (put value_cmp key_of k new) (sym old) in
      let items : entries_of (set ts r t) ≡ put value_cmp key_of k new (entries_of ts) = put_led k new seps r ts t l below.parted entries in
      let level : HaveHeight (highest ts) (set ts r t) = height_set (highest ts) r ts t height below.level in
      subst (λ vs. ArePut k new seps ts vs r) (sym made) (record {
        items = items;
        height = height_is (highest ts) (set ts r t) (omega (arith, within, length_set r ts t)) level;
        below = record {
          most = omega (arith, below.most, length_set r ts t);
          level = own_height (highest ts) (set ts r t) level;
          order = subst AreInOrder (sym items) (IsAscending-put value_cmp_total key_of k new (entries_of ts) n below.order);
          rising = below.rising;
          parted = parted_led k new seps r ts t n l below.parted entries;
        };
        filled = λ many. but_set r ts t (filled (omega (arith, many, length_set r ts t)));
        within = omega (arith, within, length_set r ts t);
        count = omega (arith, count_set r ts t within, ap length (set_there r ts t within));
      })

  HaveEntries-set : (r : ℕ) (ts : List (Tree V)) (t : Tree V) → t.1 ≡ entries_at ts r → HaveEntries ts → HaveEntries (set ts r t)
  HaveEntries-set r [] t e a = tt
  HaveEntries-set zero (u ∷ ts) t e a = (omega (arith, a.0, ap length e), a.1)
  HaveEntries-set (suc r) (u ∷ ts) t e a = (a.0, HaveEntries-set r ts t e a.1)

  -- or where it finds no memory
  pub are_same : (k : Value) (seps : List Value) (nodes : List (Arc (Tree V) Global)) (us : List (Tree V)) (r : ℕ) (x : Arc (Tree V) Global) (t : Tree V) → Leads k seps r → AreBelow seps (map arc_value nodes) → AreFilled (map arc_value nodes)
      → x ≡ slice_index_or nodes r x → us ≡ set (map arc_value nodes) r t → t.0.0 ≡ (arc_value x).0.0 → t.1 ≡ (arc_value x).1 → AreSame seps seps (map arc_value nodes) us
  are_same k seps nodes us r x t l below filled is made high same =
      let ts = map arc_value nodes in
      let within : r < length ts = led_within k seps r ts l below.parted in
      let node : arc_value x ≡ slice_index_or ts r (arc_value x) = ap arc_value is ∙ sym (index_map arc_value nodes r x) in
      let old : entries_at ts r ≡ (arc_value x).1 = entries_at-is ts r (arc_value x) within ∙ ap (λ (u : Tree V). u.1) (sym node) in
      let height : t.0.0 ≡ highest ts = high ∙ ap (λ (u : Tree V). u.0.0) node ∙ height_at (highest ts) ts r (arc_value x) within below.level in
      let entries : t.1 ≡ entries_at ts r = same ∙ sym old in
      let items : entries_of (set ts r t) ≡ entries_of ts = entries_same r ts t entries in
      let level : HaveHeight (highest ts) (set ts r t) = height_set (highest ts) r ts t height below.level in
      subst (λ vs. AreSame seps seps ts vs) (sym made) (record {
        items = items;
        height = height_is (highest ts) (set ts r t) (omega (arith, within, length_set r ts t)) level;
        below = record {
          most = omega (arith, below.most, length_set r ts t);
          level = own_height (highest ts) (set ts r t) level;
          order = subst AreInOrder (sym items) below.order;
          rising = below.rising;
          parted = parted_same seps r ts t entries below.parted;
        };
        filled = λ many. HaveEntries-set r ts t entries (filled (omega (arith, many, length_set r ts t)));
      })

  -- the nodes with one of them cut
  cut_made : (nodes mid made : List (Arc (Tree V) Global)) (r : ℕ) (y b : Arc (Tree V) Global) → mid ≡ nodes → made ≡ insert (set mid r y) (r + 1) b
      → map arc_value made ≡ insert (set (map arc_value nodes) r (arc_value y)) (suc r) (arc_value b)
  cut_made nodes mid made r y b q m =
      let one : r + 1 ≡ suc r = omega arith in
      ap (map arc_value) (m ∙ ap (λ xs. insert (set xs r y) (r + 1) b) q) ∙ map_insert arc_value (set nodes r y) (r + 1) b ∙ ap (λ vs. insert vs (r + 1) (arc_value b)) (map_set arc_value nodes r y)
      ∙ ap (λ (i : ℕ). insert (set (map arc_value nodes) r (arc_value y)) i (arc_value b)) one

  pub cut_there : (seps mids newer : List Value) (nodes mid made : List (Arc (Tree V) Global)) (r : ℕ) (key : Value) (x y b : Arc (Tree V) Global) → mids ≡ seps → mid ≡ nodes → r < length nodes → length (map arc_value nodes) < 15 → x ≡ slice_index_or mid r x
      → AreHalves (arc_value x) (arc_value y) key (arc_value b) → newer ≡ insert mids r key → made ≡ insert (set mid r y) (r + 1) b → AreBelow seps (map arc_value nodes) → AreFilled (map arc_value nodes) → AreSame seps newer (map arc_value nodes) (map arc_value made)
  cut_there seps mids newer nodes mid made r key x y b p q h l is c n m below filled =
      let ts = map arc_value nodes in
      let within : r < length ts = omega (arith, h, length-map nodes arc_value) in
      let here : x ≡ slice_index_or nodes r x = is ∙ ap (λ xs. slice_index_or xs r x) q in
      let there = shared_there nodes r x (arc_value x) h here refl in
      let old : (arc_value x).1 ≡ entries_at ts r = child_entries nodes r x (arc_value x) h here refl in
      let height : (arc_value x).0.0 ≡ highest ts = ap (λ (t : Tree V). t.0.0) there.is ∙ height_at (highest ts) ts r (arc_value x) within below.level in
      cut_same r seps newer ts (map arc_value made) key (arc_value x) (arc_value y) (arc_value b) within l c old height (n ∙ ap (λ ss. insert ss r key) p)
      (cut_made nodes mid made r y b q m) below filled

  pub cut_room : (nodes mid made : List (Arc (Tree V) Global)) (r place : ℕ) (key : Value) (x y b : Arc (Tree V) Global) → mid ≡ nodes → r < length nodes → AreHalves (arc_value x) (arc_value y) key (arc_value b) → made ≡ insert (set mid r y) (r + 1) b
      → (place ≡ r) ⊎ (place ≡ suc r) → IsSoAt IsNarrow (map arc_value made) place
  cut_room nodes mid made r place key x y b q h c m either =
      let ts = map arc_value nodes in
      let within : r < length ts = omega (arith, h, length-map nodes arc_value) in
      let so : IsSoAt IsNarrow (insert (set ts r (arc_value y)) (suc r) (arc_value b)) place = at_either ts within either in
      subst (λ us. IsSoAt IsNarrow us place) (sym (cut_made nodes mid made r y b q m)) so
    where
      at_either : (ts : List (Tree V)) → r < length ts → (place ≡ r) ⊎ (place ≡ suc r) → IsSoAt IsNarrow (insert (set ts r (arc_value y)) (suc r) (arc_value b)) place
      at_either ts w (inl e) = subst (λ (i : ℕ). IsSoAt IsNarrow (insert (set ts r (arc_value y)) (suc r) (arc_value b)) i) (sym e) (first_so IsNarrow r ts (arc_value y) (arc_value b) w c.first_room)
      at_either ts w (inr e) = subst (λ (i : ℕ). IsSoAt IsNarrow (insert (set ts r (arc_value y)) (suc r) (arc_value b)) i) (sym e) (second_so IsNarrow r ts (arc_value y) (arc_value b) w c.second_room)

pub either_within : (place r n : ℕ) → r + 1 < n → (place ≡ r) ⊎ (place ≡ suc r) → place < n
either_within place r n h (inl e) = omega (arith, h, e)
either_within place r n h (inr e) = omega (arith, h, e)

map_take : {X Y : Type 0} (f : X → Y) (n : ℕ) (xs : List X) → map f (take n xs) ≡ take n (map f xs)
map_take f zero [] = refl
map_take f (suc n) [] = refl
map_take f zero (x ∷ xs) = refl
map_take f (suc n) (x ∷ xs) = ap (λ zs. f x ∷ zs) (map_take f n xs)

module _ {V : Type 0} where
  -- the nodes behind a place are taken off
  pub cut_behind : (r : ℕ) (seps fore aft seen : List Value) (nodes front : List (Arc (Tree V) Global)) (behind : List (Tree V)) (looked : List (Arc (Tree V) Global)) (key k : Value) → r + 1 < length (map arc_value nodes)
      → key ≡ k → k ≡ slice_index_or seps r k → fore ≡ take r seps → seen ≡ seps → aft ≡ drop (r + 1) seen → front ≡ take (r + 1) nodes → looked ≡ nodes → behind ≡ drop (r + 1) (map arc_value looked) → AreBelow seps (map arc_value nodes) → AreFilled (map arc_value nodes)
      → AreCut fore aft (map arc_value nodes) (map arc_value front) behind key
  cut_behind r seps fore aft seen nodes front behind looked key k h q e a v b c w d below filled =
      let one : r + 1 ≡ suc r = omega arith in
      let all = map arc_value nodes in
      nodes_cut r seps fore aft all (map arc_value front) behind key (omega (arith, h))
      (q ∙ e ∙ ap (slice_index_or seps r) (sym q)) a (b ∙ ap (drop (r + 1)) v ∙ ap (λ (i : ℕ). drop i seps) one) (ap (map arc_value) c ∙ map_take arc_value (r + 1) nodes ∙ ap (λ (i : ℕ). take i all) one)
      (d ∙ ap (λ (xs : List (Arc (Tree V) Global)). drop (r + 1) (map arc_value xs)) w ∙ ap (λ (i : ℕ). drop i all) one) below filled

module _ {V : Type 0} where
  -- room for what is to come
  pub room_for : (new : Option V) (t : Tree V) (grows : Bool) → grows ≡ is_some new → HasRoom new t → grows ≡ true → IsNarrow t
  room_for None t grows e r g = absurd (false≢true (sym e ∙ g))
  room_for (Some v) t grows e r g = r

  pub room_if : (new : Option V) (t : Tree V) (grows : Bool) → grows ≡ is_some new → (grows ≡ true → IsNarrow t) → HasRoom new t
  room_if None t grows e r = tt
  room_if (Some v) t grows e r = r e

-- what holds where there is an answer, holds where it is a refusal
pub on_err : {A E : Type 0} {P : Type 0} (r : Result A E) → P → OnErr r P
on_err (Ok a) p = tt
on_err (Err e) p = p
