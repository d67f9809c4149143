-- Lists of entries in the order of their keys: how far they reach, what stands at a key, and a change at a key.
use Rattle.std.specs.Arc.{arc_value}
use Rattle.std.specs.declared.sync.Arc.{Arc}
use Rattle.std.proofs.lemmas.List.{length-map, append-nil, take-append-drop, length-append, drop_more, take_more}
use Rattle.std.proofs.Common.{◌≡◌, ℕ, zero, suc, ◌+◌, ◌<◌, ◌≤◌, ◌-◌, Bool, true, false, not, ◌||◌, List, [], ◌∷◌, ◌++◌, take, drop, length, map, Option, Some, None, refl, sym, ◌∙◌, ap, arith, append_assoc, slice_index_or, slice_get, subst, Global}
use Rattle.std.specs.Prelude.{option_to_list}
use Rattle.std.specs.Ordering.{is_gt, ordering_reverse}
use Rattle.std.specs.declared.cmp.Ordering.{Ordering}
use Rattle.std.specs.declared.cmp.Ordering.TheVariants.{Less, Equal, Greater}
use Rattle.value.specs.declared.values.Value.{Value}
use Rattle.value.specs.ValueOrder.{value_cmp}
use Rattle.value.specs.Ordered.{by_order, at, put, AreAbove}
use Rattle.value.proofs.ValueOrders.{value_cmp_total}
use Rattle.value.proofs.OrderedLists.{AreAbove-below, at-above, flipped}
use Rattle.std.proofs.Math.Bool.{or_assoc, or-true}
use Rattle.pages.specs.Reach.{key_of, reaches, AreInOrder}

pub passed_first : (c : Ordering) (b : Bool) → not (is_gt c) || b ≡ false → c ≡ Greater
passed_first Less b h = cc
passed_first Equal b h = cc
passed_first Greater b h = refl

abbrev pub first_or : {X : Type 0} → X → List X → X
first_or d [] = d
first_or d (x ∷ xs) = x

pub drop_within : {X : Type 0} (n : ℕ) (xs ys : List X) → n < length xs → drop n (xs ++ ys) ≡ drop n xs ++ ys
drop_within n [] ys h = absurd (omega (arith, h))
drop_within zero (x ∷ xs) ys h = refl
drop_within (suc n) (x ∷ xs) ys h = drop_within n xs ys (omega (arith, h))

pub drop_past : {X : Type 0} (n : ℕ) (xs ys : List X) → length xs ≤ n → drop n (xs ++ ys) ≡ drop (n - length xs) ys
drop_past n [] ys h = let e : n ≡ n - 0 = omega arith in ap (λ (m : ℕ). drop m ys) e
drop_past zero (x ∷ xs) ys h = absurd (omega (arith, h))
drop_past (suc n) (x ∷ xs) ys h =
    let e : n - length xs ≡ suc n - length (x ∷ xs) = omega arith in
    drop_past n xs ys (omega (arith, h)) ∙ ap (λ (m : ℕ). drop m ys) e

pub map_drop : {X Y : Type 0} (f : X → Y) (n : ℕ) (xs : List X) → map f (drop n xs) ≡ drop n (map f xs)
map_drop f zero [] = refl
map_drop f (suc n) [] = refl
map_drop f zero (x ∷ xs) = refl
map_drop f (suc n) (x ∷ xs) = map_drop f n xs

pub take_all : {X : Type 0} (n : ℕ) (xs : List X) → n ≡ length xs → take n xs ≡ xs
take_all zero [] h = refl
take_all (suc n) [] h = refl
take_all zero (x ∷ xs) h = absurd (omega (arith, h))
take_all (suc n) (x ∷ xs) h = ap (λ ys. x ∷ ys) (take_all n xs (omega (arith, h)))

-- a front that is all of xs, or less, is a front of more
pub front_of_more : {X : Type 0} (n : ℕ) (m xs ys : List X) → n ≡ length m → m ≡ take n xs → m ≡ take n (xs ++ ys)
front_of_more zero m xs ys h e = e
front_of_more (suc n) [] xs ys h e = absurd (omega (arith, h))
front_of_more (suc n) (x ∷ m) [] ys h e = cc
front_of_more (suc n) (x ∷ m) (y ∷ xs) ys h e =
    let n_is : n ≡ length m = omega (arith, h) in
    ap (λ z. z ∷ m) (ap (first_or x) e) ∙ ap (λ zs. y ∷ zs) (front_of_more n m xs ys n_is (ap (drop 1) e))

-- an item of a list whose items are each seen so
pub index_map : {X Y : Type 0} (f : X → Y) (xs : List X) (i : ℕ) (d : X) → slice_index_or (map f xs) i (f d) ≡ f (slice_index_or xs i d)
index_map f [] i d = refl
index_map f (x ∷ xs) zero d = refl
index_map f (x ∷ xs) (suc i) d = index_map f xs i d

pub get_is : {X : Type 0} (xs : List X) (i : ℕ) (x : X) → i < length xs → x ≡ slice_index_or xs i x → slice_get xs i ≡ Some x
get_is [] i x h e = absurd (omega (arith, h))
get_is (y ∷ xs) zero x h e = ap Some (sym e)
get_is (y ∷ xs) (suc i) x h e = get_is xs i x (omega (arith, h)) e

-- a shared item, and its place in the list of what is shared
pub record IsThere {X : Type 0} (xs : List X) (i : ℕ) (x : X) : Type 0 where
  pub within : i < length xs
  pub is : x ≡ slice_index_or xs i x

abbrev pub pick : {X : Type 0} → X → Option X → X
pick d None = d
pick d (Some x) = x

pub got_there : {X : Type 0} (xs : List X) (i : ℕ) (x : X) → Some x ≡ slice_get xs i → IsThere xs i x
got_there [] i x e = cc
got_there (y ∷ xs) zero x e = record { within = omega arith; is = ap (pick x) e }
got_there (y ∷ xs) (suc i) x e = let rest = got_there xs i x e in record { within = omega (arith, rest.within); is = rest.is }

pub shared_there : {X : Type 0} (xs : List (Arc X Global)) (i : ℕ) (x : Arc X Global) (y : X) → i < length xs → x ≡ slice_index_or xs i x → y ≡ arc_value x → IsThere (map arc_value xs) i y
shared_there xs i x y h e f = record {
  within = omega (arith, h, length-map xs arc_value);
  is = f ∙ ap arc_value e ∙ sym (index_map arc_value xs i x) ∙ ap (slice_index_or (map arc_value xs) i) (sym f);
}

module _ {V : Type 0} where
  pub reaches-append : (k : Value) (xs ys : List (Value × V)) → reaches k (xs ++ ys) ≡ reaches k xs || reaches k ys
  reaches-append k [] ys = refl
  reaches-append k (x ∷ xs) ys = ap (λ b. not (is_gt (value_cmp k (key_of x))) || b) (reaches-append k xs ys) ∙ sym (or_assoc (not (is_gt (value_cmp k (key_of x)))) (reaches k xs) (reaches k ys))

  pub at_past : (k : Value) (xs ys : List (Value × V)) → reaches k xs ≡ false → at value_cmp key_of k (xs ++ ys) ≡ at value_cmp key_of k ys
  at_past k [] ys h = refl
  at_past k (x ∷ xs) ys h =
      let case : (c : Ordering) → not (is_gt c) || reaches k xs ≡ false → by_order c None (Some x) (at value_cmp key_of k (xs ++ ys)) ≡ at value_cmp key_of k ys = λ c. elim c as (λ c. not (is_gt c) || reaches k xs ≡ false → by_order c None (Some x) (at value_cmp key_of k (xs ++ ys)) ≡ at value_cmp key_of k ys) [
        | Less ↦ λ e. cc
        | Equal ↦ λ e. cc
        | Greater ↦ λ e. at_past k xs ys e
      ]
      in case (value_cmp k (key_of x)) h

  pub at_stops : (k : Value) (xs ys : List (Value × V)) → reaches k xs ≡ true → at value_cmp key_of k (xs ++ ys) ≡ at value_cmp key_of k xs
  at_stops k [] ys h = cc
  at_stops k (x ∷ xs) ys h =
      let case : (c : Ordering) → not (is_gt c) || reaches k xs ≡ true → by_order c None (Some x) (at value_cmp key_of k (xs ++ ys)) ≡ by_order c None (Some x) (at value_cmp key_of k xs) = λ c. elim c as (λ c. not (is_gt c) || reaches k xs ≡ true → by_order c None (Some x) (at value_cmp key_of k (xs ++ ys)) ≡ by_order c None (Some x) (at value_cmp key_of k xs)) [
        | Less ↦ λ e. refl
        | Equal ↦ λ e. refl
        | Greater ↦ λ e. at_stops k xs ys e
      ]
      in case (value_cmp k (key_of x)) h

  pub put_past : (k : Value) (new : Option (Value × V)) (xs ys : List (Value × V)) → reaches k xs ≡ false → put value_cmp key_of k new (xs ++ ys) ≡ xs ++ put value_cmp key_of k new ys
  put_past k new [] ys h = refl
  put_past k new (x ∷ xs) ys h =
      let case : (c : Ordering) → not (is_gt c) || reaches k xs ≡ false → by_order c (option_to_list new ++ x ∷ (xs ++ ys)) (option_to_list new ++ (xs ++ ys)) (x ∷ put value_cmp key_of k new (xs ++ ys)) ≡ x ∷ (xs ++ put value_cmp key_of k new ys) = λ c. elim c as (λ c. not (is_gt c) || reaches k xs ≡ false → by_order c (option_to_list new ++ x ∷ (xs ++ ys)) (option_to_list new ++ (xs ++ ys)) (x ∷ put value_cmp key_of k new (xs ++ ys)) ≡ x ∷ (xs ++ put value_cmp key_of k new ys)) [
        | Less ↦ λ e. cc
        | Equal ↦ λ e. cc
        | Greater ↦ λ e. ap (λ zs. x ∷ zs) (put_past k new xs ys e)
      ]
      in case (value_cmp k (key_of x)) h

  pub put_stops : (k : Value) (new : Option (Value × V)) (xs ys : List (Value × V)) → reaches k xs ≡ true → put value_cmp key_of k new (xs ++ ys) ≡ put value_cmp key_of k new xs ++ ys
  put_stops k new [] ys h = cc
  put_stops k new (x ∷ xs) ys h =
      let case : (c : Ordering) → not (is_gt c) || reaches k xs ≡ true → by_order c (option_to_list new ++ x ∷ (xs ++ ys)) (option_to_list new ++ (xs ++ ys)) (x ∷ put value_cmp key_of k new (xs ++ ys)) ≡ by_order c (option_to_list new ++ x ∷ xs) (option_to_list new ++ xs) (x ∷ put value_cmp key_of k new xs) ++ ys = λ c. elim c as (λ c. not (is_gt c) || reaches k xs ≡ true → by_order c (option_to_list new ++ x ∷ (xs ++ ys)) (option_to_list new ++ (xs ++ ys)) (x ∷ put value_cmp key_of k new (xs ++ ys)) ≡ by_order c (option_to_list new ++ x ∷ xs) (option_to_list new ++ xs) (x ∷ put value_cmp key_of k new xs) ++ ys) [
        | Less ↦ λ e. sym (append_assoc (option_to_list new) (x ∷ xs) ys)
        | Equal ↦ λ e. sym (append_assoc (option_to_list new) xs ys)
        | Greater ↦ λ e. ap (λ zs. x ∷ zs) (put_stops k new xs ys e)
      ]
      in case (value_cmp k (key_of x)) h

  pub above_front : (k : Value) (xs ys : List (Value × V)) → AreAbove value_cmp key_of k (xs ++ ys) → AreAbove value_cmp key_of k xs
  above_front k [] ys a = tt
  above_front k (x ∷ xs) ys a = (a.0, above_front k xs ys a.1)

  above_item : (k : Value) (xs : List (Value × V)) (x : Value × V) (ys : List (Value × V)) → AreAbove value_cmp key_of k (xs ++ x ∷ ys) → value_cmp k (key_of x) ≡ Less
  above_item k [] x ys a = a.0
  above_item k (z ∷ xs) x ys a = above_item k xs x ys a.1

  pub order_front : (xs ys : List (Value × V)) → AreInOrder (xs ++ ys) → AreInOrder xs
  order_front [] ys s = tt
  order_front (x ∷ xs) ys s = (above_front (key_of x) xs ys s.0, order_front xs ys s.1)

  pub order_behind : (xs ys : List (Value × V)) → AreInOrder (xs ++ ys) → AreInOrder ys
  order_behind [] ys s = s
  order_behind (x ∷ xs) ys s = order_behind xs ys s.1

  pub order_take : (n : ℕ) (xs : List (Value × V)) → AreInOrder xs → AreInOrder (take n xs)
  order_take n xs s = order_front (take n xs) (drop n xs) (subst AreInOrder (sym (take-append-drop n xs)) s)

  pub order_drop : (n : ℕ) (xs : List (Value × V)) → AreInOrder xs → AreInOrder (drop n xs)
  order_drop n xs s = order_behind (take n xs) (drop n xs) (subst AreInOrder (sym (take-append-drop n xs)) s)

  -- a key above what stands behind an entry is above the entry
  passed_before : (k : Value) (x : Value × V) (zs : List (Value × V)) → AreAbove value_cmp key_of (key_of x) zs → 0 < length zs → reaches k zs ≡ false → value_cmp k (key_of x) ≡ Greater
  passed_before k x [] a n h = absurd (omega (arith, n))
  passed_before k x (z ∷ zs) a n h =
      let high : value_cmp k (key_of z) ≡ Greater = passed_first (value_cmp k (key_of z)) (reaches k zs) h in
      let low : value_cmp (key_of z) k ≡ Less = flipped value_cmp_total (key_of {V = V}) k (key_of z) high in
      value_cmp_total.antisymm k (key_of x) ∙ ap ordering_reverse (value_cmp_total.trans (key_of x) (key_of z) k a.0 low)

  -- a key above the last entries is above all
  pub passed : (k : Value) (xs ys : List (Value × V)) → AreInOrder (xs ++ ys) → 0 < length ys → reaches k ys ≡ false → reaches k (xs ++ ys) ≡ false
  passed k [] ys s n h = h
  passed k (x ∷ xs) ys s n h =
      let rest : reaches k (xs ++ ys) ≡ false = passed k xs ys s.1 n h in
      let high : value_cmp k (key_of x) ≡ Greater = passed_before k x (xs ++ ys) s.0 (omega (arith, n, length-append xs ys)) rest in
      ap (λ c. not (is_gt c) || reaches k (xs ++ ys)) high ∙ rest

  -- entries in order reach as far as the last of them
  pub last_reaches : (k : Value) (xs ys : List (Value × V)) → AreInOrder (xs ++ ys) → 0 < length ys → reaches k (xs ++ ys) ≡ reaches k ys
  last_reaches k xs ys s n =
      let case : (b : Bool) → reaches k ys ≡ b → reaches k (xs ++ ys) ≡ b = λ b. elim b as (λ b. reaches k ys ≡ b → reaches k (xs ++ ys) ≡ b) [
        | true ↦ λ e. reaches-append k xs ys ∙ ap (λ c. reaches k xs || c) e ∙ or-true (reaches k xs)
        | false ↦ λ e. passed k xs ys s n e
      ]
      in case (reaches k ys) refl

  pub put_above : (k : Value) (new : Option (Value × V)) (xs : List (Value × V)) → AreAbove value_cmp key_of k xs → put value_cmp key_of k new xs ≡ option_to_list new ++ xs
  put_above k new [] a = sym (append-nil (option_to_list new))
  put_above k new (x ∷ xs) a = ap (λ c. by_order c (option_to_list new ++ x ∷ xs) (option_to_list new ++ xs) (x ∷ put value_cmp key_of k new xs)) a.0

  -- what stands before the key's own entry is below it
  pub before_equal : (k : Value) (xs : List (Value × V)) (x : Value × V) (ys : List (Value × V)) → AreInOrder (xs ++ x ∷ ys) → value_cmp k (key_of x) ≡ Equal → reaches k xs ≡ false
  before_equal k [] x ys s e = refl
  before_equal k (z ∷ xs) x ys s e =
      let high : value_cmp k (key_of z) ≡ Greater = value_cmp_total.congr k (key_of x) (key_of z) e ∙ value_cmp_total.antisymm (key_of x) (key_of z) ∙ ap ordering_reverse (above_item (key_of z) xs x ys s.0) in
      ap (λ c. not (is_gt c) || reaches k xs) high ∙ before_equal k xs x ys s.1 e

  -- a page round an entry
  round : (page : List (Value × V)) (i : ℕ) (x : Value × V) → i < length page → x ≡ slice_index_or page i x → page ≡ take i page ++ x ∷ drop (i + 1) page
  round page i x h e = sym (take-append-drop i page) ∙ ap (λ es. take i page ++ es) (drop_more page i x h ∙ ap (λ z. z ∷ drop (i + 1) page) (sym e))

  pub at_entry : (k : Value) (page : List (Value × V)) (i : ℕ) (x : Value × V) → i < length page → x ≡ slice_index_or page i x → AreInOrder page → value_cmp k (key_of x) ≡ Equal → at value_cmp key_of k page ≡ Some x
  at_entry k page i x h e s c =
      let whole = round page i x h e in
      let before = before_equal k (take i page) x (drop (i + 1) page) (subst AreInOrder whole s) c in
      ap (at value_cmp key_of k) whole ∙ at_past k (take i page) (x ∷ drop (i + 1) page) before ∙ ap (λ o. by_order o None (Some x) (at value_cmp key_of k (drop (i + 1) page))) c

  pub put_entry : (k : Value) (page : List (Value × V)) (i : ℕ) (x : Value × V) → i < length page → x ≡ slice_index_or page i x → AreInOrder page → value_cmp k (key_of x) ≡ Equal
      → (new : Option (Value × V)) → put value_cmp key_of k new page ≡ take i page ++ (option_to_list new ++ drop (i + 1) page)
  put_entry k page i x h e s c new =
      let whole = round page i x h e in
      let rest = drop (i + 1) page in
      let before = before_equal k (take i page) x rest (subst AreInOrder whole s) c in
      ap (put value_cmp key_of k new) whole ∙ put_past k new (take i page) (x ∷ rest) before
      ∙ ap (λ o. take i page ++ by_order o (option_to_list new ++ x ∷ rest) (option_to_list new ++ rest) (x ∷ put value_cmp key_of k new rest)) c

  pub at_none : (k : Value) (page : List (Value × V)) (i : ℕ) → reaches k (take i page) ≡ false → AreAbove value_cmp key_of k (drop i page) → at value_cmp key_of k page ≡ None
  at_none k page i h a =
      ap (at value_cmp key_of k) (sym (take-append-drop i page)) ∙ at_past k (take i page) (drop i page) h ∙ at-above value_cmp_total key_of k (drop i page) a

  pub put_none : (k : Value) (page : List (Value × V)) (i : ℕ) → reaches k (take i page) ≡ false → AreAbove value_cmp key_of k (drop i page)
      → (new : Option (Value × V)) → put value_cmp key_of k new page ≡ take i page ++ (option_to_list new ++ drop i page)
  put_none k page i h a new =
      ap (put value_cmp key_of k new) (sym (take-append-drop i page)) ∙ put_past k new (take i page) (drop i page) h ∙ ap (λ es. take i page ++ es) (put_above k new (drop i page) a)

  -- an entry below the key, or above it, and all before it, or behind
  pub passed_entry : (k : Value) (page : List (Value × V)) (i : ℕ) (x : Value × V) → i < length page → x ≡ slice_index_or page i x → AreInOrder page → value_cmp k (key_of x) ≡ Greater → reaches k (take (i + 1) page) ≡ false
  passed_entry k page i x h e s c =
      let whole : take (i + 1) page ≡ take i page ++ x ∷ [] = take_more page i x h ∙ ap (λ z. take i page ++ z ∷ []) (sym e) in
      ap (reaches k) whole ∙ passed k (take i page) (x ∷ []) (subst AreInOrder whole (order_take (i + 1) page s)) (omega arith) (ap (λ o. not (is_gt o) || false) c)

  pub above_entry : (k : Value) (page : List (Value × V)) (i : ℕ) (x : Value × V) → i < length page → x ≡ slice_index_or page i x → AreInOrder page → value_cmp k (key_of x) ≡ Less → AreAbove value_cmp key_of k (drop i page)
  above_entry k page i x h e s c =
      let rest : drop i page ≡ x ∷ drop (i + 1) page = drop_more page i x h ∙ ap (λ z. z ∷ drop (i + 1) page) (sym e) in
      let order : AreInOrder (x ∷ drop (i + 1) page) = subst AreInOrder rest (order_drop i page s) in
      subst (AreAbove value_cmp key_of k) (sym rest) (c, AreAbove-below value_cmp_total key_of k (key_of x) (drop (i + 1) page) c order.0)

pub length-take_le : {X : Type 0} (n : ℕ) (xs : List X) → length (take n xs) ≤ n
length-take_le zero [] = omega arith
length-take_le zero (x ∷ xs) = omega arith
length-take_le (suc n) [] = omega arith
length-take_le (suc n) (x ∷ xs) = omega (arith, length-take_le n xs)

pub long_take : {X : Type 0} (n : ℕ) (xs : List X) → n ≤ length xs → n ≤ length (take n xs)
long_take zero xs h = omega arith
long_take (suc n) [] h = absurd (omega (arith, h))
long_take (suc n) (x ∷ xs) h = omega (arith, long_take n xs (omega (arith, h)))
