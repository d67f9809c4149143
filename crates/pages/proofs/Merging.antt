-- A map with differences beside it: its order, what stands at a key, one difference more, and what comes first.
use Rattle.std.proofs.lemmas.List.{append-nil, take_more}
use Rattle.std.proofs.lemmas.Option.{slice_get_within, unwrap_or-slice_get}
use Rattle.std.proofs.lemmas.Cmp.{tied_itself, alike_right}
use Rattle.std.proofs.Common.{◌≡◌, ◌+◌, ◌<◌, ◌≤◌, cond, List, [], ◌∷◌, ◌++◌, ◌-◌, take, drop, length, map, Option, Some, None, refl, sym, ◌∙◌, ap, arith, slice_get, slice_index_or}
use Rattle.std.specs.Prelude.{option_to_list, option_map, unwrap_or}
use Rattle.std.specs.Ordering.{eq_by_cmp, ordering_reverse}
use Rattle.std.specs.declared.cmp.Ordering.{Ordering}
use Rattle.std.specs.declared.cmp.Ordering.TheVariants.{Less, Equal, Greater}
use Rattle.value.specs.declared.values.Value.{Value}
use Rattle.value.specs.ValueOrder.{value_cmp}
use Rattle.value.specs.Ordered.{at, put, AreAbove}
use Rattle.value.proofs.ValueOrders.{value_cmp_total, value_exact}
use Rattle.value.proofs.OrderedLists.{AreAbove-below, AreAbove-put, AreAbove-tied, IsAscending-put, at-above, at-put, flipped}
use Rattle.pages.specs.Reach.{key_of, value_of, entry_of, AreInOrder}
use Rattle.pages.specs.Differences.{side_of, with_differences}
use Rattle.pages.proofs.Changes.{length_put}
use Rattle.pages.proofs.Orders.{take_all}
use Rattle.pages.proofs.Parting.{has_key}

reversed : (j k : Value) → value_cmp j k ≡ Less → value_cmp k j ≡ Greater
reversed j k e = value_cmp_total.antisymm k j ∙ ap ordering_reverse e

-- a list is its front and its last item
pub split_last : {X : Type 0} (xs : List X) (x : X) → slice_get xs (length xs - 1) ≡ Some x → xs ≡ take (length xs - 1) xs ++ x ∷ []
split_last xs x e =
    let i = length xs - 1 in
    let within : i < length xs = slice_get_within xs i x e in
    sym (take_all (i + 1) xs (omega (arith, within))) ∙ take_more xs i x within ∙ ap (λ y. take i xs ++ y ∷ []) (sym (unwrap_or-slice_get xs i x) ∙ ap (λ o. unwrap_or o x) e)

-- what is behind the first item
rest_is : {X : Type 0} (x : X) (xs : List X) → take (length (x ∷ xs) - 1) (drop 1 (x ∷ xs)) ≡ xs
rest_is x xs = take_all (length (x ∷ xs) - 1) xs (omega arith)

module _ {V : Type 0} where
  -- the entries with one change
  abbrev changed : Value → Option V → List (Value × V) → List (Value × V)
  changed k o xs = put value_cmp key_of k (entry_of k o) xs

  pub above_with : (k : Value) (ds : List (Value × Option V)) (m : List (Value × V)) → AreAbove value_cmp key_of k ds → AreAbove value_cmp key_of k m → AreAbove value_cmp key_of k (with_differences ds m)
  above_with k [] m a b = b
  above_with k (d ∷ ds) m a b =
      AreAbove-put value_cmp_total key_of k (key_of d) (entry_of (key_of d) (value_of d)) (with_differences ds m) (has_key (key_of d) (value_of d)) a.0 (above_with k ds m a.1 b)

  pub order_with : (ds : List (Value × Option V)) (m : List (Value × V)) → AreInOrder m → AreInOrder (with_differences ds m)
  order_with [] m s = s
  order_with (d ∷ ds) m s =
      IsAscending-put value_cmp_total key_of (key_of d) (entry_of (key_of d) (value_of d)) (with_differences ds m) (has_key (key_of d) (value_of d)) (order_with ds m s)

  pub short_with : (ds : List (Value × Option V)) (m : List (Value × V)) → length (with_differences ds m) ≤ length m + length ds
  short_with [] m = omega arith
  short_with (d ∷ ds) m = omega (arith, length_put (key_of d) (entry_of (key_of d) (value_of d)) (with_differences ds m), short_with ds m)

  -- the last difference is the first that the map had
  pub last_with : (ds : List (Value × Option V)) (d : Value × Option V) (m : List (Value × V)) → with_differences (ds ++ d ∷ []) m ≡ with_differences ds (changed (key_of d) (value_of d) m)
  last_with [] d m = refl
  last_with (c ∷ ds) d m = ap (changed (key_of c) (value_of c)) (last_with ds d m)

  -- what a difference says, if there is one, and else what stands in the map
  abbrev said : Option (Value × Option V) → Option (Value × V) → Option (Value × V)
  said None x = x
  said (Some d) x = entry_of (key_of d) (value_of d)

  at_case : (k : Value) (d : Value × Option V) (ds : List (Value × Option V)) (m : List (Value × V)) → AreInOrder (d ∷ ds)
      → at value_cmp key_of k (with_differences ds m) ≡ said (at value_cmp key_of k ds) (at value_cmp key_of k m) → (c : Ordering) → value_cmp k (key_of d) ≡ c
      → cond (eq_by_cmp value_cmp k (key_of d)) (entry_of (key_of d) (value_of d)) (at value_cmp key_of k (with_differences ds m))
      ≡ said (at value_cmp key_of k (d ∷ ds)) (at value_cmp key_of k m)
  at_case k d ds m s more Less c =
      rw c (more ∙ ap (λ o. said o (at value_cmp key_of k m)) (at-above value_cmp_total key_of k ds (AreAbove-below value_cmp_total key_of k (key_of d) ds c s.0)))
  at_case k d ds m s more Equal c = rw c refl
  at_case k d ds m s more Greater c = rw c more

  at_with : (k : Value) (ds : List (Value × Option V)) (m : List (Value × V)) → AreInOrder ds → AreInOrder m
      → at value_cmp key_of k (with_differences ds m) ≡ said (at value_cmp key_of k ds) (at value_cmp key_of k m)
  at_with k [] m s t = refl
  at_with k (d ∷ ds) m s t =
      at-put value_cmp_total key_of (key_of d) (entry_of (key_of d) (value_of d)) (with_differences ds m) (has_key (key_of d) (value_of d)) (order_with ds m t) k
      ∙ at_case k d ds m s (at_with k ds m s.1 t) (value_cmp k (key_of d)) refl

  value_said : (k : Value) (o : Option V) → option_map value_of (entry_of k o) ≡ o
  value_said k None = refl
  value_said k (Some v) = refl

  -- a change below all
  put_below : (k : Value) (new : Option (Value × V)) (xs : List (Value × V)) → AreAbove value_cmp key_of k xs → put value_cmp key_of k new xs ≡ option_to_list new ++ xs
  put_below k new [] a = sym (append-nil (option_to_list new))
  put_below k new (x ∷ xs) a = rw a.0 refl

  -- of two changes at a key the later one counts
  again_at : (k : Value) (p o : Option V) (x : Value × V) (xs : List (Value × V)) → AreInOrder (x ∷ xs) → changed k o (changed k p xs) ≡ changed k o xs
      → (c : Ordering) → value_cmp k (key_of x) ≡ c → changed k o (changed k p (x ∷ xs)) ≡ changed k o (x ∷ xs)
  again_at k None o x xs s more Less c = rw (c, c) refl
  again_at k (Some v) o x xs s more Less c = rw (c, tied_itself value_cmp_total k) refl
  again_at k None o x xs s more Equal c = rw c (put_below k (entry_of k o) xs (AreAbove-tied value_cmp_total key_of (key_of x) k xs c s.0))
  again_at k (Some v) o x xs s more Equal c = rw (c, tied_itself value_cmp_total k) refl
  again_at k p o x xs s more Greater c = rw (c, c) (ap (λ ys. x ∷ ys) more)

  put_again : (k : Value) (p o : Option V) (xs : List (Value × V)) → AreInOrder xs → changed k o (changed k p xs) ≡ changed k o xs
  put_again k None o [] s = refl
  put_again k (Some v) o [] s = rw (tied_itself value_cmp_total k) (append-nil (option_to_list (entry_of k o)))
  put_again k p o (x ∷ xs) s = again_at k p o x xs s (put_again k p o xs s.1) (value_cmp k (key_of x)) refl

  -- changes at two keys may change places
  low_at : (j k : Value) (p o : Option V) (x : Value × V) (xs : List (Value × V)) → value_cmp j k ≡ Less → value_cmp k j ≡ Greater → AreInOrder (x ∷ xs) → value_cmp j (key_of x) ≡ Less
      → (d : Ordering) → value_cmp k (key_of x) ≡ d → changed j p (changed k o (x ∷ xs)) ≡ changed k o (changed j p (x ∷ xs))
  low_at j k None None x xs e f s c Less d = rw (d, c, d) refl
  low_at j k (Some v) None x xs e f s c Less d = rw (d, c, f, d) refl
  low_at j k None (Some w) x xs e f s c Less d = rw (d, c, e, d) refl
  low_at j k (Some v) (Some w) x xs e f s c Less d = rw (d, c, e, f, d) refl
  low_at j k None None x xs e f s c Equal d = rw (d, c, d) (put_below j None xs (AreAbove-below value_cmp_total key_of j (key_of x) xs c s.0))
  low_at j k (Some v) None x xs e f s c Equal d = rw (d, c, f, d) (put_below j (Some (j, v)) xs (AreAbove-below value_cmp_total key_of j (key_of x) xs c s.0))
  low_at j k None (Some w) x xs e f s c Equal d = rw (d, c, e, d) refl
  low_at j k (Some v) (Some w) x xs e f s c Equal d = rw (d, c, e, f, d) refl
  low_at j k None o x xs e f s c Greater d = rw (d, c, d) refl
  low_at j k (Some v) o x xs e f s c Greater d = rw (d, c, f, d) refl

  swapped_at : (j k : Value) (p o : Option V) (x : Value × V) (xs : List (Value × V)) → value_cmp j k ≡ Less → value_cmp k j ≡ Greater → AreInOrder (x ∷ xs)
      → changed j p (changed k o xs) ≡ changed k o (changed j p xs)
      → (c : Ordering) → value_cmp j (key_of x) ≡ c → changed j p (changed k o (x ∷ xs)) ≡ changed k o (changed j p (x ∷ xs))
  swapped_at j k p o x xs e f s more Less c = low_at j k p o x xs e f s c (value_cmp k (key_of x)) refl
  swapped_at j k None o x xs e f s more Equal c = rw (sym (alike_right value_cmp_total j (key_of x) k c) ∙ f, c) refl
  swapped_at j k (Some v) o x xs e f s more Equal c = rw (sym (alike_right value_cmp_total j (key_of x) k c) ∙ f, c, f) refl
  swapped_at j k p o x xs e f s more Greater c =
      let d : value_cmp k (key_of x) ≡ Greater = reversed (key_of x) k (value_cmp_total.trans (key_of x) j k (flipped value_cmp_total (λ (i : Value). i) j (key_of x) c) e) in
      rw (d, c, d) (ap (λ ys. x ∷ ys) more)

  put_swapped : (j k : Value) (p o : Option V) (xs : List (Value × V)) → value_cmp j k ≡ Less → AreInOrder xs → changed j p (changed k o xs) ≡ changed k o (changed j p xs)
  put_swapped j k None None [] e s = refl
  put_swapped j k (Some v) None [] e s = rw (reversed j k e) refl
  put_swapped j k None (Some w) [] e s = rw e refl
  put_swapped j k (Some v) (Some w) [] e s = rw (e, reversed j k e) refl
  put_swapped j k p o (x ∷ xs) e s = swapped_at j k p o x xs e (reversed j k e) s (put_swapped j k p o xs e s.1) (value_cmp j (key_of x)) refl

  -- one difference more
  with_at : (k : Value) (o : Option V) (d : Value × Option V) (ds : List (Value × Option V)) (m : List (Value × V)) → AreInOrder (d ∷ ds) → AreInOrder m
      → with_differences (put value_cmp key_of k (Some (k, o)) ds) m ≡ changed k o (with_differences ds m)
      → (c : Ordering) → value_cmp k (key_of d) ≡ c → with_differences (put value_cmp key_of k (Some (k, o)) (d ∷ ds)) m ≡ changed k o (with_differences (d ∷ ds) m)
  with_at k o d ds m s t more Less c = rw c refl
  with_at k o d ds m s t more Equal c =
      rw c (sym (put_again k (value_of d) o (with_differences ds m) (order_with ds m t)) ∙ ap (λ (i : Value). changed k o (changed i (value_of d) (with_differences ds m))) (value_exact k (key_of d) c))
  with_at k o d ds m s t more Greater c =
      rw c (
      ap (changed (key_of d) (value_of d)) more
      ∙ put_swapped (key_of d) k (value_of d) o (with_differences ds m) (flipped value_cmp_total (λ (i : Value). i) k (key_of d) c) (order_with ds m t)
      )

  pub put_with : (k : Value) (o : Option V) (ds : List (Value × Option V)) (m : List (Value × V)) → AreInOrder ds → AreInOrder m
      → with_differences (put value_cmp key_of k (Some (k, o)) ds) m ≡ changed k o (with_differences ds m)
  put_with k o [] m s t = refl
  put_with k o (d ∷ ds) m s t = with_at k o d ds m s t (put_with k o ds m s.1 t) (value_cmp k (key_of d)) refl

  -- an entry below all differences stays first
  pub first_of_main : (x : Value × V) (ds : List (Value × Option V)) (m : List (Value × V)) → AreAbove value_cmp key_of (key_of x) ds → with_differences ds (x ∷ m) ≡ x ∷ with_differences ds m
  first_of_main x [] m a = refl
  first_of_main x (d ∷ ds) m a = ap (changed (key_of d) (value_of d)) (first_of_main x ds m a.1) ∙ rw (reversed (key_of x) (key_of d) a.0) refl

  -- a difference below all entries comes first
  pub first_of_differences : (d : Value × Option V) (ds : List (Value × Option V)) (m : List (Value × V)) → AreInOrder (d ∷ ds) → AreAbove value_cmp key_of (key_of d) m
      → with_differences (d ∷ ds) m ≡ option_to_list (entry_of (key_of d) (value_of d)) ++ with_differences ds m
  first_of_differences d ds m s a = put_below (key_of d) (entry_of (key_of d) (value_of d)) (with_differences ds m) (above_with (key_of d) ds m s.0 a)

  -- and one at the key of the first entry takes its place
  pub first_of_both : (d : Value × Option V) (x : Value × V) (ds : List (Value × Option V)) (m : List (Value × V)) → AreInOrder (d ∷ ds) → value_cmp (key_of d) (key_of x) ≡ Equal
      → with_differences (d ∷ ds) (x ∷ m) ≡ option_to_list (entry_of (key_of d) (value_of d)) ++ with_differences ds m
  first_of_both d x ds m s e =
      ap (changed (key_of d) (value_of d)) (first_of_main x ds m (AreAbove-tied value_cmp_total key_of (key_of d) (key_of x) ds (value_cmp_total.antisymm (key_of x) (key_of d) ∙ ap ordering_reverse e) s.0)) ∙ rw e refl

  -- what stands at a key where there is a difference, and where there is none
  pub difference_says : (k : Value) (d : Value × Option V) (ds : List (Value × Option V)) (m : List (Value × V)) → AreInOrder ds → AreInOrder m → at value_cmp key_of k ds ≡ Some d
      → option_map value_of (at value_cmp key_of k (with_differences ds m)) ≡ value_of d
  difference_says k d ds m s t e = ap (option_map value_of) (at_with k ds m s t ∙ ap (λ o. said o (at value_cmp key_of k m)) e) ∙ value_said (key_of d) (value_of d)

  pub main_says : (k : Value) (ds : List (Value × Option V)) (m : List (Value × V)) → AreInOrder ds → AreInOrder m → at value_cmp key_of k ds ≡ None
      → at value_cmp key_of k (with_differences ds m) ≡ at value_cmp key_of k m
  main_says k ds m s t e = at_with k ds m s t ∙ ap (λ o. said o (at value_cmp key_of k m)) e

  above_front : (k : Value) (xs ys : List (Value × V)) → AreAbove value_cmp key_of k (xs ++ ys) → AreAbove value_cmp key_of k xs
  above_front k [] ys a = tt
  above_front k (x ∷ xs) ys a = (a.0, above_front k xs ys a.1)

  -- the front of entries in order is in order
  pub order_front : (xs ys : List (Value × V)) → AreInOrder (xs ++ ys) → AreInOrder xs
  order_front [] ys s = tt
  order_front (x ∷ xs) ys s = (above_front (key_of x) xs ys s.0, order_front xs ys s.1)

  values_behind : (k : Value) (o : Option V) (xs : List (Value × V)) → map value_of (option_to_list (entry_of k o) ++ xs) ≡ option_to_list o ++ map value_of xs
  values_behind k None xs = refl
  values_behind k (Some v) xs = refl

  -- what comes first, by where the key of the first difference stands
  pub main_first : (d₀ : Value × Option V) (ds : List (Value × Option V)) (m : List (Value × V)) → 0 < length ds → AreInOrder ds → side_of (key_of (slice_index_or ds 0 d₀)) m ≡ Greater
      → map value_of (with_differences ds m) ≡ option_to_list (option_map value_of (slice_get m 0)) ++ map value_of (with_differences ds (drop 1 m))
  main_first d₀ [] m h s e = absurd (omega (arith, h))
  main_first d₀ (d ∷ ds) [] h s e = cc
  main_first d₀ (d ∷ ds) (x ∷ m) h s e =
      let below : value_cmp (key_of x) (key_of d) ≡ Less = flipped value_cmp_total (λ (i : Value). i) (key_of d) (key_of x) e in
      ap (map value_of) (first_of_main x (d ∷ ds) m (below, AreAbove-below value_cmp_total key_of (key_of x) (key_of d) ds below s.0))

  pub both_first : (d₀ : Value × Option V) (ds : List (Value × Option V)) (m : List (Value × V)) → 0 < length ds → AreInOrder ds → side_of (key_of (slice_index_or ds 0 d₀)) m ≡ Equal
      → map value_of (with_differences ds m) ≡ option_to_list (value_of (slice_index_or ds 0 d₀)) ++ map value_of (with_differences (take (length ds - 1) (drop 1 ds)) (drop 1 m))
  both_first d₀ [] m h s e = absurd (omega (arith, h))
  both_first d₀ (d ∷ ds) [] h s e = cc
  both_first d₀ (d ∷ ds) (x ∷ m) h s e =
      ap (map value_of) (first_of_both d x ds m s e) ∙ values_behind (key_of d) (value_of d) (with_differences ds m)
      ∙ ap (λ es. option_to_list (value_of d) ++ map value_of (with_differences es m)) (sym (rest_is d ds))

  pub difference_first : (d₀ : Value × Option V) (ds : List (Value × Option V)) (m : List (Value × V)) → 0 < length ds → AreInOrder ds → AreInOrder m
      → side_of (key_of (slice_index_or ds 0 d₀)) m ≡ Less
      → map value_of (with_differences ds m) ≡ option_to_list (value_of (slice_index_or ds 0 d₀)) ++ map value_of (with_differences (take (length ds - 1) (drop 1 ds)) m)
  difference_first d₀ [] m h s t e = absurd (omega (arith, h))
  difference_first d₀ (d ∷ ds) m h s t e =
      ap (map value_of) (first_of_differences d ds m s (above m t e)) ∙ values_behind (key_of d) (value_of d) (with_differences ds m)
      ∙ ap (λ es. option_to_list (value_of d) ++ map value_of (with_differences es m)) (sym (rest_is d ds))
    where
      above : (m : List (Value × V)) → AreInOrder m → side_of (key_of d) m ≡ Less → AreAbove value_cmp key_of (key_of d) m
      above [] t e = tt
      above (x ∷ m) t e = (e, AreAbove-below value_cmp_total key_of (key_of d) (key_of x) m e t.0)

  -- the first of all, where there are no differences
  pub first_alone : (m : List (Value × V)) → map value_of m ≡ option_to_list (option_map value_of (slice_get m 0)) ++ map value_of (drop 1 m)
  first_alone [] = refl
  first_alone (x ∷ m) = refl
