-- Which node a key belongs to, and what a change there leaves.
use Rattle.std.proofs.lemmas.List.{append-nil, length-append, length-drop}
use Rattle.std.proofs.Common.{◌≡◌, ℕ, zero, suc, ◌+◌, ◌<◌, ◌≤◌, Bool, false, not, ◌||◌, List, [], ◌∷◌, ◌++◌, drop, take, length, slice_index_or, slice_get, slice_set, option_map, Option, Some, None, refl, sym, ◌∙◌, ap, arith, append_assoc, set, subst}
use Rattle.std.specs.Prelude.{option_to_list}
use Rattle.std.specs.Ordering.{is_lt, is_gt, ordering_reverse}
use Rattle.std.specs.declared.cmp.Ordering.{Ordering}
use Rattle.std.specs.declared.cmp.Ordering.TheVariants.{Less, Equal, Greater}
use Rattle.std.proofs.lemmas.Cmp.{alike_right}
use Rattle.value.specs.declared.values.Value.{Value}
use Rattle.value.specs.ValueOrder.{value_cmp}
use Rattle.value.specs.Ordered.{by_order, at, put, AreAbove, HasKey}
use Rattle.value.proofs.ValueOrders.{value_cmp_total}
use Rattle.value.proofs.OrderedLists.{at-above, IsAscending-put}
use Rattle.pages.specs.Reach.{key_of, value_of, reaches, entry_of, AreInOrder}
use Rattle.pages.specs.Levels.{Tree, entries_of, entries_at, HaveHeight}
use Rattle.pages.specs.Parts.{Leads, AreFrom, Parted}
use Rattle.pages.specs.Taken.{IsTakenFrom}
use Rattle.pages.proofs.Orders.{passed_first, at_past, put_past, put_above, length-take_le}

-- below a separator that an entry isn't below
less_from : (k s x : Value) → value_cmp k s ≡ Less → is_gt (value_cmp s x) ≡ false → value_cmp k x ≡ Less
less_from k s x h g =
    let case : (c : Ordering) → value_cmp s x ≡ c → is_gt c ≡ false → value_cmp k x ≡ Less = λ c. elim c as (λ c. value_cmp s x ≡ c → is_gt c ≡ false → value_cmp k x ≡ Less) [
      | Less ↦ λ e n. value_cmp_total.trans k s x h e
      | Equal ↦ λ e n. sym (alike_right value_cmp_total s x k e) ∙ h
      | Greater ↦ λ e n. cc
    ]
    in case (value_cmp s x) refl g

-- at a separator or above it, and so above what the separator is above
pub greater_from : (k s x : Value) → is_lt (value_cmp k s) ≡ false → value_cmp s x ≡ Greater → value_cmp k x ≡ Greater
greater_from k s x h g =
    let case : (c : Ordering) → value_cmp k s ≡ c → is_lt c ≡ false → value_cmp k x ≡ Greater = λ c. elim c as (λ c. value_cmp k s ≡ c → is_lt c ≡ false → value_cmp k x ≡ Greater) [
      | Less ↦ λ e n. cc
      | Equal ↦ λ e n. value_cmp_total.congr k s x e ∙ g
      | Greater ↦ λ e n. value_cmp_total.antisymm k x ∙ ap ordering_reverse (value_cmp_total.trans x s k (back s x g) (back k s e))
    ]
    in case (value_cmp k s) refl h
  where
    back : (a b : Value) → value_cmp a b ≡ Greater → value_cmp b a ≡ Less
    back a b e = value_cmp_total.antisymm b a ∙ ap ordering_reverse e

pub passed_both : (c : Ordering) (b : Bool) → not (is_gt c) || b ≡ false → b ≡ false
passed_both Less b h = cc
passed_both Equal b h = cc
passed_both Greater b h = h

not_gt_back : (k s : Value) → is_lt (value_cmp k s) ≡ false → is_gt (value_cmp s k) ≡ false
not_gt_back k s h =
    let case : (c : Ordering) → is_lt c ≡ false → is_gt (ordering_reverse c) ≡ false = λ c. elim c as (λ c. is_lt c ≡ false → is_gt (ordering_reverse c) ≡ false) [
      | Less ↦ λ n. cc
      | Equal ↦ λ n. refl
      | Greater ↦ λ n. refl
    ]
    in ap is_gt (value_cmp_total.antisymm s k) ∙ case (value_cmp k s) h

above_key : (s k : Value) → value_cmp k s ≡ Less → value_cmp s k ≡ Greater
above_key s k h = value_cmp_total.antisymm s k ∙ ap ordering_reverse h

module _ {V : Type 0} where
  pub from_above : (k s : Value) (xs : List (Value × V)) → value_cmp k s ≡ Less → AreFrom s xs → AreAbove value_cmp key_of k xs
  from_above k s [] h a = tt
  from_above k s (x ∷ xs) h a = (less_from k s (key_of x) h a.0, from_above k s xs h a.1)

  pub not_reached : (k s : Value) (xs : List (Value × V)) → is_lt (value_cmp k s) ≡ false → reaches s xs ≡ false → reaches k xs ≡ false
  not_reached k s [] h r = refl
  not_reached k s (x ∷ xs) h r =
      let high : value_cmp k (key_of x) ≡ Greater = greater_from k s (key_of x) h (passed_first (value_cmp s (key_of x)) (reaches s xs) r) in
      ap (λ c. not (is_gt c) || reaches k xs) high ∙ not_reached k s xs h (passed_both (value_cmp s (key_of x)) (reaches s xs) r)

  put_within : (k : Value) (new : Option (Value × V)) (xs ys : List (Value × V)) → AreAbove value_cmp key_of k ys → put value_cmp key_of k new (xs ++ ys) ≡ put value_cmp key_of k new xs ++ ys
  put_within k new [] ys a = put_above k new ys a
  put_within k new (x ∷ xs) ys a =
      elim (value_cmp k (key_of x)) as (λ c. by_order c (option_to_list new ++ x ∷ (xs ++ ys)) (option_to_list new ++ (xs ++ ys)) (x ∷ put value_cmp key_of k new (xs ++ ys)) ≡ by_order c (option_to_list new ++ x ∷ xs) (option_to_list new ++ xs) (x ∷ put value_cmp key_of k new xs) ++ ys) [
        | Less ↦ sym (append_assoc (option_to_list new) (x ∷ xs) ys)
        | Equal ↦ sym (append_assoc (option_to_list new) xs ys)
        | Greater ↦ ap (λ zs. x ∷ zs) (put_within k new xs ys a)
      ]

  at_within : (k : Value) (xs ys : List (Value × V)) → AreAbove value_cmp key_of k ys → at value_cmp key_of k (xs ++ ys) ≡ at value_cmp key_of k xs
  at_within k [] ys a = at-above value_cmp_total key_of k ys a
  at_within k (x ∷ xs) ys a =
      elim (value_cmp k (key_of x)) as (λ c. by_order c None (Some x) (at value_cmp key_of k (xs ++ ys)) ≡ by_order c None (Some x) (at value_cmp key_of k xs)) [
        | Less ↦ refl
        | Equal ↦ refl
        | Greater ↦ at_within k xs ys a
      ]

  -- the key's own entry
  pub has_key : (k : Value) (v : Option V) → HasKey value_cmp key_of k (entry_of k v)
  has_key k None = tt
  has_key k (Some v) = refl

  -- a change above a key leaves all above it
  AreFrom-put : (s k : Value) (new : Option (Value × V)) (xs : List (Value × V)) → HasKey value_cmp key_of k new → is_lt (value_cmp k s) ≡ false → AreFrom s xs → AreFrom s (put value_cmp key_of k new xs)
  AreFrom-put s k None [] n h a = tt
  AreFrom-put s k (Some w) [] n h a = (ap (λ j. is_gt (value_cmp s j)) n ∙ not_gt_back k s h, tt)
  AreFrom-put s k None (x ∷ xs) n h a =
      elim (value_cmp k (key_of x)) as (λ c. AreFrom s (by_order c (x ∷ xs) xs (x ∷ put value_cmp key_of k None xs))) [
        | Less ↦ a
        | Equal ↦ a.1
        | Greater ↦ (a.0, AreFrom-put s k None xs n h a.1)
      ]
  AreFrom-put s k (Some w) (x ∷ xs) n h a =
      let low : is_gt (value_cmp s (key_of w)) ≡ false = ap (λ j. is_gt (value_cmp s j)) n ∙ not_gt_back k s h in
      elim (value_cmp k (key_of x)) as (λ c. AreFrom s (by_order c (w ∷ x ∷ xs) (w ∷ xs) (x ∷ put value_cmp key_of k (Some w) xs))) [
        | Less ↦ (low, a)
        | Equal ↦ (low, a.1)
        | Greater ↦ (a.0, AreFrom-put s k (Some w) xs n h a.1)
      ]

  -- a change below a key leaves all below it
  reaches-put : (s k : Value) (new : Option (Value × V)) (xs : List (Value × V)) → HasKey value_cmp key_of k new → value_cmp k s ≡ Less → reaches s xs ≡ false → reaches s (put value_cmp key_of k new xs) ≡ false
  reaches-put s k None [] n h r = refl
  reaches-put s k (Some w) [] n h r = ap (λ j. not (is_gt (value_cmp s j)) || false) n ∙ ap (λ c. not (is_gt c) || false) (above_key s k h)
  reaches-put s k None (x ∷ xs) n h r =
      elim (value_cmp k (key_of x)) as (λ c. reaches s (by_order c (x ∷ xs) xs (x ∷ put value_cmp key_of k None xs)) ≡ false) [
        | Less ↦ r
        | Equal ↦ passed_both (value_cmp s (key_of x)) (reaches s xs) r
        | Greater ↦ ap (λ c. not (is_gt c) || reaches s (put value_cmp key_of k None xs)) (passed_first (value_cmp s (key_of x)) (reaches s xs) r)
            ∙ reaches-put s k None xs n h (passed_both (value_cmp s (key_of x)) (reaches s xs) r)
      ]
  reaches-put s k (Some w) (x ∷ xs) n h r =
      let high : (b : Bool) → not (is_gt (value_cmp s (key_of w))) || b ≡ b = λ b. ap (λ j. not (is_gt (value_cmp s j)) || b) n ∙ ap (λ c. not (is_gt c) || b) (above_key s k h) in
      elim (value_cmp k (key_of x)) as (λ c. reaches s (by_order c (w ∷ x ∷ xs) (w ∷ xs) (x ∷ put value_cmp key_of k (Some w) xs)) ≡ false) [
        | Less ↦ high (reaches s (x ∷ xs)) ∙ r
        | Equal ↦ high (reaches s xs) ∙ passed_both (value_cmp s (key_of x)) (reaches s xs) r
        | Greater ↦ ap (λ c. not (is_gt c) || reaches s (put value_cmp key_of k (Some w) xs)) (passed_first (value_cmp s (key_of x)) (reaches s xs) r)
            ∙ reaches-put s k (Some w) xs n h (passed_both (value_cmp s (key_of x)) (reaches s xs) r)
      ]

  -- the place that a key leads to is a node's
  pub led_within : (k : Value) (seps : List Value) (r : ℕ) (ts : List (Tree V)) → Leads k seps r → Parted seps ts → r < length ts
  led_within k [] r [] l p = absurd p
  led_within k [] r (t ∷ []) l p = omega (arith, l)
  led_within k [] r (t ∷ u ∷ ts) l p = absurd p
  led_within k (s ∷ seps) r [] l p = absurd p
  led_within k (s ∷ seps) zero (t ∷ ts) l p = omega arith
  led_within k (s ∷ seps) (suc r) (t ∷ ts) l p = omega (arith, led_within k seps r ts l.1 p.1.1)

  -- what stands at the key stands there
  pub at_led : (k : Value) (seps : List Value) (r : ℕ) (ts : List (Tree V)) → Leads k seps r → Parted seps ts → at value_cmp key_of k (entries_of ts) ≡ at value_cmp key_of k (entries_at ts r)
  at_led k [] r [] l p = absurd p
  at_led k [] zero (t ∷ []) l p = ap (at value_cmp key_of k) (append-nil t.1)
  at_led k [] (suc r) (t ∷ []) l p = absurd (omega (arith, l))
  at_led k [] r (t ∷ u ∷ ts) l p = absurd p
  at_led k (s ∷ seps) r [] l p = absurd p
  at_led k (s ∷ seps) zero (t ∷ ts) l p = at_within k t.1 (entries_of ts) (from_above k s (entries_of ts) l p.1.0)
  at_led k (s ∷ seps) (suc r) (t ∷ ts) l p = at_past k t.1 (entries_of ts) (not_reached k s t.1 l.0 p.0) ∙ at_led k seps r ts l.1 p.1.1

  -- a change of the node that the key belongs to is a change of all
  pub put_led : (k : Value) (new : Option (Value × V)) (seps : List Value) (r : ℕ) (ts : List (Tree V)) (t : Tree V) → Leads k seps r → Parted seps ts → t.1 ≡ put value_cmp key_of k new (entries_at ts r)
      → entries_of (set ts r t) ≡ put value_cmp key_of k new (entries_of ts)
  put_led k new [] r [] t l p e = absurd p
  put_led k new [] zero (u ∷ []) t l p e = append-nil t.1 ∙ e ∙ ap (put value_cmp key_of k new) (sym (append-nil u.1))
  put_led k new [] (suc r) (u ∷ []) t l p e = absurd (omega (arith, l))
  put_led k new [] r (u ∷ v ∷ ts) t l p e = absurd p
  put_led k new (s ∷ seps) r [] t l p e = absurd p
  put_led k new (s ∷ seps) zero (u ∷ ts) t l p e = ap (λ es. es ++ entries_of ts) e ∙ sym (put_within k new u.1 (entries_of ts) (from_above k s (entries_of ts) l p.1.0))
  put_led k new (s ∷ seps) (suc r) (u ∷ ts) t l p e = ap (λ es. u.1 ++ es) (put_led k new seps r ts t l.1 p.1.1 e) ∙ sym (put_past k new u.1 (entries_of ts) (not_reached k s u.1 l.0 p.0))

  -- and leaves the nodes parted
  pub parted_led : (k : Value) (new : Option (Value × V)) (seps : List Value) (r : ℕ) (ts : List (Tree V)) (t : Tree V) → HasKey value_cmp key_of k new → Leads k seps r → Parted seps ts
      → t.1 ≡ put value_cmp key_of k new (entries_at ts r) → Parted seps (set ts r t)
  parted_led k new [] r [] t n l p e = absurd p
  parted_led k new [] zero (u ∷ []) t n l p e = tt
  parted_led k new [] (suc r) (u ∷ []) t n l p e = absurd (omega (arith, l))
  parted_led k new [] r (u ∷ v ∷ ts) t n l p e = absurd p
  parted_led k new (s ∷ seps) r [] t n l p e = absurd p
  parted_led k new (s ∷ seps) zero (u ∷ ts) t n l p e = (ap (reaches s) e ∙ reaches-put s k new u.1 n l p.0, p.1)
  parted_led k new (s ∷ seps) (suc r) (u ∷ ts) t n l p e =
      (p.0, (subst (AreFrom s) (sym (put_led k new seps r ts t l.1 p.1.1 e)) (AreFrom-put s k new (entries_of ts) n l.0 p.1.0), parted_led k new seps r ts t n l.1 p.1.1 e))

  -- another node with the same entries
  pub entries_same : (r : ℕ) (ts : List (Tree V)) (t : Tree V) → t.1 ≡ entries_at ts r → entries_of (set ts r t) ≡ entries_of ts
  entries_same zero [] t e = refl
  entries_same (suc r) [] t e = refl
  entries_same zero (u ∷ ts) t e = ap (λ es. es ++ entries_of ts) e
  entries_same (suc r) (u ∷ ts) t e = ap (λ es. u.1 ++ es) (entries_same r ts t e)

  pub parted_same : (seps : List Value) (r : ℕ) (ts : List (Tree V)) (t : Tree V) → t.1 ≡ entries_at ts r → Parted seps ts → Parted seps (set ts r t)
  parted_same [] r [] t e p = absurd p
  parted_same [] zero (u ∷ []) t e p = tt
  parted_same [] (suc r) (u ∷ []) t e p = tt
  parted_same [] r (u ∷ v ∷ ts) t e p = absurd p
  parted_same (s ∷ seps) r [] t e p = absurd p
  parted_same (s ∷ seps) zero (u ∷ ts) t e p = (ap (reaches s) e ∙ p.0, p.1)
  parted_same (s ∷ seps) (suc r) (u ∷ ts) t e p = (p.0, (subst (AreFrom s) (sym (entries_same r ts t e)) p.1.0, parted_same seps r ts t e p.1.1))

  pub height_set : (h r : ℕ) (ts : List (Tree V)) (t : Tree V) → t.0.0 ≡ h → HaveHeight h ts → HaveHeight h (set ts r t)
  height_set h zero [] t e l = tt
  height_set h (suc r) [] t e l = tt
  height_set h zero (u ∷ ts) t e l = (e, l.1)
  height_set h (suc r) (u ∷ ts) t e l = (l.0, height_set h r ts t e l.1)

  pub count_set : (r : ℕ) (ts : List (Tree V)) (t : Tree V) → r < length ts → length (entries_of (set ts r t)) + length (entries_at ts r) ≡ length (entries_of ts) + length t.1
  count_set r [] t h = absurd (omega (arith, h))
  count_set zero (u ∷ ts) t h = omega (arith, length-append t.1 (entries_of ts), length-append u.1 (entries_of ts))
  count_set (suc r) (u ∷ ts) t h = omega (arith, length-append u.1 (entries_of (set ts r t)), length-append u.1 (entries_of ts), count_set r ts t (omega (arith, h)))

-- an entry whose value is set
pub set_entry : {V : Type 0} (page : List (Value × V)) (i : ℕ) (x : Value × V) (k : Value) (v : V) → x ≡ slice_index_or page i x → option_map key_of (slice_get page i) ≡ Some k
    → slice_set page i (x.0, v) ≡ take i page ++ (k, v) ∷ drop (i + 1) page
set_entry [] i x k v e s = cc
set_entry (y ∷ page) zero x k v e s = ap (λ (w : Value). (w, v) ∷ page) (ap (λ (z : Value × _). z.0) e ∙ ap (picked x.0) s)
  where
    picked : Value → Option Value → Value
    picked d None = d
    picked d (Some w) = w
set_entry (y ∷ page) (suc i) x k v e s =
    let one : i + 1 ≡ suc i = omega arith in
    ap (λ es. y ∷ es) (set_entry page i x k v e s) ∙ ap (λ (n : ℕ). y ∷ (take i page ++ (k, v) ∷ drop n page)) one ∙ back
  where
    back : y ∷ (take i page ++ (k, v) ∷ drop (suc i) page) ≡ take (suc i) (y ∷ page) ++ (k, v) ∷ drop (suc i + 1) (y ∷ page)
    back = let two : suc (suc i) ≡ suc i + 1 = omega arith in ap (λ (n : ℕ). y ∷ (take i page ++ (k, v) ∷ drop n (y ∷ page))) two

-- a page after a change is in order
pub taken_order : {V : Type 0} (key : Value) (new : Option V) (page seen made : List (Value × V)) (front behind : ℕ) → seen ≡ page → IsTakenFrom key front behind seen
    → made ≡ take front page ++ (option_to_list (entry_of key new) ++ drop behind page) → AreInOrder page → AreInOrder made
taken_order key new page seen made front behind e t m s =
    let put_is : made ≡ put value_cmp key_of key (entry_of key new) page =
    m ∙ ap (λ es. take front es ++ (option_to_list (entry_of key new) ++ drop behind es)) (sym e) ∙ sym (t.changed (entry_of key new)) ∙ ap (put value_cmp key_of key (entry_of key new)) e in
    subst AreInOrder (sym put_is) (IsAscending-put value_cmp_total key_of key (entry_of key new) page (has_key key new) s)

-- and no longer than before where one went
pub taken_short : {V : Type 0} (key : Value) (new : Option V) (page made : List (Value × V)) (at : ℕ) → at < length page → made ≡ take at page ++ (option_to_list (entry_of key new) ++ drop (at + 1) page) → length made ≤ length page
taken_short key new page made at h m =
    omega (
      arith,
      h,
      ap length m,
      length-append (take at page) (option_to_list (entry_of key new) ++ drop (at + 1) page),
      length-append (option_to_list (entry_of key new)) (drop (at + 1) page),
      length-drop (at + 1) page,
      length-take_le at page,
      one_most key new,
    )
  where
    one_most : {V : Type 0} (key : Value) (new : Option V) → length (option_to_list (entry_of key new)) ≤ 1
    one_most key None = omega arith
    one_most key (Some v) = omega arith

-- what isn't there is taken away already
pub put_absent : {V : Type 0} (k : Value) (xs : List (Value × V)) → option_map value_of (at value_cmp key_of k xs) ≡ None → xs ≡ put value_cmp key_of k None xs
put_absent k [] h = refl
put_absent k (x ∷ xs) h =
    let case : (c : Ordering) → option_map value_of (by_order c None (Some x) (at value_cmp key_of k xs)) ≡ None → x ∷ xs ≡ by_order c (x ∷ xs) xs (x ∷ put value_cmp key_of k None xs) = λ c. elim c as (λ c. option_map value_of (by_order c None (Some x) (at value_cmp key_of k xs)) ≡ None → x ∷ xs ≡ by_order c (x ∷ xs) xs (x ∷ put value_cmp key_of k None xs)) [
      | Less ↦ λ e. refl
      | Equal ↦ λ e. cc
      | Greater ↦ λ e. ap (λ zs. x ∷ zs) (put_absent k xs e)
    ]
    in case (value_cmp k (key_of x)) h
