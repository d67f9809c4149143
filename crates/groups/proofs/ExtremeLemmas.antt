-- The first and the last of a total's multiset are the least and the greatest of the values.
use Rattle.std.proofs.Common.{◌≡◌, ℕ, ◌+◌, ◌-◌, ◌<◌, suc, true, false, cond, List, [], ◌∷◌, Option, Some, None, map, length, refl, sym, ◌∙◌, ap, arith}
use Rattle.std.specs.Prelude.{◌&&◌, ◌||◌, nat_lt, filter, count_by, is_some, slice_get}
use Rattle.std.proofs.lemmas.Bool.Decides.{nat_tests}
use Rattle.std.proofs.lemmas.List.Sums.{sum_by-cons}
use Rattle.std.specs.Option.{option_map}
use Rattle.std.specs.Ordering.{eq_by_cmp}
use Rattle.std.specs.declared.cmp.Ordering.TheVariants.{Less, Equal, Greater}
use Rattle.value.specs.declared.values.Value.{Value}
use Rattle.value.specs.ValueOrder.{value_cmp}
use Rattle.value.specs.Ordered.{by_order, AreAbove, IsAscending, at, HoldsOf, least}
use Rattle.value.proofs.ValueOrders.{value_cmp_total, value_exact}
use Rattle.value.proofs.OrderedLists.{has, first, least-first, All-at}
use Rattle.table.specs.Aggregates.{is_there}
use Rattle.pages.specs.Reach.{key_of}
use Rattle.groups.specs.Counts.{Count as Counted, count_from, value_of, count_in, first_value, last_value}
use Rattle.groups.specs.Totals.{AreCountsOf}
use Rattle.groups.proofs.Greatest.{last, least-last}

-- what stands at a key, by the keys alone
at-keys : (v : Value) (cs : List Counted) → is_some (at value_cmp (λ k. k) v (map value_of cs)) ≡ is_some (at value_cmp value_of v cs)
at-keys v [] = refl
at-keys v (c ∷ cs) = elim (value_cmp v c.value) as (λ o. is_some (by_order o None (Some c.value) (at value_cmp (λ k. k) v (map value_of cs))) ≡ is_some (by_order o None (Some c) (at value_cmp value_of v cs))) [
  | Less ↦ refl
  | Equal ↦ refl
  | Greater ↦ at-keys v cs
]

above-keys : (v : Value) (cs : List Counted) → AreAbove value_cmp value_of v cs → AreAbove value_cmp (λ k. k) v (map value_of cs)
above-keys v [] a = tt
above-keys v (c ∷ cs) a = (a.0, above-keys v cs a.1)

ascending-keys : (cs : List Counted) → IsAscending value_cmp value_of cs → IsAscending value_cmp (λ k. k) (map value_of cs)
ascending-keys [] s = tt
ascending-keys (c ∷ cs) s = (above-keys c.value cs s.0, ascending-keys cs s.1)

-- a value stands where its count isn't 0
counted : (o : Option Counted) → HoldsOf (λ (c : Counted). 0 < c.count) o → is_some o ≡ nat_lt 0 (count_in o)
counted None h = refl
counted (Some c) h = above c.count h
  where
    above : (n : ℕ) → 0 < n → true ≡ nat_lt 0 n
    above n h = grind (arith, nat_tests)

-- a value is among those that are there where it is counted
among : (v : Value) (vs : List Value) → has value_cmp v (filter is_there vs) ≡ nat_lt 0 (count_by (λ w. is_there w && eq_by_cmp value_cmp v w) vs)
among v [] = refl
among v (w ∷ ws) =
    rw (sum_by-cons (λ (w : Value). cond (is_there w && eq_by_cmp value_cmp v w) 1 0) w ws)
    (elim (is_there w) as (λ b. has value_cmp v (cond b (w ∷ filter is_there ws) (filter is_there ws)) ≡ nat_lt 0 (cond (b && eq_by_cmp value_cmp v w) 1 0 + count_by (λ w. is_there w && eq_by_cmp value_cmp v w) ws)) [
      | true ↦ elim (eq_by_cmp value_cmp v w) as (λ b. b || has value_cmp v (filter is_there ws) ≡ nat_lt 0 (cond b 1 0 + count_by (λ w. is_there w && eq_by_cmp value_cmp v w) ws)) [
        | true ↦ one_more (count_by (λ w. is_there w && eq_by_cmp value_cmp v w) ws)
        | false ↦ among v ws ∙ none_more (count_by (λ w. is_there w && eq_by_cmp value_cmp v w) ws)
      ]
      | false ↦ among v ws ∙ none_more (count_by (λ w. is_there w && eq_by_cmp value_cmp v w) ws)
    ])
  where
    one_more : (n : ℕ) → true ≡ nat_lt 0 (1 + n)
    one_more n = grind (arith, nat_tests)

    none_more : (n : ℕ) → nat_lt 0 n ≡ nat_lt 0 (0 + n)
    none_more n = ap (nat_lt 0) (omega arith)

-- the counted values are those that are there
same_members : (vs : List Value) (cs : List Counted) → AreCountsOf vs cs → (v : Value) → is_some (at value_cmp (λ k. k) v (map value_of cs)) ≡ has value_cmp v (filter is_there vs)
same_members vs cs k v =
    at-keys v cs ∙ counted (at value_cmp value_of v cs) (All-at value_cmp value_of (λ (c : Counted). 0 < c.count) v cs k.positive)
    ∙ ap (nat_lt 0) (k.right v) ∙ sym (among v vs)

first-keys : (cs : List Counted) → first (map value_of cs) ≡ first_value cs
first-keys [] = refl
first-keys (c ∷ cs) = refl

last-keys : (cs : List Counted) → last (map value_of cs) ≡ last_value cs
last-keys [] = refl
last-keys (c ∷ []) = refl
last-keys (c ∷ d ∷ cs) = last-keys (d ∷ cs)

pub least-right : (vs : List Value) (cs : List Counted) → AreCountsOf vs cs → first_value cs ≡ least value_cmp (filter is_there vs)
least-right vs cs k = sym (least-first value_cmp_total value_exact (map value_of cs) (filter is_there vs) (same_members vs cs k) ∙ first-keys cs)

pub greatest-right : (vs : List Value) (cs : List Counted) → AreCountsOf vs cs → last_value cs ≡ least (λ v w. value_cmp w v) (filter is_there vs)
greatest-right vs cs k = sym (least-last value_cmp_total value_exact (map value_of cs) (filter is_there vs) (ascending-keys cs k.in_order) (same_members vs cs k) ∙ last-keys cs)

-- the first and the last of the counts
abbrev no_entry : Option (Value × ℕ)
no_entry = None

abbrev no_value : Option Value
no_value = None

pub first-key : (es : List (Value × ℕ)) (e : Value × ℕ) → Some e ≡ slice_get es 0 → Some e.0 ≡ first_value (map count_from es)
first-key [] e h = cc
first-key (f ∷ es) e h = ap (λ o. option_map key_of o) h

pub first-none : (es : List (Value × ℕ)) → no_entry ≡ slice_get es 0 → no_value ≡ first_value (map count_from es)
first-none [] h = refl
first-none (f ∷ es) h = cc

pub last-key : (es : List (Value × ℕ)) (e : Value × ℕ) → Some e ≡ slice_get es (length es - 1) → Some e.0 ≡ last_value (map count_from es)
last-key [] e h = cc
last-key (f ∷ []) e h = ap (λ o. option_map key_of o) h
last-key (f ∷ g ∷ es) e h =
    let n : length (f ∷ g ∷ es) - 1 ≡ suc (length es) = omega arith in
    let m : length (g ∷ es) - 1 ≡ length es = omega arith in
    let here : slice_get (f ∷ g ∷ es) (suc (length es)) ≡ slice_get (g ∷ es) (length es) = refl in
    last-key (g ∷ es) e (h ∙ ap (slice_get (f ∷ g ∷ es)) n ∙ here ∙ sym (ap (slice_get (g ∷ es)) m))

pub last-none : (es : List (Value × ℕ)) → no_entry ≡ slice_get es (length es - 1) → no_value ≡ last_value (map count_from es)
last-none [] h = refl
last-none (f ∷ []) h = cc
last-none (f ∷ g ∷ es) h =
    let n : length (f ∷ g ∷ es) - 1 ≡ suc (length es) = omega arith in
    let m : length (g ∷ es) - 1 ≡ length es = omega arith in
    let here : slice_get (f ∷ g ∷ es) (suc (length es)) ≡ slice_get (g ∷ es) (length es) = refl in
    last-none (g ∷ es) (h ∙ ap (slice_get (f ∷ g ∷ es)) n ∙ here ∙ sym (ap (slice_get (g ∷ es)) m))
