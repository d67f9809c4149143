-- A set function gives by the total of some rows what it gives of the rows.
use Rattle.std.proofs.Common.{◌≡◌, ℕ, ◌≤◌, ◌^◌, Bool, true, false, List, [], ◌∷◌, Option, Some, None, map, length, refl, sym, ◌∙◌, ap, arith}
use Rattle.std.specs.Prelude.{◌==◌, ℤ, pos, ◌+ℤ◌, count_by, filter, unwrap_or, if◌then◌else◌}
use Rattle.std.proofs.lemmas.Int.{ints}
use Rattle.std.proofs.lemmas.List.{length-map}
use Rattle.std.proofs.lemmas.List.Elements.{All-head, All-tail, All-filter}
use Rattle.std.proofs.lemmas.List.Sums.{length-filter, count_by-le-length}
use Rattle.std.specs.Ordering.{is_lt}
use Rattle.std.specs.declared.cmp.Ordering.{Ordering}
use Rattle.value.specs.declared.values.Value.{Value}
use Rattle.value.specs.declared.values.Value.TheVariants.{Null, Int, Text}
use Rattle.value.specs.ValueOrder.{value_cmp}
use Rattle.value.specs.Ordered.{lesser, least}
use Rattle.table.specs.declared.aggregates.Aggregate.{Aggregate}
use Rattle.table.specs.declared.aggregates.Aggregate.TheVariants.{CountRows, Count, CountDistinct, Sum, SumDistinct, Min, Max}
use Rattle.table.specs.Aggregates.{is_there, distinct, sum_of, values_in, sum_answer, aggregate}
use Rattle.table.specs.Rows.{RowValues, value_in}
use Rattle.table.specs.declared.slots.SlotValue.{SlotValue}
use Rattle.table.specs.declared.slots.SlotValue.TheVariants as slot
use Rattle.table.specs.Slots.{magnitude, value_of as value_in_slot, IsWithinKind}
use Rattle.groups.specs.Answers.{answer_from, value_for}
use Rattle.groups.specs.Figures.{Figures}
use Rattle.groups.specs.Totals.{IsTotalOf, AreSmall, IsWithin}
use Rattle.groups.proofs.DistinctLemmas.{there-distinct, distinct-within}
use Rattle.groups.proofs.MemberLemmas.{sum_within}
use Rattle.groups.proofs.ExtremeLemmas.{least-right, greatest-right}
use Rattle.groups.proofs.EntryLemmas.{not_zero}

-- NULL adds nothing to a sum
sum-there : (vs : List Value) → sum_of (filter is_there vs) ≡ sum_of vs
sum-there [] = refl
sum-there (Null ∷ vs) = sum-there vs ∙ omega (arith, ints)
sum-there (Int n ∷ vs) = ap (λ z. n +ℤ z) (sum-there vs)
sum-there (Text t ∷ vs) = ap (λ z. pos 0 +ℤ z) (sum-there vs)

-- SUM in a slot: none where no value is there
abbrev sum_slot : ℕ → ℤ → SlotValue
sum_slot n z = slot.Sum (if n == 0 then None else Some z)

sum-slot : (vs : List Value) (n : ℕ) → n ≡ length vs → value_in_slot (sum_slot n (sum_of vs)) ≡ sum_answer vs
sum-slot [] n e = rw e refl
sum-slot (v ∷ vs) n e =
    let z : ℤ = sum_of (v ∷ vs) in
    let case : (b : Bool) → (n == 0) ≡ b → value_in_slot (slot.Sum (if b then None else Some z)) ≡ Int z = λ b. elim b as (λ b. (n == 0) ≡ b → value_in_slot (slot.Sum (if b then None else Some z)) ≡ Int z) [
      | true ↦ λ none. absurd (not_zero n (length vs) e none)
      | false ↦ λ some. refl
    ]
    in case (n == 0) refl

-- what a set function gives by the total of the rows' values
pub answer-right : (a : Aggregate) (rows : List RowValues) (t : Figures) → IsTotalOf a (map (value_for a) rows) t → value_in_slot (answer_from a t) ≡ aggregate a rows
answer-right CountRows rows t k = ap (λ n. Int (pos n)) (k.rows ∙ length-map rows (value_for CountRows))
answer-right (Count c) rows t k = ap (λ n. Int (pos n)) (k.there ∙ sym (length-filter is_there (map (value_in c) rows)))
answer-right (CountDistinct c) rows t k =
    let vs : List Value = map (value_in c) rows in
    ap (λ n. Int (pos n)) (k.there ∙ sym (length-filter is_there (distinct vs)) ∙ ap length (there-distinct vs))
answer-right (Sum c) rows t k =
    ap (λ z. value_in_slot (sum_slot t.there z)) (k.sum ∙ sym (sum-there (map (value_in c) rows)))
    ∙ sum-slot (values_in c rows) t.there (k.there ∙ sym (length-filter is_there (map (value_in c) rows)))
answer-right (SumDistinct c) rows t k =
    let vs : List Value = map (value_in c) rows in
    ap (λ z. value_in_slot (sum_slot t.there z)) (k.sum ∙ sym (sum-there (distinct vs)) ∙ ap sum_of (there-distinct vs))
    ∙ sum-slot (distinct (values_in c rows)) t.there (k.there ∙ sym (length-filter is_there (distinct vs)) ∙ ap length (there-distinct vs))
answer-right (Min c) rows t k = ap (λ o. unwrap_or o Null) (least-right (map (value_in c) rows) t.values k.values)
answer-right (Max c) rows t k = ap (λ o. unwrap_or o Null) (greatest-right (map (value_in c) rows) t.values k.values)

-- the least of small values is small
least_small : (R : Value → Value → Ordering) (vs : List Value) → AreSmall vs → magnitude (unwrap_or (least R vs) Null) ≤ 10 ^ 15
least_small R [] h = omega arith
least_small R (v ∷ vs) h = lesser_small (least R vs) (least_small R vs (All-tail (λ (v : Value). magnitude v ≤ 10 ^ 15) v vs h))
  where
    here : magnitude v ≤ 10 ^ 15
    here = All-head (λ (v : Value). magnitude v ≤ 10 ^ 15) v vs h

    lesser_small : (o : Option Value) → magnitude (unwrap_or o Null) ≤ 10 ^ 15 → magnitude (lesser R v o) ≤ 10 ^ 15
    lesser_small None k = here
    lesser_small (Some w) k = elim (is_lt (R w v)) as (λ b. magnitude (if b then w else v) ≤ 10 ^ 15) [ true ↦ k | false ↦ here ]

there_small : (vs : List Value) → AreSmall vs → AreSmall (filter is_there vs)
there_small vs h = All-filter is_there (λ (v : Value). magnitude v ≤ 10 ^ 15) vs h

-- the number of values that are there, and their sum, fit their slots
count-within : (n : ℕ) (vs : List Value) → n ≡ count_by is_there vs → IsWithin vs → IsWithinKind (slot.Count n)
count-within n vs e w = omega (arith, w.short, e, count_by-le-length is_there vs)

sum-within : (n : ℕ) (z : ℤ) (vs : List Value) → z ≡ sum_of vs → IsWithin vs → IsWithinKind (sum_slot n z)
sum-within n z vs e w = elim (n == 0) as (λ b. IsWithinKind (slot.Sum (if b then None else Some z))) [
  | true ↦ omega arith
  | false ↦ rw e (omega (arith, sum_within vs w))
]

-- what a set function gives by a total of rows within bounds is within the bound of its slot
pub answer-within : (a : Aggregate) (vs : List Value) (t : Figures) → IsTotalOf a vs t → IsWithin vs → IsWithinKind (answer_from a t)
answer-within CountRows vs t k w = omega (arith, w.short, k.rows)
answer-within (Count c) vs t k w = count-within t.there vs k.there w
answer-within (CountDistinct c) vs t k w = count-within t.there (distinct vs) k.there (distinct-within vs w)
answer-within (Sum c) vs t k w = sum-within t.there t.sum vs k.sum w
answer-within (SumDistinct c) vs t k w = sum-within t.there t.sum (distinct vs) k.sum (distinct-within vs w)
answer-within (Min c) vs t k w = rw (least-right vs t.values k.values) (omega (arith, least_small value_cmp (filter is_there vs) (there_small vs w.small)))
answer-within (Max c) vs t k w = rw (greatest-right vs t.values k.values) (omega (arith, least_small (λ v w. value_cmp w v) (filter is_there vs) (there_small vs w.small)))
