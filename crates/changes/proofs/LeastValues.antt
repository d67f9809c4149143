-- The least value and the greatest, one row more in front.
use Rattle.std.proofs.Common.{◌≡◌, ◌∙◌, ℕ, zero, suc, ◌+◌, ◌<◌, ◌≤◌, arith, subst, Bool, true, false, cond, Option, Some, None, List, [], ◌∷◌, length, map, drop, refl, ap, sym, get_or}
use Rattle.std.specs.Prelude.{All, filter, unwrap_or}
use Rattle.std.proofs.lemmas.List.Elements.{All-head, All-tail}
use Rattle.std.specs.Ordering.{is_lt}
use Rattle.std.specs.declared.cmp.Ordering.{Ordering}
use Rattle.std.proofs.lemmas.List.{drop_more}
use Rattle.value.specs.Ordered.{least, lesser}
use Rattle.value.specs.declared.values.Value.{Value}
use Rattle.value.specs.declared.values.Value.TheVariants.{Null}
use Rattle.table.specs.Aggregates.{is_there, values_in}
use Rattle.table.specs.Bounds.{IsSmallRow}
use Rattle.table.specs.Rows.{RowValues, value_in}
use Rattle.table.specs.Slots.{magnitude}
use Rattle.changes.specs.Extremes.{further_of}

module _ (R : Value → Value → Ordering) where
  -- a value, if there is one, is not NULL
  abbrev IsThere : Option Value → Type 0
  IsThere None = Unit {0}
  IsThere (Some v) = is_there v ≡ true

  lesser_there : (v : Value) → is_there v ≡ true → (o : Option Value) → IsThere o → is_there (lesser R v o) ≡ true
  lesser_there v h None there = h
  lesser_there v h (Some w) there = by (is_lt (R w v))
    where
      by : (b : Bool) → is_there (cond b w v) ≡ true
      by true = there
      by false = h

  least_there : (vs : List Value) → IsThere (least R (filter is_there vs))
  least_there [] = tt
  least_there (v ∷ vs) = by (is_there v) refl (least_there vs)
    where
      by : (b : Bool) → is_there v ≡ b → IsThere (least R (filter is_there vs)) → IsThere (least R (cond b (v ∷ filter is_there vs) (filter is_there vs)))
      by true h there = lesser_there v h (least R (filter is_there vs)) there
      by false h there = there

  -- of what is behind it
  of_rest : (v : Value) → is_there v ≡ true → (o : Option Value) → IsThere o → further_of R v (unwrap_or o Null) ≡ lesser R v o
  of_rest v h None there = ap (λ b. cond b v Null) h
  of_rest v h (Some w) there = ap (λ b. cond b (cond (is_there w) (cond (is_lt (R w v)) w v) v) w) h ∙ ap (λ b. cond b (cond (is_lt (R w v)) w v) v) there

  one_more : (v : Value) (vs : List Value) → further_of R v (unwrap_or (least R (filter is_there vs)) Null) ≡ unwrap_or (least R (filter is_there (v ∷ vs))) Null
  one_more v vs = by (is_there v) refl
    where
      by : (b : Bool) → is_there v ≡ b → further_of R v (unwrap_or (least R (filter is_there vs)) Null) ≡ unwrap_or (least R (cond b (v ∷ filter is_there vs) (filter is_there vs))) Null
      by true h = of_rest v h (least R (filter is_there vs)) (least_there vs)
      by false h = ap (λ b. cond b (cond (is_there (unwrap_or (least R (filter is_there vs)) Null)) (cond (is_lt (R (unwrap_or (least R (filter is_there vs)) Null) v)) (unwrap_or (least R (filter is_there vs)) Null) v) v) (unwrap_or (least R (filter is_there vs)) Null)) h

-- one row more in front
pub row_more : {X : Type 0} (R : Value → Value → Ordering) (f : X → RowValues) (column : ℕ) (xs : List X) (i : ℕ) (x : X) (value behind next : Value) → i < length xs → x ≡ get_or xs i x
    → value ≡ value_in column (f x) → behind ≡ unwrap_or (least R (values_in column (map f (drop (i + 1) xs)))) Null → next ≡ further_of R value behind
    → next ≡ unwrap_or (least R (values_in column (map f (drop i xs)))) Null
row_more R f column xs i x value behind next below is v b n =
    n ∙ ap (λ v. further_of R v behind) v ∙ ap (further_of R (value_in column (f x))) b
    ∙ one_more R (value_in column (f x)) (map (value_in column) (map f (drop (i + 1) xs)))
    ∙ sym (ap (λ xs. unwrap_or (least R (values_in column (map f xs))) Null) (drop_more xs i x below ∙ ap (λ y. y ∷ drop (i + 1) xs) (sym is)))

-- ---- within bounds

-- one of two has what both have
further_has : (P : Value → Type 0) (R : Value → Value → Ordering) (v w : Value) → P v → P w → P (further_of R v w)
further_has P R v w p q = by (is_there v) (is_there w) (is_lt (R w v))
  where
    by : (a b c : Bool) → P (cond a (cond b (cond c w v) v) w)
    by false b c = q
    by true false c = p
    by true true true = q
    by true true false = p

-- a value of a small row is small
value_small : (column : ℕ) (row : RowValues) → IsSmallRow row → magnitude (value_in column row) ≤ 1000000000000000
value_small column [] small = omega (arith)
value_small zero (v ∷ vs) small = small 0 Null (omega (arith))
value_small (suc column) (v ∷ vs) small = value_small column vs (λ k d below. small (suc k) d (omega (arith, below)))

-- and so is the least of a column, in any order
pub least_small : (R : Value → Value → Ordering) (column : ℕ) (rows : List RowValues) → All IsSmallRow rows → magnitude (unwrap_or (least R (values_in column rows)) Null) ≤ 1000000000000000
least_small R column [] small = omega (arith)
least_small R column (row ∷ rows) small =
    let P : Value → Type 0 = λ v. magnitude v ≤ 1000000000000000 in
    let values = map (value_in column) rows in
    subst P (one_more R (value_in column row) values)
    (further_has P R (value_in column row) (unwrap_or (least R (filter is_there values)) Null) (value_small column row (All-head IsSmallRow row rows small)) (least_small R column rows (All-tail IsSmallRow row rows small)))
