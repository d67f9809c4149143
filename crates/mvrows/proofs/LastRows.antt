-- Rows that are put behind all others, in the order of their keys.
use Rattle.std.proofs.Common.{◌≡◌, ℕ, zero, suc, List, [], ◌∷◌, ◌++◌, take, Some, refl, ◌∙◌, ap}
use Rattle.std.specs.Ordering.{ordering_reverse}
use Rattle.std.specs.declared.cmp.Ordering.TheVariants.{Less, Greater}
use Rattle.value.specs.declared.values.Value.{Value}
use Rattle.value.specs.ValueOrder.{value_cmp}
use Rattle.value.specs.Ordered.{by_order, AreAbove, IsAscending, put}
use Rattle.value.proofs.ValueOrders.{value_cmp_total}
use Rattle.table.specs.Rows.{RowValues}

module _ (key : RowValues → Value) where
  last_above : (k : Value) (xs : List RowValues) (x : RowValues) → AreAbove value_cmp key k (xs ++ x ∷ []) → value_cmp k (key x) ≡ Less
  last_above k [] x a = a.0
  last_above k (y ∷ xs) x a = last_above k xs x a.1

  -- the last key is above the first
  below_last : (y : RowValues) (xs : List RowValues) (x : RowValues) → IsAscending value_cmp key ((y ∷ xs) ++ x ∷ []) → value_cmp (key x) (key y) ≡ Greater
  below_last y xs x s = value_cmp_total.antisymm (key x) (key y) ∙ ap ordering_reverse (last_above (key y) xs x s.0)

  -- what is put under a key that is above all comes last
  pub put-last : (xs : List RowValues) (x : RowValues) → IsAscending value_cmp key (xs ++ x ∷ []) → put value_cmp key (key x) (Some x) xs ≡ xs ++ x ∷ []
  put-last [] x s = refl
  put-last (y ∷ xs) x s = ap (λ c. by_order c (x ∷ y ∷ xs) (x ∷ xs) (y ∷ put value_cmp key (key x) (Some x) xs)) (below_last y xs x s) ∙ ap (λ ys. y ∷ ys) (put-last xs x s.1)

  above-take : (k : Value) (n : ℕ) (xs : List RowValues) → AreAbove value_cmp key k xs → AreAbove value_cmp key k (take n xs)
  above-take k zero xs a = tt
  above-take k (suc n) [] a = tt
  above-take k (suc n) (x ∷ xs) a = (a.0, above-take k n xs a.1)

  pub ascending-take : (n : ℕ) (xs : List RowValues) → IsAscending value_cmp key xs → IsAscending value_cmp key (take n xs)
  ascending-take zero xs s = tt
  ascending-take (suc n) [] s = tt
  ascending-take (suc n) (x ∷ xs) s = (above-take (key x) n xs s.0, ascending-take n xs s.1)
