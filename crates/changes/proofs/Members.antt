-- The order of places as a map goes by it is that of the definitions.
use Rattle.std.proofs.Common.{◌≡◌, List, [], ◌∷◌, Ordering, Less, sym, ap, ◌∙◌, nat_cmp}
use Rattle.std.specs.List.{AllByRecursion}
use Rattle.std.specs.List.Sorted.{IsStrictlySortedBy}
use Rattle.value.specs.Ordered.{AreAbove, IsAscending}
use Rattle.std.specs.Ordering.{ordering_then}
use Rattle.value.proofs.ValueOrders.{derived-value_cmp}
use Rattle.siread.specs.declared.keys.Place.{Place}
use Rattle.siread.specs.contracts.keys.PlaceOrd.TheImpl.{cmp-value}
use Rattle.alone.specs.States.{place_cmp}

module _ {K : Type 0} (R : K → K → Ordering) where
  above : (S : K → K → Ordering) → ((a b : K) → R a b ≡ S a b) → (k : K) (xs : List K) → AllByRecursion (λ y. R k y ≡ Less) xs → AreAbove S (λ x. x) k xs
  above S e k [] a = tt
  above S e k (x ∷ xs) a = (sym (e k x) ∙ a.0, above S e k xs a.1)

  -- keys that go up by an order stand in one that answers the same
  pub ascends : (S : K → K → Ordering) → ((a b : K) → R a b ≡ S a b) → (xs : List K) → IsStrictlySortedBy R xs → IsAscending S (λ x. x) xs
  unfolding IsStrictlySortedBy
  ascends S e [] s = tt
  ascends S e (x ∷ xs) s = (above S e x xs s.0, ascends S e xs s.1)

pub derived-place_cmp : (a b : Place) → cmp-value.it a b ≡ place_cmp a b
derived-place_cmp a b = ap (ordering_then (nat_cmp a.table b.table)) (derived-value_cmp a.key b.key)
