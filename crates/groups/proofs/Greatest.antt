-- A list in order ends with the greatest.
use Rattle.std.proofs.Common.{◌≡◌, true, false, List, [], ◌∷◌, Option, Some, None, refl, sym, ◌∙◌, ap}
use Rattle.std.specs.Prelude.{is_some}
use Rattle.std.proofs.lemmas.Map.Lookups.{CmpEqualImpliesEq}
use Rattle.std.proofs.lemmas.Cmp.{back_total, tied_itself}
use Rattle.std.specs.Cmp.{IsTotalOrder}
use Rattle.std.specs.Ordering.{is_lt, is_gt, ordering_reverse}
use Rattle.std.specs.declared.cmp.Ordering.{Ordering}
use Rattle.std.specs.declared.cmp.Ordering.TheVariants.{Less, Equal, Greater}
use Rattle.value.specs.Ordered.{by_order, AreAbove, IsAscending, at, lesser, least}
use Rattle.value.proofs.OrderedLists.{has, has-itself, has-least, least-below, equal_between}
use Rattle.table.proofs.DistinctLemmas.{has_back}

-- the last of a list
abbrev pub last : {A : Type 0} → List A → Option A
last [] = None
last (x ∷ []) = Some x
last (x ∷ y ∷ ys) = last (y ∷ ys)

-- the last of a list that isn't empty
abbrev final : {A : Type 0} → A → List A → A
final x [] = x
final x (y ∷ ys) = final y ys

last-final : {A : Type 0} (x : A) (xs : List A) → last (x ∷ xs) ≡ Some (final x xs)
last-final x [] = refl
last-final x (y ∷ ys) = last-final y ys

-- what is not above is not below, turned round
not_lt : (c d : Ordering) → d ≡ ordering_reverse c → is_gt c ≡ false → is_lt d ≡ false
not_lt Less d e h = rw e refl
not_lt Equal d e h = rw e refl
not_lt Greater d e h = cc

module _ {K : Type 0} {R : K → K → Ordering} (o : IsTotalOrder R) where
  -- the first is at most the last
  final-above : (x : K) (xs : List K) → IsAscending R (λ k. k) (x ∷ xs) → is_gt (R x (final x xs)) ≡ false
  final-above x [] s = rw (tied_itself o x) refl
  final-above x (y ∷ ys) s = below_all x y ys s.0
    where
      below_all : (x y : K) (ys : List K) → AreAbove R (λ k. k) x (y ∷ ys) → is_gt (R x (final y ys)) ≡ false
      below_all x y [] a = rw a.0 refl
      below_all x y (z ∷ zs) a = below_all x z zs a.1

  -- the last stands in the list
  at-final : (x : K) (xs : List K) → IsAscending R (λ k. k) (x ∷ xs) → is_some (at R (λ k. k) (final x xs) (x ∷ xs)) ≡ true
  at-final x [] s = rw (tied_itself o x) refl
  at-final x (y ∷ ys) s =
      let l : K = final y ys in
      let more : is_some (at R (λ k. k) l (y ∷ ys)) ≡ true = at-final y ys s.1 in
      let low : is_lt (R l x) ≡ false = not_lt (R x l) (R l x) (o.antisymm l x) (final-above x (y ∷ ys) s) in
      found (R l x) (Some x) (at R (λ k. k) l (y ∷ ys)) low refl more
    where
      found : {X : Type 0} (c : Ordering) (a b : Option X) → is_lt c ≡ false → is_some a ≡ true → is_some b ≡ true → is_some (by_order c None a b) ≡ true
      found Less a b l h k = cc
      found Equal a b l h k = h
      found Greater a b l h k = k

  -- what stands in the list is at most its last
  at-below : (k x : K) (xs : List K) → IsAscending R (λ k. k) (x ∷ xs) → is_some (at R (λ k. k) k (x ∷ xs)) ≡ true → is_gt (R k (final x xs)) ≡ false
  at-below k x [] s h =
      let cases : (c : Ordering) → R k x ≡ c → is_some (by_order c None (Some x) None) ≡ true → is_gt (R k x) ≡ false
      = λ c. elim c as (λ c. R k x ≡ c → is_some (by_order c None (Some x) None) ≡ true → is_gt (R k x) ≡ false) [
        | Less ↦ λ e h. cc
        | Equal ↦ λ e h. rw e refl
        | Greater ↦ λ e h. cc
      ]
      in cases (R k x) refl h
  at-below k x (y ∷ ys) s h =
      let cases : (c : Ordering) → R k x ≡ c → is_some (by_order c None (Some x) (at R (λ k. k) k (y ∷ ys))) ≡ true → is_gt (R k (final y ys)) ≡ false
      = λ c. elim c as (λ c. R k x ≡ c → is_some (by_order c None (Some x) (at R (λ k. k) k (y ∷ ys))) ≡ true → is_gt (R k (final y ys)) ≡ false) [
        | Less ↦ λ e h. cc
        | Equal ↦ λ e h. rw (o.congr k x (final y ys) e) (final-above x (y ∷ ys) s)
        | Greater ↦ λ e h. at-below k y ys s.1 h
      ]
      in cases (R k x) refl h

  -- a list in order with the same members ends with the greatest
  pub least-last : CmpEqualImpliesEq R → (xs ys : List K) → IsAscending R (λ k. k) xs → ((k : K) → is_some (at R (λ k. k) k xs) ≡ has R k ys) → least (λ v w. R w v) ys ≡ last xs
  least-last exact [] [] s h = refl
  least-last exact [] (y ∷ ys) s h = let e : false ≡ true = h y ∙ has-itself o y ys in cc
  least-last exact (x ∷ xs) [] s h = let e : true ≡ false = rw (tied_itself o x) at (h x) in cc
  least-last exact (x ∷ xs) (y ∷ ys) s h =
      let S : K → K → Ordering = λ v w. R w v in
      let m : K = lesser S y (least S ys) in
      let l : K = final x xs in
      let mine : has S l (y ∷ ys) ≡ true = has_back o l (y ∷ ys) ∙ sym (h l) ∙ at-final x xs s in
      let high : is_gt (R l m) ≡ false = least-below (back_total o) y ys l mine in
      let among : is_some (at R (λ k. k) m (x ∷ xs)) ≡ true = h m ∙ sym (has_back o m (y ∷ ys)) ∙ has-least (back_total o) y ys in
      let low : is_gt (R m l) ≡ false = at-below m x xs s among in
      ap Some (exact m l (equal_between (R m l) (not_lt (R l m) (R m l) (o.antisymm m l) high) low)) ∙ sym (last-final x xs)
