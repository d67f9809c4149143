-- Lists in the order of a key, by the keys of those items that pass a test.
use Rattle.std.proofs.Common.{◌≡◌, Bool, true, false, cond, List, [], ◌∷◌, ◌++◌, Option, Some, None, map, refl, sym, ◌∙◌, ap}
use Rattle.std.specs.Prelude.{filter, option_to_list}
use Rattle.std.proofs.lemmas.Map.Lookups.{CmpEqualImpliesEq}
use Rattle.std.specs.Cmp.{IsTotalOrder}
use Rattle.std.specs.Ordering.{ordering_reverse}
use Rattle.std.specs.declared.cmp.Ordering.{Ordering}
use Rattle.std.specs.declared.cmp.Ordering.TheVariants.{Less, Equal, Greater}
use Rattle.value.specs.Ordered.{by_order, AreAbove, IsAscending, at, put, HasKey}
use Rattle.value.proofs.OrderedLists.{AreAbove-below, AreAbove-tied, at-above}

module _ {X K : Type 0} (R : K → K → Ordering) (key : X → K) where
  -- a change at a key below all
  put-above : (k : K) (new : Option X) (xs : List X) → AreAbove R key k xs → put R key k new xs ≡ option_to_list new ++ xs
  put-above k None [] a = refl
  put-above k (Some w) [] a = refl
  put-above k new (x ∷ xs) a = ap (λ c. by_order c (option_to_list new ++ x ∷ xs) (option_to_list new ++ xs) (x ∷ put R key k new xs)) a.0

  -- what stands at a key is put there
  pub put-at : (k : K) (xs : List X) → put R key k (at R key k xs) xs ≡ xs
  put-at k [] = refl
  put-at k (x ∷ xs) =
      let stands : Ordering → Option X = λ c. by_order c None (Some x) (at R key k xs) in
      let case : (c : Ordering) → by_order c (option_to_list (stands c) ++ x ∷ xs) (option_to_list (stands c) ++ xs) (x ∷ put R key k (stands c) xs) ≡ x ∷ xs = λ c. elim c as (λ c. by_order c (option_to_list (stands c) ++ x ∷ xs) (option_to_list (stands c) ++ xs) (x ∷ put R key k (stands c) xs) ≡ x ∷ xs) [
        | Less ↦ refl
        | Equal ↦ refl
        | Greater ↦ ap (λ ys. x ∷ ys) (put-at k xs)
      ]
      in case (R k (key x))

  -- what stands at a key has it
  pub HasKey-at : CmpEqualImpliesEq R → (k : K) (xs : List X) → HasKey R key k (at R key k xs)
  HasKey-at exact k [] = tt
  HasKey-at exact k (x ∷ xs) =
      let case : (c : Ordering) → R k (key x) ≡ c → HasKey R key k (by_order c None (Some x) (at R key k xs)) = λ c. elim c as (λ c. R k (key x) ≡ c → HasKey R key k (by_order c None (Some x) (at R key k xs))) [
        | Less ↦ λ e. tt
        | Equal ↦ λ e. sym (exact k (key x) e)
        | Greater ↦ λ e. HasKey-at exact k xs
      ]
      in case (R k (key x)) refl

  above-front : (k : K) (xs ys : List X) → AreAbove R key k (xs ++ ys) → AreAbove R key k xs
  above-front k [] ys a = tt
  above-front k (x ∷ xs) ys a = (a.0, above-front k xs ys a.1)

  above-next : (k : K) (xs : List X) (y : X) (ys : List X) → AreAbove R key k (xs ++ y ∷ ys) → R k (key y) ≡ Less
  above-next k [] y ys a = a.0
  above-next k (x ∷ xs) y ys a = above-next k xs y ys a.1

  -- the first items of a list in order are in order
  pub ascending-front : (xs ys : List X) → IsAscending R key (xs ++ ys) → IsAscending R key xs
  ascending-front [] ys s = tt
  ascending-front (x ∷ xs) ys s = (above-front (key x) xs ys s.0, ascending-front xs ys s.1)

module _ {X K : Type 0} {R : K → K → Ordering} (o : IsTotalOrder R) (key : X → K) where
  -- what goes first and then comes is put
  pub put-put : (k : K) (new : Option X) (xs : List X) → IsAscending R key xs → put R key k new (put R key k None xs) ≡ put R key k new xs
  put-put k new [] s = refl
  put-put k new (x ∷ xs) s =
      let front : List X = option_to_list new in
      let turn : Ordering → List X → List X = λ c ys. by_order c (front ++ x ∷ ys) (front ++ ys) (x ∷ put R key k new ys) in
      let case : (c : Ordering) → R k (key x) ≡ c → put R key k new (by_order c (x ∷ xs) xs (x ∷ put R key k None xs)) ≡ turn c xs = λ c. elim c as (λ c. R k (key x) ≡ c → put R key k new (by_order c (x ∷ xs) xs (x ∷ put R key k None xs)) ≡ turn c xs) [
        | Less ↦ λ e. ap (λ d. turn d xs) e
        | Equal ↦ λ e. put-above R key k new xs (AreAbove-tied o key (key x) k xs e s.0)
        | Greater ↦ λ e. ap (λ d. turn d (put R key k None xs)) e ∙ ap (λ ys. x ∷ ys) (put-put k new xs s.1)
      ]
      in case (R k (key x)) refl

  below : (x : X) (xs : List X) (y : X) (ys : List X) → IsAscending R key ((x ∷ xs) ++ y ∷ ys) → R (key y) (key x) ≡ Greater
  below x xs y ys s = o.antisymm (key y) (key x) ∙ ap ordering_reverse (above-next R key (key x) xs y ys s.0)

  -- nothing stands at the key of the next item among those before it, and it is put behind them
  pub at-last : (xs : List X) (y : X) (ys : List X) → IsAscending R key (xs ++ y ∷ ys) → at R key (key y) xs ≡ None
  at-last [] y ys s = refl
  at-last (x ∷ xs) y ys s = ap (λ c. by_order c None (Some x) (at R key (key y) xs)) (below x xs y ys s) ∙ at-last xs y ys s.1

  pub put-last : (xs : List X) (y : X) (ys : List X) → IsAscending R key (xs ++ y ∷ ys) → put R key (key y) (Some y) xs ≡ xs ++ y ∷ []
  put-last [] y ys s = refl
  put-last (x ∷ xs) y ys s = ap (λ c. by_order c (y ∷ x ∷ xs) (y ∷ xs) (x ∷ put R key (key y) (Some y) xs)) (below x xs y ys s) ∙ ap (λ zs. x ∷ zs) (put-last xs y ys s.1)

  module _ (p : X → Bool) where
    -- the keys of the items that pass
    abbrev pub keys_where : List X → List K
    keys_where xs = map key (filter p xs)

    -- the key of an item, if there is one and it passes
    abbrev pub key_where : Option X → Option K
    key_where None = None
    key_where (Some x) = cond (p x) (Some (key x)) None

    -- the keys before which an item stands, by whether it passes
    abbrev behind : Bool → X → List X → List K
    behind b x xs = map key (cond b (x ∷ filter p xs) (filter p xs))

    above-where : (k : K) (xs : List X) → AreAbove R key k xs → AreAbove R (λ j. j) k (keys_where xs)
    above-where k [] a = tt
    above-where k (x ∷ xs) a = elim (p x) as (λ b. AreAbove R (λ j. j) k (behind b x xs)) [
      | true ↦ (a.0, above-where k xs a.1)
      | false ↦ above-where k xs a.1
    ]

    -- they are in order
    pub ascending-where : (xs : List X) → IsAscending R key xs → IsAscending R (λ j. j) (keys_where xs)
    ascending-where [] s = tt
    ascending-where (x ∷ xs) s = elim (p x) as (λ b. IsAscending R (λ j. j) (behind b x xs)) [
      | true ↦ (above-where (key x) xs s.0, ascending-where xs s.1)
      | false ↦ ascending-where xs s.1
    ]

    -- what stands at a key
    pub at-where : (k : K) (xs : List X) → IsAscending R key xs → at R (λ j. j) k (keys_where xs) ≡ key_where (at R key k xs)
    at-where k [] s = refl
    at-where k (x ∷ xs) s =
        let none : Option K = None in
        let mine : Bool → Option K = λ b. cond b (Some (key x)) None in
        let rest : Option K = at R (λ j. j) k (keys_where xs) in
        let hit : (c : Ordering) → R k (key x) ≡ c → by_order (R k (key x)) none (Some (key x)) rest ≡ by_order c none (Some (key x)) rest = λ c e. ap (λ d. by_order d none (Some (key x)) rest) e in
        let case : (c : Ordering) → R k (key x) ≡ c → (b : Bool) → at R (λ j. j) k (behind b x xs) ≡ by_order c none (mine b) rest = λ c. elim c as (λ c. R k (key x) ≡ c → (b : Bool) → at R (λ j. j) k (behind b x xs) ≡ by_order c none (mine b) rest) [
          | Less ↦ λ e b. elim b as (λ b. at R (λ j. j) k (behind b x xs) ≡ none) [
            | true ↦ hit Less e
            | false ↦ at-above o (λ j. j) k (keys_where xs) (above-where k xs (AreAbove-below o key k (key x) xs e s.0))
          ]
          | Equal ↦ λ e b. elim b as (λ b. at R (λ j. j) k (behind b x xs) ≡ mine b) [
            | true ↦ hit Equal e
            | false ↦ at-above o (λ j. j) k (keys_where xs) (above-where k xs (AreAbove-tied o key (key x) k xs e s.0))
          ]
          | Greater ↦ λ e b. elim b as (λ b. at R (λ j. j) k (behind b x xs) ≡ rest) [
            | true ↦ hit Greater e
            | false ↦ refl
          ]
        ]
        in
        let turn : (c : Ordering) → by_order c none (mine (p x)) (key_where (at R key k xs)) ≡ key_where (by_order c None (Some x) (at R key k xs)) = λ c. elim c as (λ c. by_order c none (mine (p x)) (key_where (at R key k xs)) ≡ key_where (by_order c None (Some x) (at R key k xs))) [
          | Less ↦ refl
          | Equal ↦ refl
          | Greater ↦ refl
        ]
        in
        case (R k (key x)) refl (p x) ∙ ap (by_order (R k (key x)) none (mine (p x))) (at-where k xs s.1) ∙ turn (R k (key x))

    alone-where : (new : Option X) → keys_where (option_to_list new) ≡ option_to_list (key_where new)
    alone-where None = refl
    alone-where (Some w) = elim (p w) as (λ b. map key (cond b (w ∷ []) []) ≡ option_to_list (cond b (Some (key w)) None)) [ true ↦ refl | false ↦ refl ]

    front-where : (new : Option X) (xs : List X) → keys_where (option_to_list new ++ xs) ≡ option_to_list (key_where new) ++ keys_where xs
    front-where None xs = refl
    front-where (Some w) xs = elim (p w) as (λ b. behind b w xs ≡ option_to_list (cond b (Some (key w)) None) ++ keys_where xs) [ true ↦ refl | false ↦ refl ]

    -- a change at a key
    pub put-where : (k : K) (new : Option X) (xs : List X) → IsAscending R key xs → keys_where (put R key k new xs) ≡ put R (λ j. j) k (key_where new) (keys_where xs)
    put-where k new [] s = alone-where new
    put-where k new (x ∷ xs) s =
        let front : List K = option_to_list (key_where new) in
        let rest : List K = put R (λ j. j) k (key_where new) (keys_where xs) in
        let after : List X = put R key k new xs in
        let hit : (c : Ordering) → R k (key x) ≡ c → by_order c (front ++ key x ∷ keys_where xs) (front ++ keys_where xs) (key x ∷ rest) ≡ by_order (R k (key x)) (front ++ key x ∷ keys_where xs) (front ++ keys_where xs) (key x ∷ rest) = λ c e. ap (λ d. by_order d (front ++ key x ∷ keys_where xs) (front ++ keys_where xs) (key x ∷ rest)) (sym e) in
        let case : (c : Ordering) → R k (key x) ≡ c → keys_where (by_order c (option_to_list new ++ x ∷ xs) (option_to_list new ++ xs) (x ∷ after)) ≡ put R (λ j. j) k (key_where new) (keys_where (x ∷ xs)) = λ c. elim c as (λ c. R k (key x) ≡ c → keys_where (by_order c (option_to_list new ++ x ∷ xs) (option_to_list new ++ xs) (x ∷ after)) ≡ put R (λ j. j) k (key_where new) (keys_where (x ∷ xs))) [
          | Less ↦ λ e. front-where new (x ∷ xs) ∙ sym (put-above R (λ j. j) k (key_where new) (keys_where (x ∷ xs)) (above-where k (x ∷ xs) (e, AreAbove-below o key k (key x) xs e s.0)))
          | Equal ↦ λ e. front-where new xs ∙ elim (p x) as (λ b. front ++ keys_where xs ≡ put R (λ j. j) k (key_where new) (behind b x xs)) [
            | true ↦ hit Equal e
            | false ↦ sym (put-above R (λ j. j) k (key_where new) (keys_where xs) (above-where k xs (AreAbove-tied o key (key x) k xs e s.0)))
          ]
          | Greater ↦ λ e. elim (p x) as (λ b. behind b x after ≡ put R (λ j. j) k (key_where new) (behind b x xs)) [
            | true ↦ ap (λ ks. key x ∷ ks) (put-where k new xs s.1) ∙ hit Greater e
            | false ↦ put-where k new xs s.1
          ]
        ]
        in case (R k (key x)) refl
