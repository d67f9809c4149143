-- A test of all items of a list, from the left.
use Rattle.std.proofs.Common.{◌≡◌, ◌∙◌, ℕ, suc, ◌+◌, ◌<◌, Bool, true, false, ◌&&◌, List, length, drop, ap, sym, get_or, drop-cons, add-one}
use Rattle.std.specs.List.{list_all}

module _ {X : Type 0} (p : X → Bool) (xs : List X) (i : ℕ) (x : X) (below : i < length xs) (is : x ≡ get_or xs i x) (so_far : list_all p (drop i xs) ≡ list_all p xs) where
  next : list_all p (drop i xs) ≡ (p x && list_all p (drop (i + 1) xs))
  next = ap (list_all p) (drop-cons xs i x below) ∙ ap (λ y. p y && list_all p (drop (suc i) xs)) (sym is) ∙ ap (λ k. p x && list_all p (drop k xs)) (sym (add-one i))

  -- one that fails
  pub one_fails : p x ≡ false → false ≡ list_all p xs
  one_fails fails = sym (next ∙ ap (λ b. b && list_all p (drop (i + 1) xs)) fails) ∙ so_far

  -- one that passes: the others decide
  pub one_passes : p x ≡ true → list_all p (drop (i + 1) xs) ≡ list_all p xs
  one_passes passes = sym (next ∙ ap (λ b. b && list_all p (drop (i + 1) xs)) passes) ∙ so_far
