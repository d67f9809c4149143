-- The types of a list, found from the front.
use Rattle.std.proofs.Common.{◌≡◌, ℕ, suc, ◌<◌, ◌+◌, List, [], ◌∷◌, ◌++◌, Option, Some, None, length, map, drop, refl, sym, ap, ◌∙◌, append_assoc, get_or, drop-cons, add-one}
use Rattle.std.specs.Option.{option_map}
use Rattle.assertcheck.specs.declared.data_types.DataType.{DataType}
use Rattle.assertcheck.specs.Forms.{all_types}

-- types that are found already, with those of the rest behind them
abbrev pub behind : List DataType → Option (List DataType) → Option (List DataType)
behind found rest = option_map (λ ts. found ++ ts) rest

behind-one : (found : List DataType) (t : DataType) (rest : Option (List DataType)) → behind (found ++ t ∷ []) rest ≡ behind found (option_map (λ ts. t ∷ ts) rest)
behind-one found t None = refl
behind-one found t (Some ts) = ap Some (append_assoc found (t ∷ []) ts)

module _ {X : Type 0} (f : X → Option DataType) (xs : List X) (i : ℕ) (x : X) (found : List DataType) (below : i < length xs) (is : x ≡ get_or xs i x)
    (so_far : behind found (all_types (map f (drop i xs))) ≡ all_types (map f xs)) where
  next : all_types (map f (drop i xs)) ≡ all_types (f x ∷ map f (drop (i + 1) xs))
  next = ap (λ ys. all_types (map f ys)) (drop-cons xs i x below) ∙ ap (λ y. all_types (f y ∷ map f (drop (suc i) xs))) (sym is)
      ∙ ap (λ k. all_types (f x ∷ map f (drop k xs))) (sym (add-one i))

  -- an item without a type: the whole has none
  pub missing : f x ≡ None → None ≡ all_types (map f xs)
  missing none = sym (ap (behind found) (next ∙ ap (λ o. all_types (o ∷ map f (drop (i + 1) xs))) none)) ∙ so_far

  -- an item with a type: it stands behind those that are found
  pub present : (t : DataType) (after : List DataType) → f x ≡ Some t → after ≡ found ++ t ∷ [] → behind after (all_types (map f (drop (i + 1) xs))) ≡ all_types (map f xs)
  present t after some more = ap (λ ts. behind ts (all_types (map f (drop (i + 1) xs)))) more ∙ behind-one found t (all_types (map f (drop (i + 1) xs)))
      ∙ sym (ap (behind found) (next ∙ ap (λ o. all_types (o ∷ map f (drop (i + 1) xs))) some)) ∙ so_far
