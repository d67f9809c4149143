-- Items of lists, by their place.
use Rattle.std.proofs.Common.{◌≡◌, ℕ, ◌<◌, List, [], ◌∷◌, length, get_or, ◌∙◌, subst, arith}
use Rattle.std.proofs.lemmas.List.{get_or_default}

-- what is true of an item is so whatever would stand past the end
pub item_has : {X : Type 0} (P : X → Type 0) (xs : List X) (n : ℕ) (x : X) → n < length xs → x ≡ get_or xs n x → P x → (d : X) → P (get_or xs n d)
item_has P xs n x h e p d = subst P (e ∙ get_or_default xs n x d h) p

-- some item of a list that has one at a place
pub item_in : {X : Type 0} (xs : List X) (i : ℕ) → i < length xs → X
item_in [] i h = absurd (omega arith)
item_in (x ∷ xs) i h = x
