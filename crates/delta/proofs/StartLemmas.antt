-- Tables as they are taken in.
use Rattle.std.proofs.Common.{◌≡◌, ℕ, ◌+◌, ◌<◌, zero, suc, List, [], ◌∷◌, ◌++◌, Some, None, length, take, sym, ◌∙◌, ap, arith}
use Rattle.std.specs.Prelude.{slice_get}
use Rattle.std.proofs.lemmas.List.{take_more}
use Rattle.std.proofs.lemmas.Option.{slice_get_within, get_or_from_slice_get}

-- one more of a list's items
pub take-get : {X : Type 0} (xs : List X) (i : ℕ) (x : X) → Some x ≡ slice_get xs i → take (i + 1) xs ≡ take i xs ++ x ∷ []
take-get xs i x e = take_more xs i x (slice_get_within xs i x (sym e)) ∙ ap (λ y. take i xs ++ y ∷ []) (get_or_from_slice_get xs i x x (sym e))

-- there is an item at each place of a list
pub get-there : {X : Type 0} (xs : List X) (i : ℕ) → i < length xs → None ≡ slice_get xs i → ⊥
get-there [] i h e = omega arith
get-there (x ∷ xs) zero h e = cc
get-there (x ∷ xs) (suc i) h e = get-there xs i (omega arith) e
