-- What is made of the items of a list, one item after the other.
use Rattle.std.proofs.Common.{◌≡◌, ◌<◌, ◌+◌, ℕ, zero, suc, List, [], ◌∷◌, ◌++◌, length, drop, ap, ◌∙◌, add-one, append_assoc, arith}
use Rattle.std.specs.Prelude.{flat_map, slice_index_or}

from : {X Y : Type 0} (f : X → List Y) (xs : List X) (i : ℕ) (old new whole : List Y) → i < length xs → ((x : X) → new ≡ old ++ f (slice_index_or xs i x))
    → old ++ flat_map f (drop i xs) ≡ whole → new ++ flat_map f (drop (suc i) xs) ≡ whole
from f [] i old new whole h pushed rest = absurd (omega (arith, h))
from f (x ∷ xs) zero old new whole h pushed rest = ap (λ ys. ys ++ flat_map f xs) (pushed x) ∙ append_assoc old (f x) (flat_map f xs) ∙ rest
from f (x ∷ xs) (suc i) old new whole h pushed rest = from f xs i old new whole (omega (arith, h)) pushed rest

-- one item more
pub one_more : {X Y : Type 0} (f : X → List Y) (xs : List X) (i : ℕ) (old new whole : List Y) → i < length xs → ((x : X) → new ≡ old ++ f (slice_index_or xs i x))
    → old ++ flat_map f (drop i xs) ≡ whole → new ++ flat_map f (drop (i + 1) xs) ≡ whole
one_more f xs i old new whole h pushed rest = rw (add-one) (from f xs i old new whole h pushed rest)
