-- What is made of the items of a list, one for each.
use Rattle.std.proofs.Common.{◌≡◌, ◌<◌, ◌+◌, ℕ, zero, suc, List, [], ◌∷◌, ◌++◌, length, drop, map, ap, ◌∙◌, add-one, append_assoc, arith}
use Rattle.std.specs.Prelude.{slice_index_or}

from : {X Y : Type 0} (f : X → Y) (xs : List X) (i : ℕ) (old new whole : List Y) (y : Y) → i < length xs → new ≡ old ++ y ∷ []
    → ((x : X) → y ≡ f (slice_index_or xs i x)) → old ++ map f (drop i xs) ≡ whole → new ++ map f (drop (suc i) xs) ≡ whole
from f [] i old new whole y h pushed is rest = absurd (omega (arith, h))
from f (x ∷ xs) zero old new whole y h pushed is rest =
    ap (λ ys. ys ++ map f xs) pushed ∙ append_assoc old (y ∷ []) (map f xs) ∙ ap (λ z. old ++ z ∷ map f xs) (is x) ∙ rest
from f (x ∷ xs) (suc i) old new whole y h pushed is rest = from f xs i old new whole y (omega (arith, h)) pushed is rest

-- one item more
pub one_more : {X Y : Type 0} (f : X → Y) (xs : List X) (i : ℕ) (old new whole : List Y) (y : Y) → i < length xs → new ≡ old ++ y ∷ []
    → ((x : X) → y ≡ f (slice_index_or xs i x)) → old ++ map f (drop i xs) ≡ whole → new ++ map f (drop (i + 1) xs) ≡ whole
one_more f xs i old new whole y h pushed is rest = rw (add-one) (from f xs i old new whole y h pushed is rest)
