-- The members of a list: its first, and those of the rest.
use Rattle.std.proofs.Common.{◌≡◌, ℕ, zero, suc, ◌<◌, List, [], ◌∷◌, length, get_or, map, ◌⊎◌, inl, inr, refl, subst, arith}
use Rattle.std.specs.Prelude.{Contains}

pub in_head : {X : Type 0} (x : X) (xs : List X) → Contains (x ∷ xs) x
in_head x xs = (0, omega arith, refl)

pub in_tail : {X : Type 0} (x : X) (xs : List X) (y : X) → Contains xs y → Contains (x ∷ xs) y
in_tail x xs y h = (suc h.0, omega (arith, h.1), h.2)

pub in_cases : {X : Type 0} (x : X) (xs : List X) (y : X) → Contains (x ∷ xs) y → (x ≡ y) ⊎ Contains xs y
in_cases x xs y h = go h.0 h.1 h.2
  where
    go : (k : ℕ) → k < length (x ∷ xs) → get_or (x ∷ xs) k y ≡ y → (x ≡ y) ⊎ Contains xs y
    go zero l e = inl e
    go (suc k) l e = inr (k, omega arith, e)

pub not_in_nil : {X : Type 0} (y : X) → Contains [] y → ⊥
not_in_nil y h = omega (arith, h.1)

-- those of a list mapped
pub in_map : {X Y : Type 0} (f : X → Y) (xs : List X) (x : X) → Contains xs x → Contains (map f xs) (f x)
in_map f [] x m = absurd (not_in_nil x m)
in_map f (y ∷ xs) x m = elim (in_cases y xs x m) [
  | inl same ↦ subst (λ z. Contains (f y ∷ map f xs) (f z)) same (in_head (f y) (map f xs))
  | inr there ↦ in_tail (f y) (map f xs) (f x) (in_map f xs x there)
]
