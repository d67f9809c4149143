-- Parts that are numbered one after the other.
use Rattle.std.proofs.Common.{◌≡◌, List, [], ◌∷◌, ◌++◌, Result, Ok, Err, refl, ap, sym}
use Rattle.std.proofs.lemmas.List.{append_assoc}
use Rattle.value.specs.declared.refusals.Refusal.{Refusal}
use Rattle.form_check.specs.Leaves.{Leaves, then_made}

-- a part behind those made so far, and then the others
pub so_far_next : {A : Type 0} (made : List A) (part : A) (rest : Result (List A × Leaves) Refusal)
    → then_made (λ others. made ++ others) (then_made (λ others. part ∷ others) rest) ≡ then_made (λ others. (made ++ part ∷ []) ++ others) rest
so_far_next made part (Ok rest) = ap (λ items. Ok (items, rest.1)) (sym (append_assoc made (part ∷ []) rest.0))
so_far_next made part (Err refusal) = refl

-- nothing made so far
pub so_far_none : {A : Type 0} (rest : Result (List A × Leaves) Refusal) → then_made (λ others. [] ++ others) rest ≡ rest
so_far_none (Ok rest) = refl
so_far_none (Err refusal) = refl
