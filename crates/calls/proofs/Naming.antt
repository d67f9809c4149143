-- Reading the names of values one after the other, as a loop does.
use Rattle.std.proofs.Common.{◌≡◌, ℕ, true, false, List, [], ◌∷◌, ◌++◌, Option, Some, None, refl, sym, ap, ◌∙◌, append_assoc}
use Rattle.std.specs.Prelude.{IsSomeAnd}
use Rattle.value.specs.declared.values.Value.{Value}
use Rattle.calls.specs.Calls.{IsNameAdded, names_of, value_name, with_first}

-- the names that were read, and those that are still read
abbrev pub with_front : List (List ℕ) → Option (List (List ℕ)) → Option (List (List ℕ))
with_front front None = None
with_front front (Some rest) = Some (front ++ rest)

one_more : (front new : List (List ℕ)) (name : Option (List ℕ)) (rest : Option (List (List ℕ))) → IsSomeAnd name (λ n. new ≡ front ++ n ∷ [])
    → with_front new rest ≡ with_front front (with_first name rest)
one_more front new None rest added = absurd added
one_more front new (Some n) None added = refl
one_more front new (Some n) (Some ns) added = ap (λ (names : List (List ℕ)). Some (names ++ ns)) added ∙ ap (λ (names : List (List ℕ)). Some names) (append_assoc front (n ∷ []) ns)

-- a name was added
pub goes_on : (front new : List (List ℕ)) (v : Value) (vs : List Value) (total : Option (List (List ℕ))) → IsNameAdded true v front new
    → with_front front (names_of (v ∷ vs)) ≡ total → with_front new (names_of vs) ≡ total
goes_on front new v vs total added so_far = one_more front new (value_name v) (names_of vs) added ∙ so_far

-- a value has none
pub stops : (front new : List (List ℕ)) (v : Value) (vs : List Value) (total : Option (List (List ℕ))) → IsNameAdded false v front new
    → with_front front (names_of (v ∷ vs)) ≡ total → None ≡ total
stops front new v vs total none so_far =
    ap (λ (name : Option (List ℕ)). with_front front (with_first name (names_of vs))) (sym none) ∙ so_far
