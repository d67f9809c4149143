-- Names that no column has.
use Rattle.std.proofs.Common.{◌≡◌, ℕ, Bool, true, false, cond, List, [], ◌∷◌, ◌++◌, Some, None, refl}
use Rattle.value.specs.declared.refusals.Refusal.{Refusal}
use Rattle.value.specs.declared.refusals.Refusal.TheVariants.{UnknownName}
use Rattle.syntax.specs.declared.definitions.ColumnDefinition.{ColumnDefinition}
use Rattle.definitions.specs.Tables.{is_named, unknown_name}

known_step : (columns : List ColumnDefinition) (name : List ℕ) (names rest : List (List ℕ)) (b : Bool)
    → (unknown_name columns names ≡ None → unknown_name columns (names ++ rest) ≡ unknown_name columns rest)
    → cond b (unknown_name columns names) (Some (UnknownName name)) ≡ None → cond b (unknown_name columns (names ++ rest)) (Some (UnknownName name)) ≡ unknown_name columns rest
known_step columns name names rest true more e = more e
known_step columns name names rest false more e = cc

-- where some names are columns', others decide
pub known_first : (columns : List ColumnDefinition) (names rest : List (List ℕ)) → unknown_name columns names ≡ None → unknown_name columns (names ++ rest) ≡ unknown_name columns rest
known_first columns [] rest e = refl
known_first columns (name ∷ names) rest e = known_step columns name names rest (is_named name columns) (λ f. known_first columns names rest f) e

unknown_step : (columns : List ColumnDefinition) (name : List ℕ) (names rest : List (List ℕ)) (refusal : Refusal) (b : Bool)
    → (unknown_name columns names ≡ Some refusal → unknown_name columns (names ++ rest) ≡ Some refusal)
    → cond b (unknown_name columns names) (Some (UnknownName name)) ≡ Some refusal → cond b (unknown_name columns (names ++ rest)) (Some (UnknownName name)) ≡ Some refusal
unknown_step columns name names rest refusal true more e = more e
unknown_step columns name names rest refusal false more e = e

-- and where one is not, no other does
pub unknown_first : (columns : List ColumnDefinition) (names rest : List (List ℕ)) (refusal : Refusal) → unknown_name columns names ≡ Some refusal → unknown_name columns (names ++ rest) ≡ Some refusal
unknown_first columns [] rest refusal e = cc
unknown_first columns (name ∷ names) rest refusal e = unknown_step columns name names rest refusal (is_named name columns) (λ f. unknown_first columns names rest refusal f) e
