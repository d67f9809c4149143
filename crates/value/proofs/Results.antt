-- Steps that went on, and lists that are made one item after the other.
use Rattle.std.proofs.Common.{◌≡◌, Bool, true, false, ℕ, List, [], ◌∷◌, ◌++◌, Option, Some, None, Result, Ok, Err, refl, ap, sym}
use Rattle.std.proofs.lemmas.List.{append_assoc}
use Rattle.value.specs.declared.refusals.Refusal.{Refusal}
use Rattle.value.specs.Results.{and_then, behind, result_of_name, if_holds, unless}

-- what an answer holds
abbrev of_ok : {A : Type 0} → A → Result A Refusal → A
of_ok other (Ok a) = a
of_ok other (Err refusal) = other

pub ok_same : {A : Type 0} (a b : A) → ◌≡◌ {A = Result A Refusal} (Ok a) (Ok b) → a ≡ b
ok_same {A = A} a b e = ap (λ (r : Result A Refusal). of_ok a r) e

pub and_then_ok : {A B : Type 0} (r : Result A Refusal) (next : A → Result B Refusal) (b : B) → and_then r next ≡ Ok b → (a : A) × ((r ≡ Ok a) × (next a ≡ Ok b))
and_then_ok (Ok a) next b e = (a, (refl, e))
and_then_ok (Err refusal) next b e = cc

pub provided_is : {A : Type 0} (c : Bool) (refusal : Refusal) (r : Result A Refusal) (a : A) → if_holds c refusal r ≡ Ok a → (c ≡ true) × (r ≡ Ok a)
provided_is true refusal r a e = (refl, e)
provided_is false refusal r a e = cc

pub provided_ok : {A : Type 0} (c : Bool) (refusal : Refusal) (r : Result A Refusal) (a : A) → if_holds c refusal r ≡ Ok a → r ≡ Ok a
provided_ok c refusal r a e = (provided_is c refusal r a e).1

pub unless_is : {A : Type 0} (fault : Option Refusal) (r : Result A Refusal) (a : A) → unless fault r ≡ Ok a → (fault ≡ None) × (r ≡ Ok a)
unless_is None r a e = (refl, e)
unless_is (Some fault) r a e = cc

pub unless_ok : {A : Type 0} (fault : Option Refusal) (r : Result A Refusal) (a : A) → unless fault r ≡ Ok a → r ≡ Ok a
unless_ok fault r a e = (unless_is fault r a e).1

pub found_ok : {A : Type 0} (name : List ℕ) (o : Option A) (a : A) → result_of_name name o ≡ Ok a → o ≡ Some a
found_ok name None a e = cc
found_ok name (Some x) a e = ap (λ y. let o : Option _ = Some y in o) (ok_same x a e)

-- an item behind those made so far, and then the others
pub behind_next : {A : Type 0} (made : List A) (item : A) (rest : Result (List A) Refusal)
    → behind made (and_then rest (λ others. Ok (item ∷ others))) ≡ behind (made ++ item ∷ []) rest
behind_next made item (Ok rest) = ap (λ items. Ok items) (sym (append_assoc made (item ∷ []) rest))
behind_next made item (Err refusal) = refl

-- nothing made so far
pub behind_none : {A : Type 0} (rest : Result (List A) Refusal) → behind [] rest ≡ rest
behind_none (Ok rest) = refl
behind_none (Err refusal) = refl
