-- Steps that may be refused, one after the other: the first refusal is the answer.
use Rattle.std.specs.Prelude.{ℕ, Bool, true, false, List, [], ◌∷◌, ◌++◌, Option, Some, None, Result, Ok, Err}
use Rattle.value.specs.declared.refusals.Refusal.{Refusal}
use Rattle.value.specs.declared.refusals.Refusal.TheVariants.{UnknownName}

-- goes on with what was answered; a refusal ends it
abbrev pub and_then : {A B : Type 0} → Result A Refusal → (A → Result B Refusal) → Result B Refusal
and_then (Ok a) next = next a
and_then (Err refusal) next = Err refusal

-- goes on, unless there is a fault
abbrev pub unless : {A : Type 0} → Option Refusal → Result A Refusal → Result A Refusal
unless None answer = answer
unless (Some fault) answer = Err fault

-- goes on where it holds, and else answers this refusal
abbrev pub if_holds : {A : Type 0} → Bool → Refusal → Result A Refusal → Result A Refusal
if_holds true refusal answer = answer
if_holds false refusal answer = Err refusal

-- something of this name, or the fault that there is none
abbrev pub result_of_name : {A : Type 0} → List ℕ → Option A → Result A Refusal
result_of_name name None = Err (UnknownName name)
result_of_name name (Some a) = Ok a

-- what each of several parts becomes, from the left
abbrev pub each : {X A : Type 0} → (X → Result A Refusal) → List X → Result (List A) Refusal
each make [] = Ok []
each make (x ∷ rest) = and_then (make x) (λ first. and_then (each make rest) (λ others. Ok (first ∷ others)))

-- what was made so far, and then the others
abbrev pub behind : {A : Type 0} → List A → Result (List A) Refusal → Result (List A) Refusal
behind made (Ok others) = Ok (made ++ others)
behind made (Err refusal) = Err refusal
