-- What an answer says of the tokens of a text.
use Rattle.std.specs.Prelude.{◌≡◌, ℕ, Result, Ok, Err}
use Rattle.value.specs.declared.refusals.Refusal.{Refusal}
use Rattle.value.specs.declared.refusals.Refusal.TheVariants as refusal
use Rattle.leaf_parser.specs.declared.stops.Stop.{Stop}
use Rattle.leaf_parser.specs.declared.stops.Stop.TheVariants as stop
use Rattle.syntax.specs.Language.{Lexemes, Language}
use Rattle.syntax.specs.Reading.{Outcome, Done, Fail, Deep}
use Rattle.syntax.specs.Answer.{IsWrong, IsTooDeep}
use Rattle.syntax.specs.Lexemes.{place}

-- how many parentheses may be open
abbrev pub most_open : ℕ
most_open = 64

-- A refusal names the first token that no text of the language has after the tokens before it, or the first
-- parenthesis too many.
abbrev pub IsRefusalOf : {A : Type 0} → Language A → ℕ → Lexemes → ℕ → Refusal → Type 0
IsRefusalOf L most ts end refusal.NoMemory = Unit {0}
IsRefusalOf L most ts end (refusal.Syntax at) = (rest : Lexemes) × IsWrong L most ts rest × (at ≡ place end rest)
IsRefusalOf L most ts end (refusal.TooDeep at) = (rest : Lexemes) × IsTooDeep L most ts rest × (at ≡ place end rest)
IsRefusalOf L most ts end _ = ⊥

-- this tree, unless memory ran out
abbrev pub Gave : {A : Type 0} → A → Result A Refusal → Type 0
Gave a (Ok x) = x ≡ a
Gave a (Err refusal.NoMemory) = Unit {0}
Gave a (Err _) = ⊥

-- what comes of the parts of this tree, unless memory ran out
abbrev pub GaveIn : {A C : Type 0} → (C → A → Type 0) → A → Result C Refusal → Type 0
GaveIn made_of a (Ok made) = made_of made a
GaveIn made_of a (Err refusal.NoMemory) = Unit {0}
GaveIn made_of a (Err _) = ⊥

-- the refusal of a text at which the parser stopped
abbrev pub refusal_of : ℕ → Stop → Refusal
refusal_of at stop.Memory = refusal.NoMemory
refusal_of at stop.Syntax = refusal.Syntax at
refusal_of at stop.Depth = refusal.TooDeep at

-- the outcome of a reader, told as an answer
abbrev pub IsOutcomeAs : {A : Type 0} → Outcome A → ℕ → Result A Refusal → Type 0
IsOutcomeAs outcome end (Ok a) = (rest : Lexemes) × (outcome ≡ (Done a, rest))
IsOutcomeAs outcome end (Err refusal.NoMemory) = Unit {0}
IsOutcomeAs outcome end (Err (refusal.Syntax at)) = (rest : Lexemes) × (outcome ≡ (Fail, rest)) × (at ≡ place end rest)
IsOutcomeAs outcome end (Err (refusal.TooDeep at)) = (rest : Lexemes) × (outcome ≡ (Deep, rest)) × (at ≡ place end rest)
IsOutcomeAs outcome end (Err _) = ⊥

-- the same of an answer that is made of what was read: there is a tree that was read, of which it is made
abbrev pub IsOutcomeIn : {A C : Type 0} → (C → A → Type 0) → Outcome A → ℕ → Result C Refusal → Type 0
IsOutcomeIn {A} {C} made_of outcome end (Ok made) = (a : A) × made_of made a × IsOutcomeAs {A = A} outcome end (Ok a)
IsOutcomeIn {A} {C} made_of outcome end (Err e) = IsOutcomeAs {A = A} outcome end (Err e)
