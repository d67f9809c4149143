-- The constants that stand for the numbers of a text, from the left.
use Rattle.std.specs.Prelude.{ℕ, ◌+◌, if◌then◌else◌, nat_lt, unsigned_abs, List, [], ◌∷◌, map, slice_get, Option, None, Some, Result, Ok, Err}
use Rattle.std.specs.Option.{option_map}
use Rattle.value.specs.declared.values.Value.{Value}
use Rattle.value.specs.declared.values.Value.TheVariants as v
use Rattle.value.specs.Texts.{is_plain}
use Rattle.syntax.specs.declared.trees.Expression.{Expression}
use Rattle.syntax.specs.declared.trees.Expression.TheVariants as e
use Rattle.syntax.specs.declared.statements.UpdateSource.{UpdateSource}
use Rattle.syntax.specs.declared.statements.UpdateSource.TheVariants as to
use Rattle.prepared.specs.declared.faults.FillFault.{FillFault}
use Rattle.prepared.specs.declared.faults.FillFault.TheVariants.{NullNotAllowed, NumberOutOfRange, TextNotPlain}

-- a value for a parameter, which is counted from 1
pub record Argument : Type 0 where
  pub parameter : ℕ
  pub value : Value

-- for each number that is left, what stands in its place, if it is a parameter
abbrev pub Constants : Type 0
Constants = List (Option Argument)

-- the value for a number of the text, if the number is a parameter
abbrev pub value_of : List Value → Option ℕ → Option Argument
value_of values None = None
value_of values (Some n) = option_map (λ value. record { parameter = n + 1; value = value }) (slice_get values n)

-- the values for these numbers, each of which may be a parameter
abbrev pub constants_of : List (Option ℕ) → List Value → Constants
constants_of numbers values = map (value_of values) numbers

-- what a part becomes with the constants that are left, and those that are left behind it; or the first fault
abbrev pub Filling : Type 0 → Type 0
Filling A = Constants → Result (A × Constants) FillFault

-- goes on with what was answered; a fault ends it
abbrev pub and_then : {A B : Type 0} → Result A FillFault → (A → Result B FillFault) → Result B FillFault
and_then (Ok a) next = next a
and_then (Err fault) next = Err fault

-- 10^15
abbrev pub largest_number : ℕ
largest_number = 1000000000000000

-- a value that is a constant of the language
abbrev pub constant_by : ℕ → Value → Result Value FillFault
constant_by parameter v.Null = Ok v.Null
constant_by parameter (v.Int n) =
    if nat_lt largest_number (unsigned_abs n) then Err (NumberOutOfRange parameter) else Ok (v.Int n)
constant_by parameter (v.Text t) = if is_plain t then Ok (v.Text t) else Err (TextNotPlain parameter)

-- a value as the constant that an INSERT puts in, or why it is none
abbrev pub constant_of : Argument → Result Value FillFault
constant_of given = constant_by given.parameter given.value

-- as an expression, of which none is NULL
abbrev pub expression_by : ℕ → Value → Result Expression FillFault
expression_by parameter v.Null = Err (NullNotAllowed parameter)
expression_by parameter (v.Int n) = Ok (e.Number n)
expression_by parameter (v.Text t) = Ok (e.Text t)

-- a value as an expression, or why it is none
abbrev pub expression_of : Argument → Result Expression FillFault
expression_of given = and_then (constant_of given) (expression_by given.parameter)

-- as what an UPDATE gives to a column
abbrev pub assigned_by : Value → UpdateSource
assigned_by v.Null = to.Null
assigned_by (v.Int n) = to.To (e.Number n)
assigned_by (v.Text t) = to.To (e.Text t)

-- a value as what an UPDATE gives to a column, or why it is none
abbrev pub assigned_of : Argument → Result UpdateSource FillFault
assigned_of given = and_then (constant_of given) (λ value. Ok (assigned_by value))

-- the first, and those behind it
abbrev pub first_and_rest : Constants → Option Argument × Constants
first_and_rest [] = (None, [])
first_and_rest (first ∷ rest) = (first, rest)

-- a number as it is written, or what is made of the value in its place
abbrev pub next_by : {A : Type 0} → (Argument → Result A FillFault) → A → Option Argument → Filling A
next_by make written None rest = Ok (written, rest)
next_by make written (Some given) rest = and_then (make given) (λ made. Ok (made, rest))

-- the next number
abbrev pub next : {A : Type 0} → (Argument → Result A FillFault) → A → Filling A
next make written constants = next_by make written (first_and_rest constants).0 (first_and_rest constants).1

-- a part without a number
abbrev pub same : {A : Type 0} → A → Filling A
same a constants = Ok (a, constants)

-- a part made into another
abbrev pub then_made : {A B : Type 0} → (A → B) → Result (A × Constants) FillFault → Result (B × Constants) FillFault
then_made make made = and_then made (λ m. Ok (make m.0, m.1))

-- two parts from the left
abbrev pub both : {A B C : Type 0} → (A → B → C) → Filling A → Filling B → Filling C
both make left right constants = and_then (left constants) (λ l. then_made (make l.0) (right l.1))

-- parts from the left
abbrev pub all : {A : Type 0} → List (Filling A) → Filling (List A)
all [] constants = Ok ([], constants)
all (part ∷ rest) constants =
    and_then (part constants) (λ first. then_made (λ others. first.0 ∷ others) (all rest first.1))

-- a part that may be missing
abbrev pub if_there : {A : Type 0} → Option (Filling A) → Filling (Option A)
if_there None constants = Ok (None, constants)
if_there (Some part) constants = then_made Some (part constants)
