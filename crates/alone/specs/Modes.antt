-- When the assertions are checked: modes, and what SET CONSTRAINTS makes of them.
use Rattle.std.specs.Prelude.{ℕ, Bool, true, false, not, List, map, filter, find, Option, Some, None, Result, Ok, Err, if◌then◌else◌}
use Rattle.std.specs.List.{list_any, zip}
use Rattle.std.specs.Str.{bytes_eq}
use Rattle.value.specs.declared.refusals.Refusal.{Refusal}
use Rattle.value.specs.declared.refusals.Refusal.TheVariants.{UnknownName, NotDeferrable}
use Rattle.value.specs.Results.{each}
use Rattle.syntax.specs.declared.statements.Mode.{Mode}
use Rattle.syntax.specs.declared.statements.Mode.TheVariants.{Deferred, Immediate}
use Rattle.syntax.specs.declared.statements.Which.{Which}
use Rattle.syntax.specs.declared.statements.Which.TheVariants.{All, Names}
use Rattle.assertion.specs.declared.assertions.Assertion.{Assertion}

-- for each assertion, in the order of their creation, whether it is immediate
abbrev pub Immediates : Type 0
Immediates = List Bool

-- whether a mode is IMMEDIATE
abbrev pub is_immediate : Mode → Bool
is_immediate Deferred = false
is_immediate Immediate = true

-- the mode of an assertion, by whether it is immediate
abbrev pub mode_of : Bool → Mode
mode_of true = Immediate
mode_of false = Deferred

-- the modes in which a transaction begins
abbrev pub initial_modes : List Assertion → Immediates
initial_modes assertions = map (λ a. not a.attributes.initially_deferred) assertions

-- whether a name is among some names
abbrev pub is_named : List (List ℕ) → List ℕ → Bool
is_named names name = list_any (λ other. bytes_eq other name) names

-- the mode of an assertion after those of some names are set
abbrev pub mode_with : List (List ℕ) → Bool → Assertion × Bool → Bool
mode_with names immediate before = if is_named names before.0.name then immediate else before.1

-- the modes after those of some names are set
abbrev pub modes_with : List (List ℕ) → Bool → List Assertion → Immediates → Immediates
modes_with names immediate assertions modes = map (mode_with names immediate) (zip assertions modes)

-- the assertions that are immediate
abbrev pub immediate_ones : Immediates → List Assertion → List Assertion
immediate_ones modes assertions = map (λ p. p.0) (filter (λ p. p.1) (zip assertions modes))

-- of each assertion the other mode
abbrev pub opposite_modes : Immediates → Immediates
opposite_modes modes = map not modes

-- the assertions that are deferred
abbrev pub deferred_ones : Immediates → List Assertion → List Assertion
deferred_ones modes assertions = immediate_ones (opposite_modes modes) assertions

-- the assertions of some names
abbrev pub named_ones : List (List ℕ) → List Assertion → List Assertion
named_ones names assertions = filter (λ a. is_named names a.name) assertions

-- all are immediate, and those of some names alone
abbrev pub all_immediate : List Assertion → Immediates
all_immediate assertions = map (λ a. true) assertions

-- those of some names are immediate, and no others
abbrev pub named_immediate : List (List ℕ) → List Assertion → Immediates
named_immediate names assertions = map (λ a. is_named names a.name) assertions

-- the assertion of a name
abbrev pub assertion_of : List ℕ → List Assertion → Option Assertion
assertion_of name assertions = find (λ a. bytes_eq a.name name) assertions

-- the name of an assertion whose mode may be set
abbrev pub settable : List ℕ → Option Assertion → Result (List ℕ) Refusal
settable name None = Err (UnknownName name)
settable name (Some a) = if a.attributes.deferrable then Ok name else Err (NotDeferrable name)

-- these names, if all may be set; they are tested one by one from the left
abbrev pub tested_names : List Assertion → List (List ℕ) → Result (List (List ℕ)) Refusal
tested_names assertions names = each (λ name. settable name (assertion_of name assertions)) names

-- the names of those that are deferrable
abbrev pub deferrable_names : List Assertion → List (List ℕ)
deferrable_names assertions = map (λ a. a.name) (filter (λ a. a.attributes.deferrable) assertions)

-- the names whose mode SET CONSTRAINTS sets: ALL means those that are deferrable
abbrev pub set_names : List Assertion → Which → Result (List (List ℕ)) Refusal
set_names assertions All = Ok (deferrable_names assertions)
set_names assertions (Names names) = tested_names assertions names
