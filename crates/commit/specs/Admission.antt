-- Definitions are admitted where no assertion is false on the tables that they begin with.
use Rattle.std.specs.Prelude.{List, Option, Some, None, Result, Ok}
use Rattle.value.specs.declared.refusals.Refusal.{Refusal}
use Rattle.value.specs.declared.refusals.Refusal.TheVariants.{FalseAtCreation, Violated}
use Rattle.assertion.specs.Declarations.{layouts_in}
use Rattle.syntax.specs.declared.definitions.Definition.{Definition}
use Rattle.value.specs.Results.{and_then, unless}
use Rattle.alone.specs.Checks.{violation}
use Rattle.delta.specs.Views.{ViewState}
use Rattle.definitions.specs.Taken.{view_of_definitions}

-- a violation as it is answered to definitions
abbrev pub at_creation : Refusal → Refusal
at_creation (Violated name root) = FalseAtCreation name root
at_creation refusal = refusal

-- the same, if there is a violation
abbrev pub refusal_at_creation : Option Refusal → Option Refusal
refusal_at_creation None = None
refusal_at_creation (Some refusal) = Some (at_creation refusal)

-- the refusal by the first false assertion, with its least bad root
abbrev pub false_at_creation : ViewState → Option Refusal
false_at_creation shown = refusal_at_creation
    (violation (layouts_in shown.declared) shown.declared.assertions shown.state)

-- the tables that definitions begin with, if every assertion is satisfied on them
abbrev pub tables_if_satisfied : ViewState → Result ViewState Refusal
tables_if_satisfied shown = unless (false_at_creation shown) (Ok shown)

-- what definitions define, and then the assertions on the rows that are loaded
abbrev pub admission_of : List Definition → Result ViewState Refusal
admission_of definitions = and_then (view_of_definitions definitions) tables_if_satisfied
