-- What is declared of tables that there are changes: assertions are dropped, and others created.
use Rattle.std.specs.Prelude.{◌≡◌, ◌++◌, ℕ, List, [], ◌∷◌, Result, Ok}
use Rattle.value.specs.declared.refusals.Refusal.{Refusal}
use Rattle.value.specs.declared.refusals.Refusal.TheVariants.{UnknownName}
use Rattle.value.specs.Results.{and_then, if_holds}
use Rattle.table.specs.Rows.{Tables}
use Rattle.syntax.specs.declared.definitions.Definition.{Definition}
use Rattle.syntax.specs.declared.definitions.Definition.TheVariants as definition
use Rattle.assertion.specs.declared.assertions.Assertion.{Assertion}
use Rattle.meaning.specs.Laws.{IsWritten, Pairs}
use Rattle.delta.specs.Views.{ViewState, without_assertion}
use Rattle.definitions.specs.declared.redeclaration.NewAssertion.{NewAssertion}
use Rattle.definitions.specs.Taken.{is_asserted, with_assertion}

-- the definition that creates an assertion
abbrev pub definition_of : NewAssertion → Definition
definition_of new = definition.Assertion new.name new.condition new.attributes

-- DROP ASSERTION: there is one of the name
abbrev pub without_name : (name : List ℕ) → ViewState → Result ViewState Refusal
without_name name now =
    if_holds (is_asserted name now.declared.assertions) (UnknownName name)
    (Ok (record now { declared = without_assertion name now.declared }))

-- DROP ASSERTION of each of some names, from the left
abbrev pub without_names : (names : List (List ℕ)) → ViewState → Result ViewState Refusal
without_names [] now = Ok now
without_names (name ∷ rest) now = and_then (without_name name now) (without_names rest)

-- CREATE ASSERTION, as in a schema
abbrev pub with_new : List NewAssertion → ViewState → Result ViewState Refusal
with_new [] now = Ok now
with_new (new ∷ rest) now = and_then (with_assertion new.name new.condition new.attributes now) (with_new rest)

-- first the assertions of some names are dropped, and then new ones are created
abbrev pub redeclaration : (dropped : List (List ℕ)) → (created : List NewAssertion) → ViewState
    → Result ViewState Refusal
redeclaration dropped created now = and_then (without_names dropped now) (with_new created)

-- an assertion is the one that is written
abbrev pub IsCreated : Tables → NewAssertion → Assertion → Type 0
IsCreated tables new assertion = IsWritten tables new.name new.condition new.attributes assertion

-- Behind the assertions that are left there is one for each that is created, in their order, which has its name and
-- means what is written. The tables and their rows are as before.
pub record AreCreated (left : ViewState) (created : List NewAssertion) (after : ViewState) : Type 0 where
  pub more : List Assertion
  pub assertions : after.declared.assertions ≡ left.declared.assertions ++ more
  pub written : Pairs (IsCreated left.declared.tables) created more
  pub tables : after.declared.tables ≡ left.declared.tables
  pub state : after.state ≡ left.state
