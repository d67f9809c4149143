-- The assertions that a schema writes: each CREATE ASSERTION, and each constraint of a table.
use Rattle.std.specs.Prelude.{ℕ, Bool, true, false, List, [], ◌∷◌, map, Result, Ok, Err}
use Rattle.std.specs.List.{flat_map}
use Rattle.value.specs.declared.refusals.Refusal.{Refusal}
use Rattle.table.specs.Rows.{Tables}
use Rattle.syntax.specs.declared.trees.Condition.{Condition}
use Rattle.syntax.specs.declared.definitions.Attributes.{Attributes}
use Rattle.syntax.specs.declared.definitions.Constraint.{Constraint}
use Rattle.syntax.specs.declared.definitions.Constraint.TheVariants as constraint
use Rattle.syntax.specs.declared.definitions.Definition.{Definition}
use Rattle.syntax.specs.declared.definitions.Definition.TheVariants as definition
use Rattle.syntax.specs.declared.definitions.TableConstraint.{TableConstraint}
use Rattle.assertion.specs.declared.assertions.Assertion.{Assertion}
use Rattle.assertion.specs.Declarations.{Declared}
use Rattle.meaning.specs.Laws.{IsWritten, Pairs}
use Rattle.definitions.specs.Constraints.{constraint_name, each_is_there, no_two_agree, referenced_columns}

-- whether it is a CREATE ASSERTION
abbrev pub is_assertion : Definition → Bool
is_assertion (definition.Table t) = false
is_assertion (definition.Assertion name condition attributes) = true
is_assertion (definition.Insert insert) = false
is_assertion (definition.Index name table column) = false

-- an assertion as it is written
pub record WrittenAssertion : Type 0 where
  pub name : List ℕ
  pub condition : Condition
  pub attributes : Attributes

-- what was found, or nothing
abbrev pub found_or_none : Result (List (List ℕ)) Refusal → List (List ℕ)
found_or_none (Ok columns) = columns
found_or_none (Err refusal) = []

-- what a constraint of a table says
abbrev pub constraint_condition : Tables → (table : List ℕ) → Constraint → Condition
constraint_condition tables table (constraint.Unique columns) = no_two_agree table columns
constraint_condition tables table (constraint.Check column condition) = condition
constraint_condition tables table (constraint.ForeignKey key) =
    each_is_there table key (found_or_none (referenced_columns tables key))

-- the assertion that a constraint of a table writes
abbrev pub written_by : Tables → (table : List ℕ) → TableConstraint → WrittenAssertion
written_by tables table c = record {
  name = constraint_name table c;
  condition = constraint_condition tables table c.constraint;
  attributes = c.attributes;
}

-- the assertions that a definition writes
abbrev pub written_in : Tables → Definition → List WrittenAssertion
written_in tables (definition.Table t) = map (written_by tables t.name) t.constraints
written_in tables (definition.Assertion name condition attributes) =
    record { name = name; condition = condition; attributes = attributes } ∷ []
written_in tables (definition.Insert insert) = []
written_in tables (definition.Index name table column) = []

-- an assertion is the one that is written
abbrev pub IsAsWritten : Tables → WrittenAssertion → Assertion → Type 0
IsAsWritten tables w assertion = IsWritten tables w.name w.condition w.attributes assertion

-- there is an assertion for each CREATE ASSERTION and for each constraint of a table, in their order, which has its
-- name and means what is written
abbrev pub AreWritten : List Definition → Declared → Type 0
AreWritten definitions declared =
    Pairs (IsAsWritten declared.tables) (flat_map (written_in declared.tables) definitions) declared.assertions
