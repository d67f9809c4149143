-- What definitions define, taken in one after the other: tables, assertions, and the rows that the tables begin with.
use Rattle.std.specs.Prelude.{ℕ, Bool, not, List, [], ◌∷◌, ◌++◌, is_none, is_some, Option, Some, None, Result, Ok, if◌then◌else◌}
use Rattle.std.specs.List.{list_any}
use Rattle.std.specs.Str.{bytes_eq}
use Rattle.value.specs.declared.refusals.Refusal.{Refusal}
use Rattle.value.specs.declared.refusals.Refusal.TheVariants.{NameTaken, UnknownName}
use Rattle.table.specs.Rows.{layout_of, column_of}
use Rattle.syntax.specs.declared.trees.Condition.{Condition}
use Rattle.syntax.specs.declared.definitions.Attributes.{Attributes}
use Rattle.syntax.specs.declared.definitions.ColumnDefinition.{ColumnDefinition}
use Rattle.syntax.specs.declared.definitions.TableConstraint.{TableConstraint}
use Rattle.syntax.specs.declared.definitions.TableDefinition.{TableDefinition}
use Rattle.syntax.specs.declared.definitions.Definition.{Definition}
use Rattle.syntax.specs.declared.definitions.Definition.TheVariants as definition
use Rattle.assertion.specs.declared.assertions.Assertion.{Assertion}
use Rattle.delta.specs.Views.{ViewState}
use Rattle.changes.specs.Insertions.{tables_after_insert}
use Rattle.value.specs.Results.{and_then, if_holds, unless}
use Rattle.assertcheck.specs.Assertions.{checked_assertion}
use Rattle.assertcheck.specs.Conditions.{target_of}
use Rattle.definitions.specs.declared.constraints.UniqueColumns.{UniqueColumns}
use Rattle.definitions.specs.Constraints.{condition_of, constraint_name, unique_in}
use Rattle.definitions.specs.Tables.{layout_from}

-- before the first definition: no table, no assertion, no row
abbrev pub empty_database : ViewState
empty_database = record { declared = record { tables = []; assertions = [] }; state = [] }

-- a table of which nothing is asked: its name is free among the tables
abbrev pub with_table : List ℕ → List ColumnDefinition → (keys : List (List (List ℕ))) → ViewState
    → Result ViewState Refusal
with_table name columns keys now =
    if_holds (is_none (layout_of name now.declared.tables)) (NameTaken name) (
    and_then (layout_from columns keys) (λ layout. Ok (record {
      declared = record (now.declared) { tables = now.declared.tables ++ (name, layout) ∷ [] };
      state = now.state ++ [] ∷ [];
    })))

-- whether an assertion has the name
abbrev pub is_asserted : List ℕ → List Assertion → Bool
is_asserted name assertions = list_any (λ a. bytes_eq a.name name) assertions

-- CREATE ASSERTION: its name is free among the assertions
abbrev pub with_assertion : List ℕ → Condition → Attributes → ViewState → Result ViewState Refusal
with_assertion name condition attributes now =
    if_holds (not (is_asserted name now.declared.assertions)) (NameTaken name) (
    and_then (checked_assertion now.declared.tables name condition attributes)
    (λ a. Ok (record now { declared = record (now.declared) { assertions = now.declared.assertions ++ a ∷ [] } })))

-- the assertion of a constraint of a table
abbrev pub with_constraint : List UniqueColumns → (table : List ℕ) → TableConstraint → ViewState
    → Result ViewState Refusal
with_constraint unique table c now =
    and_then (condition_of now.declared.tables unique table c.constraint) (λ condition.
    with_assertion (constraint_name table c) condition c.attributes now)

-- those of several, in their order
abbrev pub with_constraints : List UniqueColumns → (table : List ℕ) → List TableConstraint → ViewState
    → Result ViewState Refusal
with_constraints unique table [] now = Ok now
with_constraints unique table (c ∷ rest) now =
    and_then (with_constraint unique table c now) (with_constraints unique table rest)

-- CREATE TABLE: the table, and behind it the assertion of each of its constraints
abbrev pub with_constrained_table : List UniqueColumns → TableDefinition → ViewState → Result ViewState Refusal
with_constrained_table unique t now =
    and_then (with_table t.name t.columns t.keys now) (with_constraints unique t.name t.constraints)

-- CREATE INDEX: its table is there, and has the column. It changes nothing
abbrev pub with_index : List ℕ → List ℕ → ViewState → Result ViewState Refusal
with_index table column now =
    and_then (target_of now.declared.tables table) (λ target.
    if_holds (is_some (column_of column target.scope.layout.columns)) (UnknownName column) (Ok now))

-- one definition, with the columns under UNIQUE up to it; no assertion is looked at where a row is put in
abbrev pub with_definition : List UniqueColumns → Definition → ViewState → Result ViewState Refusal
with_definition unique (definition.Table t) now = with_constrained_table unique t now
with_definition unique (definition.Assertion name condition attributes) now =
    with_assertion name condition attributes now
with_definition unique (definition.Insert insert) now = tables_after_insert now insert
with_definition unique (definition.Index name table column) now = with_index table column now

-- what the definitions so far define, the names of their indexes, and the columns of their tables under UNIQUE
pub record Taken : Type 0 where
  pub shown : ViewState
  pub indexes : List (List ℕ)
  pub unique : List UniqueColumns

-- the index that a definition creates, if it creates one
abbrev pub index_in : Definition → List (List ℕ)
index_in (definition.Table t) = []
index_in (definition.Assertion name condition attributes) = []
index_in (definition.Insert insert) = []
index_in (definition.Index name table column) = name ∷ []

-- the fault of an index whose name another index has
abbrev pub index_fault : List (List ℕ) → Definition → Option Refusal
index_fault names (definition.Table t) = None
index_fault names (definition.Assertion name condition attributes) = None
index_fault names (definition.Insert insert) = None
index_fault names (definition.Index name table column) =
    if list_any (λ other. bytes_eq other name) names then Some (NameTaken name) else None

-- one definition more
abbrev pub taken_with : Definition → Taken → Result Taken Refusal
taken_with d taken =
    unless (index_fault taken.indexes d) (
    let unique = taken.unique ++ unique_in d in
    and_then (with_definition unique d taken.shown)
    (λ shown. Ok (record { shown = shown; indexes = taken.indexes ++ index_in d; unique = unique })))

-- several, in their order
abbrev pub with_all : List Definition → Taken → Result Taken Refusal
with_all [] taken = Ok taken
with_all (d ∷ rest) taken = and_then (taken_with d taken) (with_all rest)

-- before the first definition
abbrev pub nothing_taken : Taken
nothing_taken = record { shown = empty_database; indexes = []; unique = [] }

-- what definitions define, with the names of their indexes, or their first fault in the order in which they stand
abbrev pub taken_of : List Definition → Result Taken Refusal
taken_of definitions = with_all definitions nothing_taken

-- what definitions define, or their first fault
abbrev pub view_of_definitions : List Definition → Result ViewState Refusal
view_of_definitions definitions = and_then (taken_of definitions) (λ taken. Ok taken.shown)
