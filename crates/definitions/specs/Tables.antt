-- What CREATE TABLE defines.
use Rattle.std.specs.Prelude.{ℕ, suc, ◌==◌, Bool, not, ◌||◌, List, [], ◌∷◌, ◌++◌, position, Option, Some, None, Result, Ok, Err, if◌then◌else◌}
use Rattle.std.specs.List.{flat_map, list_any}
use Rattle.std.specs.Option.{option_and_then}
use Rattle.std.specs.Str.{bytes_eq}
use Rattle.value.specs.declared.refusals.Refusal.{Refusal}
use Rattle.value.specs.declared.refusals.Refusal.TheVariants.{NameTaken, OutsideClass, UnknownName}
use Rattle.table.specs.declared.schemas.Column.{Column}
use Rattle.table.specs.Rows.{Layout}
use Rattle.syntax.specs.declared.definitions.ColumnDefinition.{ColumnDefinition}
use Rattle.value.specs.Results.{unless}

-- a column as it was defined: a key takes no NULL
abbrev pub defined_column : (is_key : Bool) → ColumnDefinition → Column
defined_column is_key d = record { name = d.name; kind = d.kind; nullable = not (d.not_null || is_key) }

-- columns as they were defined, from a place on, of which that at `key` is the key
abbrev pub defined_from : (place : ℕ) → List ColumnDefinition → (key : ℕ) → List Column
defined_from place [] key = []
defined_from place (d ∷ rest) key = defined_column (place == key) d ∷ defined_from (suc place) rest key

-- columns as they were defined, with the place of the key
abbrev pub defined_columns : List ColumnDefinition → (key : ℕ) → List Column
defined_columns columns key = defined_from 0 columns key

-- whether one of the columns has the name
abbrev pub is_named : List ℕ → List ColumnDefinition → Bool
is_named name columns = list_any (λ d. bytes_eq d.name name) columns

-- the fault of the first column whose name stands before it
abbrev pub repeated_name : List ColumnDefinition → List ColumnDefinition → Option Refusal
repeated_name before [] = None
repeated_name before (d ∷ rest) =
    if is_named d.name before then Some (NameTaken d.name) else repeated_name (before ++ d ∷ []) rest

-- the fault of the first name that no column has
abbrev pub unknown_name : List ColumnDefinition → List (List ℕ) → Option Refusal
unknown_name columns [] = None
unknown_name columns (name ∷ rest) =
    if is_named name columns then unknown_name columns rest else Some (UnknownName name)

-- the one column of the one key, if there is one key, of one column
abbrev pub only_name : (keys : List (List (List ℕ))) → Option (List ℕ)
only_name ((name ∷ []) ∷ []) = Some name
only_name keys = None

-- the place of the key, if there is one key, of one column
abbrev pub only_key : List ColumnDefinition → (keys : List (List (List ℕ))) → Option ℕ
only_key columns keys = option_and_then (λ name. position (λ d. bytes_eq d.name name) columns) (only_name keys)

-- the columns with their key; without one they are outside the class
abbrev pub keyed_layout : List ColumnDefinition → Option ℕ → Result Layout Refusal
keyed_layout columns None = Err OutsideClass
keyed_layout columns (Some key) = Ok (record { columns = defined_columns columns key; key = key })

-- no name twice, each name in a PRIMARY KEY that of a column, and one key, of one column
abbrev pub layout_from : List ColumnDefinition → (keys : List (List (List ℕ))) → Result Layout Refusal
layout_from columns keys =
    unless (repeated_name [] columns) (
    unless (unknown_name columns (flat_map (λ names. names) keys)) (
    keyed_layout columns (only_key columns keys)))
