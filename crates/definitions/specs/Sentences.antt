-- What the constraints of a table say, in the standard's words and over plain rows (11.7 to 11.9).
use Rattle.std.specs.Prelude.{◌≡◌, ◌≢◌, ◌↔◌, ℕ, Bool, true, List, [], ◌∷◌, length, map, slice_get, Contains, Some}
use Rattle.std.specs.List.{list_all}
use Rattle.value.specs.declared.values.Value.{Value}
use Rattle.value.specs.declared.truths.Truth.TheVariants.{False}
use Rattle.table.specs.Rows.{Layout, RowValues, Tables, column_of, layout_of, position_of, value_in}
use Rattle.table.specs.Aggregates.{is_there}
use Rattle.syntax.specs.declared.trees.Condition.{Condition}
use Rattle.syntax.specs.declared.definitions.ForeignKey.{ForeignKey}
use Rattle.syntax.specs.SchemaGrammar.{is_false_of_no_row}
use Rattle.assertion.specs.Meaning.{State, rows_of}
use Rattle.meaning.specs.Meaning.{Reference, truth, written_truth}
use Rattle.definitions.specs.Constraints.{each_is_there, no_two_agree}

-- the values of a row in some columns, by their places
abbrev pub values_in_all : (places : List ℕ) → RowValues → List Value
values_in_all places row = map (λ place. value_in place row) places

-- whether a row has NULL in none of some columns
abbrev pub is_whole : (places : List ℕ) → RowValues → Bool
is_whole places row = list_all is_there (values_in_all places row)

-- no two rows agree in all of the columns, with no NULL among them (8.9)
abbrev pub NoTwoAgree : (places : List ℕ) → List RowValues → Type 0
NoTwoAgree places rows = (i j : ℕ) (row other : RowValues) → slice_get rows i ≡ Some row → slice_get rows j ≡ Some other
    → is_whole places row ≡ true → values_in_all places row ≡ values_in_all places other → i ≡ j

-- each row has a NULL among the columns, or a row of another table agrees with it in columns of that (11.8)
abbrev pub EachRefers : (places others : List ℕ) → (rows other_rows : List RowValues) → Type 0
EachRefers places others rows other_rows = (row : RowValues) → Contains rows row → is_whole places row ≡ true
    → (other : RowValues) × Contains other_rows other × (values_in_all others other ≡ values_in_all places row)

-- a table of some tables: its columns, its place, and the places of some of its columns
pub record Stands (tables : Tables) (table : List ℕ) (columns : List (List ℕ)) : Type 0 where
  pub layout : Layout
  pub at : ℕ
  pub places : List ℕ
  pub is : layout_of table tables ≡ Some layout
  pub stands : position_of table tables ≡ Some at
  pub found : map (λ column. column_of column layout.columns) columns ≡ map Some places

-- a row at hand of a table that goes by its own name
abbrev pub at_hand : (table : List ℕ) → Layout → RowValues → Reference
at_hand table layout row =
    record { table = record { exposed_name = table; layout = layout }; rows = row ∷ [] }

-- UNIQUE is satisfied exactly where no two rows have one value in its column
abbrev pub UniqueSays : Type 0
UniqueSays = (tables : Tables) (state : State) (table column : List ℕ) (t : Stands tables table (column ∷ []))
    → (written_truth tables state (no_two_agree table (column ∷ [])) ≢ False) ↔ NoTwoAgree t.places (rows_of t.at state)

-- CHECK is satisfied exactly where its condition is false of no row (11.9)
abbrev pub CheckSays : Type 0
CheckSays = (tables : Tables) (state : State) (table : List ℕ) (condition : Condition) (t : Stands tables table [])
    → (written_truth tables state (is_false_of_no_row table condition) ≢ False)
    ↔ ((row : RowValues) → Contains (rows_of t.at state) row
    → truth tables state condition (at_hand table t.layout row ∷ []) ≢ False)

-- FOREIGN KEY is satisfied exactly where each row refers to one, or to nothing
abbrev pub ForeignKeySays : Type 0
ForeignKeySays = (tables : Tables) (state : State) (table : List ℕ) (key : ForeignKey) (referenced : List (List ℕ))
    (t : Stands tables table key.columns) (other : Stands tables key.table referenced)
    → length referenced ≡ length key.columns → (written_truth tables state (each_is_there table key referenced) ≢ False)
    ↔ EachRefers t.places other.places (rows_of t.at state) (rows_of other.at state)
