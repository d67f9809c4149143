-- Statements with their names found, or their first fault.
use Rattle.std.specs.Prelude.{ℕ, ◌==◌, List, [], ◌∷◌, ◌++◌, ◌+◌, length, position, Option, Some, None, Result, Ok, Err, slice_index_or, if◌then◌else◌}
use Rattle.std.specs.List.{list_any}
use Rattle.value.specs.declared.values.Value.{Value}
use Rattle.value.specs.declared.values.Value.TheVariants.{Null}
use Rattle.value.specs.declared.refusals.Refusal.{Refusal}
use Rattle.value.specs.declared.refusals.Refusal.TheVariants.{NameTaken, TypeMismatch}
use Rattle.table.specs.declared.schemas.Column.{Column}
use Rattle.table.specs.Rows.{RowValues, Tables, column_of}
use Rattle.table.specs.Faults.{are_typed}
use Rattle.syntax.specs.declared.trees.Condition.{Condition}
use Rattle.syntax.specs.declared.statements.Insert.{Insert}
use Rattle.value.specs.Results.{and_then, each, result_of_name, if_holds}
use Rattle.form_check.specs.Queries.{Source}
use Rattle.assertcheck.specs.declared.deletes.Delete.{Delete}
use Rattle.assertcheck.specs.declared.inserts.NewRows.{NewRows}
use Rattle.assertcheck.specs.Conditions.{target_of, filter_of}

-- DELETE
abbrev pub delete_of : Tables → List ℕ → Option Condition → Result Delete Refusal
delete_of tables name condition =
    and_then (target_of tables name) (λ target.
    and_then (filter_of tables target.scope condition) (λ restriction.
    Ok (record { table = target.table; filter = restriction })))

-- the column of a name
abbrev pub named_column : List Column → List ℕ → Result ℕ Refusal
named_column columns name = result_of_name name (column_of name columns)

-- the column of a name, if it isn't among those before it
abbrev pub unlisted_column : List ℕ → List ℕ → ℕ → Result ℕ Refusal
unlisted_column before name column = if list_any (λ place. place == column) before then Err (NameTaken name)
    else Ok column

-- the column of a name, if there is one and it isn't listed before
abbrev pub new_place : List Column → List ℕ → List ℕ → Result ℕ Refusal
new_place columns before name = and_then (named_column columns name) (unlisted_column before name)

-- the columns of these names from the left, none of them twice
abbrev pub places_of : List Column → List ℕ → List (List ℕ) → Result (List ℕ) Refusal
places_of columns before [] = Ok before
places_of columns before (name ∷ names) =
    and_then (new_place columns before name) (λ new. places_of columns (before ++ new ∷ []) names)

-- the places of all columns, from one on
abbrev pub places_from : ℕ → List Column → List ℕ
places_from place [] = []
places_from place (column ∷ columns) = place ∷ places_from (place + 1) columns

-- the columns that an INSERT lists; without a list all of them in the table's order
abbrev pub listed_places : List Column → Option (List (List ℕ)) → Result (List ℕ) Refusal
listed_places columns None = Ok (places_from 0 columns)
listed_places columns (Some names) = places_of columns [] names

-- what an INSERT gives to a column: NULL where it isn't listed
abbrev pub value_at : List Value → Option ℕ → Value
value_at values None = Null
value_at values (Some place) = slice_index_or values place Null

-- what an INSERT gives to a column, by the places that it lists and its values
abbrev pub given_to : List ℕ → List Value → ℕ → Value
given_to places values column = value_at values (position (λ place. place == column) places)

-- what it gives to the columns from a place on
abbrev pub row_from : ℕ → List Column → List ℕ → List Value → RowValues
row_from place [] places values = []
row_from place (column ∷ columns) places values =
    given_to places values place ∷ row_from (place + 1) columns places values

-- the whole row
abbrev pub row_of : List Column → List ℕ → List Value → RowValues
row_of columns places values = row_from 0 columns places values

-- a row of an INSERT, if it gives as many values as there are columns listed, each of its column's type
abbrev pub typed_row : List Column → List ℕ → List Value → Result RowValues Refusal
typed_row columns places values =
    if_holds (length values == length places) TypeMismatch (
    if_holds (are_typed columns (row_of columns places values)) TypeMismatch (
    Ok (row_of columns places values)))

-- all rows of an INSERT into a table
abbrev pub typed_rows : Source → List ℕ → List (List Value) → Result NewRows Refusal
typed_rows target places rows =
    and_then (each (typed_row target.scope.layout.columns places) rows) (λ typed.
    Ok (record { table = target.table; rows = typed }))

-- INSERT: the table, the listed columns, and of each row how many values there are, and their types
abbrev pub insert_of : Tables → Insert → Result NewRows Refusal
insert_of tables insert =
    and_then (target_of tables insert.table) (λ target.
    and_then (listed_places target.scope.layout.columns insert.columns) (λ places.
    typed_rows target places insert.rows))
