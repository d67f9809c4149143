-- Statements with their names found, and what each does alone to the rows of a state.
use Rattle.std.specs.Prelude.{ℕ, Bool, true, ◌==◌, List, [], ◌∷◌, filter, length, map, Option, Some, None, Result, Ok, Err, slice_get, slice_index_or, slice_set, if◌then◌else◌}
use Rattle.std.specs.List.{list_any}
use Rattle.std.specs.Option.{option_or}
use Rattle.value.specs.declared.values.Value.{Value}
use Rattle.value.specs.declared.values.Value.TheVariants.{Null}
use Rattle.value.specs.declared.values.ColType.TheVariants.{Integer}
use Rattle.value.specs.declared.refusals.Refusal.{Refusal}
use Rattle.value.specs.declared.refusals.Refusal.TheVariants.{DuplicateKey, TypeMismatch}
use Rattle.table.specs.declared.schemas.Column.{Column}
use Rattle.table.specs.declared.rows.Change.{Change}
use Rattle.table.specs.Rows.{RowValues, Layout, Tables, value_in, layouts_of, names_of, key_of}
use Rattle.table.specs.Aggregates.{aggregate}
use Rattle.table.specs.Faults.{fault_in, is_typed, row_refusal}
use Rattle.table.specs.declared.exprs.Expr.{Expr}
use Rattle.table.specs.declared.conds.Cond.{Cond}
use Rattle.table.specs.Eval.{answer, keeps}
use Rattle.assertion.specs.Meaning.{State, rows_of, filtered_rows}
use Rattle.form_check.specs.declared.summaries.GroupCondition.{GroupCondition}
use Rattle.form_check.specs.declared.summaries.Summary.{Summary}
use Rattle.assertcheck.specs.declared.inserts.NewRows.{NewRows}
use Rattle.assertcheck.specs.declared.selects.Listing.{Listing}
use Rattle.assertcheck.specs.declared.selects.Listing.TheVariants.{EachRow, EachGroup}
use Rattle.assertcheck.specs.declared.updates.Setting.{Setting}
use Rattle.alone.specs.declared.answers.Reply.{Reply}
use Rattle.alone.specs.declared.answers.Reply.TheVariants.{Inserted, Updated, Deleted}
use Rattle.value.specs.Results.{and_then, unless}
use Rattle.siread.specs.declared.keys.Place.{Place}
use Rattle.alone.specs.Groups.{groups_of}
use Rattle.alone.specs.States.{row_in}
use Rattle.assertion.specs.Changes.{state_after}

-- what a statement does to the rows
pub record Effect : Type 0 where
  pub reply : Reply
  pub changes : List Change

-- the columns of the table at a place; none where there is no such table
abbrev pub columns_of : ℕ → List Layout → List Column
columns_of table layouts = (slice_index_or layouts table (record { columns = []; key = 0 })).columns

-- the place at which a new row of a table is to stand
abbrev pub place_in : List Layout → ℕ → RowValues → Place
place_in layouts table row = record { table = table; key = value_in (key_of table layouts) row }

-- the places at which the rows of an INSERT are to stand
abbrev pub places_in : List Layout → NewRows → List Place
places_in layouts new = map (place_in layouts new.table) new.rows

-- the row comes to stand at its key, if none stands there
abbrev pub inserted_at : List ℕ → Place → RowValues → Option RowValues → Result Change Refusal
inserted_at name place row None =
    Ok (record { table = place.table; key = place.key; old = None; new = Some row })
inserted_at name place row (Some other) = Err (DuplicateKey name place.key)

-- a new row of a table: types, NULLs and ranges by columns, and then the key
abbrev pub insertion : Tables → ℕ → State → RowValues → Result Change Refusal
insertion tables table state row =
    unless (row_refusal (columns_of table (layouts_of tables)) row)
    (inserted_at (slice_index_or (names_of tables) table []) (place_in (layouts_of tables) table row) row
    (row_in (layouts_of tables) state (place_in (layouts_of tables) table row)))

-- new rows of a table, each put in where those before it stand
abbrev pub insertions : Tables → ℕ → State → List RowValues → Result (List Change) Refusal
insertions tables table state [] = Ok []
insertions tables table state (row ∷ rest) =
    and_then (insertion tables table state row) (λ change.
    and_then (insertions tables table (state_after (layouts_of tables) change state) rest) (λ more.
    Ok (change ∷ more)))

-- INSERT: all of its rows, or none
abbrev pub insert_effect : Tables → NewRows → State → Result Effect Refusal
insert_effect tables new state =
    and_then (insertions tables new.table state new.rows) (λ changes.
    Ok (record { reply = Inserted (length new.rows); changes = changes }))

-- the change that takes a row of a table out
abbrev pub removal : (table key : ℕ) → RowValues → Change
removal table key row = record { table = table; key = value_in key row; old = Some row; new = None }

-- DELETE of the rows that its condition keeps
abbrev pub delete_effect : (table key : ℕ) → List RowValues → Effect
delete_effect table key rows = record { reply = Deleted (length rows); changes = map (removal table key) rows }

-- what stands for a column where there is none
abbrev pub no_column : Column
no_column = record { name = []; kind = Integer; nullable = true }

-- what a column gets: NULL, or an expression over the row as it was
abbrev pub given_value : RowValues → Option Expr → Value
given_value old None = Null
given_value old (Some value) = answer old [] value

-- what is wrong with a value that is given to a column: its type, which a checked UPDATE has right, and then NULL or
-- its range
abbrev pub given_fault : Option Column → Value → Option Refusal
given_fault None v = None
given_fault (Some column) v = if is_typed column.kind v then fault_in column v else Some TypeMismatch

-- the first fault of what a row is given, as the assignments are written
abbrev pub settings_fault : List Column → List Setting → RowValues → Option Refusal
settings_fault columns [] old = None
settings_fault columns (setting ∷ rest) old =
    option_or (given_fault (slice_get columns setting.column) (given_value old setting.value))
    (settings_fault columns rest old)

-- and of some rows, row by row
abbrev pub update_fault : List Column → List Setting → List RowValues → Option Refusal
update_fault columns sets [] = None
update_fault columns sets (row ∷ rest) = option_or (settings_fault columns sets row) (update_fault columns sets rest)

-- the row with what it is given, each value evaluated on the row as it was
abbrev pub row_after_settings : List Setting → RowValues → RowValues → RowValues
row_after_settings [] old row = row
row_after_settings (setting ∷ rest) old row =
    row_after_settings rest old (slice_set row setting.column (given_value old setting.value))

-- the change that gives a row of a table its new values
abbrev pub renewal : (table key : ℕ) → List Setting → RowValues → Change
renewal table key sets row =
    record { table = table; key = value_in key row; old = Some row; new = Some (row_after_settings sets row row) }

-- UPDATE of the rows that its condition keeps
abbrev pub update_effect : List Column → (table key : ℕ) → List Setting → List RowValues → Result Effect Refusal
update_effect columns table key sets rows =
    unless (update_fault columns sets rows)
    (Ok (record { reply = Updated (length rows); changes = map (renewal table key sets) rows }))

-- whether the key is given a value; a checked UPDATE doesn't do that
abbrev pub sets_key : ℕ → List Setting → Bool
sets_key key sets = list_any (λ setting. setting.column == key) sets

-- the first of some rows; those of a group are alike in the columns of GROUP BY
abbrev pub first_row : List RowValues → RowValues
first_row [] = []
first_row (row ∷ rows) = row

-- what an expression gives of a group of rows: the value of each set function of them stands in its slot (6.5)
abbrev pub summary_value : List RowValues → Summary → Value
summary_value rows summary = answer (first_row rows) (map (λ a. aggregate a rows) summary.aggregates) summary.value

-- whether HAVING, if it is written, is true of a group of rows (7.8)
abbrev pub is_kept : Option GroupCondition → List RowValues → Bool
is_kept None rows = true
is_kept (Some having) rows = keeps (first_row rows) (map (λ a. aggregate a rows) having.aggregates) having.condition

-- what a SELECT lists of the rows that its condition keeps: values of each row, or of each group that HAVING keeps (7.9)
abbrev pub listed_rows : Listing → List RowValues → List RowValues
listed_rows (EachRow values) rows = map (λ row. map (answer row []) values) rows
listed_rows (EachGroup grouping) rows =
    map (λ group. map (summary_value group) grouping.values) (
    filter (is_kept grouping.having) (groups_of grouping.columns rows))

-- the rows of a table that a condition keeps, in key order
abbrev pub found_rows : State → ℕ → Cond → List RowValues
found_rows state table restriction = filtered_rows restriction (rows_of table state)
