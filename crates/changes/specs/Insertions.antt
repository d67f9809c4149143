-- What a new row changes of a table, or why it is refused.
use Rattle.std.specs.Prelude.{ℕ, List, Result, Ok}
use Rattle.value.specs.declared.refusals.Refusal.{Refusal}
use Rattle.value.specs.Results.{and_then, unless}
use Rattle.table.specs.declared.rows.Change.{Change}
use Rattle.table.specs.Rows.{RowValues, Layout, value_in, row_at}
use Rattle.table.specs.Faults.{row_refusal}
use Rattle.siread.specs.declared.keys.Place.{Place}
use Rattle.syntax.specs.declared.statements.Insert.{Insert}
use Rattle.assertion.specs.Declarations.{layouts_in}
use Rattle.assertion.specs.Changes.{state_after_all}
use Rattle.assertcheck.specs.Statements.{insert_of}
use Rattle.alone.specs.Statements.{inserted_at, insertions}
use Rattle.delta.specs.Views.{ViewState}

-- where a new row of a table is to stand
abbrev pub place_for : ℕ → Layout → RowValues → Place
place_for table layout row = record { table = table; key = value_in layout.key row }

-- types, and NULLs and ranges by columns, and then the key
abbrev pub insertion_of : List ℕ → ℕ → Layout → List RowValues → RowValues → Result Change Refusal
insertion_of name table layout rows row =
    unless (row_refusal layout.columns row)
    (inserted_at name (place_for table layout row) row (row_at layout.key (value_in layout.key row) rows))

-- the tables with new rows of one of them
abbrev pub tables_with_rows : ℕ → List RowValues → ViewState → Result ViewState Refusal
tables_with_rows table rows now =
    and_then (insertions now.declared.tables table now.state rows) (λ changes.
    Ok (record now { state = state_after_all (layouts_in now.declared) changes now.state }))

-- INSERT, before any assertion is looked at: its names and types, and then its rows
abbrev pub tables_after_insert : ViewState → Insert → Result ViewState Refusal
tables_after_insert now insert =
    and_then (insert_of now.declared.tables insert) (λ new. tables_with_rows new.table new.rows now)
