-- Tables with the commits of a journal put in.
use Rattle.std.specs.Prelude.{◌≡◌, Bool, true, ◌&&◌, List, [], ◌∷◌, length, nat_lt, Option, Some, None, if◌then◌else◌}
use Rattle.std.specs.Option.{is_none, option_and_then}
use Rattle.value.specs.declared.values.Value.{Value}
use Rattle.table.specs.declared.rows.Change.{Change}
use Rattle.table.specs.Faults.{row_refusal}
use Rattle.table.specs.Rows.{Layout, RowValues, key_of, layout_at, row_at, value_in}
use Rattle.assertion.specs.Changes.{state_after}
use Rattle.assertion.specs.Meaning.{State, rows_of}
use Rattle.siread.specs.Keys.{same_value}
use Rattle.alone.specs.States.{same_there}
use Rattle.alone.specs.declared.records.Record.{Record}
use Rattle.journal.specs.declared.entries.Entry.{Entry}

-- a new row, if there is one, is one that an INSERT would take, and has this key
abbrev pub is_row_for : Layout → Value → Option RowValues → Bool
is_row_for layout key None = true
is_row_for layout key (Some row) =
    is_none (row_refusal layout.columns row) && same_value (value_in layout.key row) key

-- a change may be put into tables: its table is there, its old row stands under its key, and its new row is one for it
abbrev pub is_due : List Layout → Change → State → Bool
is_due layouts change state =
    nat_lt change.table (length state)
    && (same_there (row_at (key_of change.table layouts) change.key (rows_of change.table state)) change.old
    && is_row_for (layout_at change.table layouts) change.key change.new)

-- the tables with changes put in one after the other, if each may be
abbrev pub restored_changes : List Layout → List Change → State → Option State
restored_changes layouts [] state = Some state
restored_changes layouts (change ∷ changes) state =
    if is_due layouts change state then restored_changes layouts changes (state_after layouts change state) else None

-- the tables with the changes of entries put in, one entry after the other, if each change may be
abbrev pub restored : List Layout → List Entry → State → Option State
restored layouts [] state = Some state
restored layouts (entry ∷ entries) state =
    option_and_then (restored layouts entries) (restored_changes layouts entry.changes state)

-- an entry is of a commit: it has its net change
abbrev pub IsOf : Record → Entry → Type 0
IsOf commit entry = entry.changes ≡ commit.changes
