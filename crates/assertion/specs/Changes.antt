-- What a change of a state is, and what it leaves.
use Rattle.std.specs.Prelude.{◌≡◌, ℕ, ◌<◌, List, [], ◌∷◌, length, slice_set}
use Rattle.value.specs.ValueOrder.{value_cmp}
use Rattle.value.specs.Ordered as ordered
use Rattle.table.specs.declared.rows.Change.{Change}
use Rattle.table.specs.Rows.{Layout, key_of, put_row, row_at, value_in}
use Rattle.assertion.specs.Meaning.{State, rows_of}

-- each table's rows are in key order
abbrev pub IsOrdered : List Layout → State → Type 0
IsOrdered layouts state =
    (table : ℕ) → ordered.IsAscending value_cmp (value_in (key_of table layouts)) (rows_of table state)

-- the change is of a table of the state: its old row stands under its key, and its new row has that key
pub record IsChangeOf (layouts : List Layout) (change : Change) (state : State) : Type 0 where
  pub table_in : change.table < length state
  pub stands : row_at (key_of change.table layouts) change.key (rows_of change.table state) ≡ change.old
  pub keyed : ordered.HasKey value_cmp (value_in (key_of change.table layouts)) change.key change.new

-- the state after a change
abbrev pub state_after : List Layout → Change → State → State
state_after layouts change state =
    slice_set state change.table
    (put_row (key_of change.table layouts) change.key change.new (rows_of change.table state))

-- the state after changes one after the other
abbrev pub state_after_all : List Layout → List Change → State → State
state_after_all layouts [] state = state
state_after_all layouts (change ∷ changes) state = state_after_all layouts changes (state_after layouts change state)

-- each change is one of the state that those before it leave
abbrev pub AreChangesOf : List Layout → List Change → State → Type 0
AreChangesOf layouts [] state = Unit {0}
AreChangesOf layouts (change ∷ changes) state =
    IsChangeOf layouts change state × AreChangesOf layouts changes (state_after layouts change state)
