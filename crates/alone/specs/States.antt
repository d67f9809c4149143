-- What stands at a place of a state, and the net change between two states.
use Rattle.std.specs.Ordering.{nat_cmp, ordering_then}
use Rattle.std.specs.declared.cmp.Ordering.{Ordering}
use Rattle.std.specs.Prelude.{◌≡◌, ◌⊎◌, Contains, ◌<◌, ℕ, Bool, true, false, not, ◌&&◌, List, [], ◌∷◌, ◌++◌, length, map, filter, flat_map, Option, Some, None}
use Rattle.std.specs.List.{range_with_len}
use Rattle.value.specs.declared.values.Value.{Value}
use Rattle.value.specs.ValueOrder.{value_cmp}
use Rattle.value.specs.Ordered as ordered
use Rattle.table.specs.declared.rows.Change.{Change}
use Rattle.table.specs.Rows.{RowValues, Layout, value_in, row_at, key_of}
use Rattle.assertion.specs.Meaning.{State, rows_of}
use Rattle.assertion.specs.Changes.{IsOrdered}
use Rattle.siread.specs.declared.keys.Place.{Place}
use Rattle.siread.specs.Keys.{same_value, place_of}

-- the row at a place, if there is one
abbrev pub row_in : List Layout → State → Place → Option RowValues
row_in layouts state place = row_at (key_of place.table layouts) place.key (rows_of place.table state)

-- a list of rows for each table, each in key order
pub record IsState (layouts : List Layout) (state : State) : Type 0 where
  pub long : length state ≡ length layouts
  pub ordered : IsOrdered layouts state

-- whether two rows have the same values; NULL is the same as NULL
abbrev pub same_row : RowValues → RowValues → Bool
same_row [] [] = true
same_row [] (w ∷ ws) = false
same_row (v ∷ vs) [] = false
same_row (v ∷ vs) (w ∷ ws) = same_value v w && same_row vs ws

-- whether the same stands at a place, which may be no row
abbrev pub same_there : Option RowValues → Option RowValues → Bool
same_there None None = true
same_there None (Some row) = false
same_there (Some row) None = false
same_there (Some row) (Some other) = same_row row other

-- a change that isn't of a row to what it held
abbrev pub is_real : Change → Bool
is_real change = not (same_there change.old change.new)

-- a change that may be put in: of a table that there is, and its new row has its key
pub record IsPut (layouts : List Layout) (change : Change) : Type 0 where
  pub table_in : change.table < length layouts
  pub keyed : ordered.HasKey value_cmp (value_in (key_of change.table layouts)) change.key change.new

-- what two states hold at a place, as a change
abbrev pub change_between : List Layout → State → State → Place → Change
change_between layouts before after place = record {
  table = place.table;
  key = place.key;
  old = row_in layouts before place;
  new = row_in layouts after place;
}

-- values in their order, each once
abbrev pub in_order : List Value → List Value
in_order [] = []
in_order (v ∷ vs) = ordered.put value_cmp (λ k. k) v (Some v) (in_order vs)

-- the keys of the rows of a table before and after
abbrev pub keys_of_both : List Layout → State → State → ℕ → List Value
keys_of_both layouts before after table =
    in_order (map (value_in (key_of table layouts)) (rows_of table before ++ rows_of table after))

-- the rows of a table in which two states differ, in the order of their keys
abbrev pub table_changes : List Layout → State → State → ℕ → List Change
table_changes layouts before after table =
    filter is_real (map (λ k. change_between layouts before after (record { table = table; key = k }))
    (keys_of_both layouts before after table))

-- the net change: the rows in which two states differ, by table and key, each with what stands there before and after
unfoldable pub net_change : List Layout → State → State → List Change
net_change layouts before after = flat_map (table_changes layouts before after) (range_with_len 0 (length layouts))

-- by table, and then by key
abbrev pub place_cmp : Place → Place → Ordering
place_cmp a b = ordering_then (nat_cmp a.table b.table) (value_cmp a.key b.key)

-- the changes are in the order of their places, each place once
abbrev pub AreInOrder : List Change → Type 0
AreInOrder changes = ordered.IsAscending place_cmp place_of changes

-- changes that may be put into a state, each with the old row that stands there
pub record AreDue (layouts : List Layout) (changes : List Change) (state : State) : Type 0 where
  pub in_order : AreInOrder changes
  pub exact : (change : Change) → Contains changes change → row_in layouts state (place_of change) ≡ change.old
  pub puts : (change : Change) → Contains changes change → IsPut layouts change

-- changes that are the rows in which two states differ
pub record AreDifferences (layouts : List Layout) (changes : List Change) (before after : State) : Type 0 where
  pub in_order : AreInOrder changes
  pub exact : (change : Change) → Contains changes change
      → change ≡ change_between layouts before after (place_of change)
  pub real : (change : Change) → Contains changes change → is_real change ≡ true
  pub all : (place : Place) → (row_in layouts before place ≡ row_in layouts after place)
      ⊎ Contains changes (change_between layouts before after place)
