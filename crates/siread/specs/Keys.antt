-- Places of rows, the keys under which a transaction reads them, and the changes that touch a key.
use Rattle.std.specs.Prelude.{◌≡◌, Bool, true, false, ◌&&◌, ◌||◌, ◌==◌, List, [], ◌∷◌, Option, Some, None, Contains, if◌then◌else◌}
use Rattle.std.specs.List.{list_any}
use Rattle.std.specs.Ordering.{eq_by_cmp}
use Rattle.value.specs.declared.values.Value.{Value}
use Rattle.value.specs.ValueOrder.{value_cmp}
use Rattle.table.specs.declared.rows.Change.{Change}
use Rattle.table.specs.Rows.{RowValues, value_in}
use Rattle.siread.specs.declared.keys.Place.{Place}
use Rattle.siread.specs.declared.keys.LockKey.{LockKey}
use Rattle.siread.specs.declared.keys.LockKey.TheVariants.{Row as OneRow, Column as InColumn, Table as WholeTable}

-- whether two values are the same, as keys and groups see it: NULL is the same as NULL
abbrev pub same_value : Value → Value → Bool
same_value a b = eq_by_cmp value_cmp a b

-- whether two places are the same: the table and the key of a row
abbrev pub same_place : Place → Place → Bool
same_place a b = (a.table == b.table) && same_value a.key b.key

-- the place of a change
abbrev pub place_of : Change → Place
place_of change = record { table = change.table; key = change.key }

-- whether a row at a place is one of those that the key means
abbrev pub is_under : LockKey → Place → RowValues → Bool
is_under (OneRow read) place row = same_place read place
is_under (InColumn table column value) place row = (table == place.table) && same_value value (value_in column row)
is_under (WholeTable table) place row = table == place.table

-- the same of what stands at a place, which may be no row
abbrev pub holds : LockKey → Place → Option RowValues → Bool
holds key place None = false
holds key place (Some row) = is_under key place row

-- a change touches the keys that its old row is under, and those that its new row is under
abbrev pub touches : Change → LockKey → Bool
touches change key = holds key (place_of change) change.old || holds key (place_of change) change.new

-- the row, where it is under the key
abbrev pub row_under_key : LockKey → Place → Option RowValues → Option RowValues
row_under_key key place row = if holds key place row then row else None

-- two states hold the same rows under a key: at each place the same, where it is under the key
abbrev pub SameUnder : {S : Type 0} → (S → Place → Option RowValues) → LockKey → S → S → Type 0
SameUnder look key one other = (place : Place)
    → row_under_key key place (look one place) ≡ row_under_key key place (look other place)

-- and under each key of a list
abbrev pub AlikeUnder : {S : Type 0} → (S → Place → Option RowValues) → List LockKey → S → S → Type 0
AlikeUnder look keys one other = (key : LockKey) → Contains keys key → SameUnder look key one other

-- whether two keys are the same: of one kind, and of the same row, value or table
abbrev pub same_key : LockKey → LockKey → Bool
same_key (OneRow a) (OneRow b) = same_place a b
same_key (OneRow a) (InColumn u d w) = false
same_key (OneRow a) (WholeTable u) = false
same_key (InColumn t c v) (OneRow b) = false
same_key (InColumn t c v) (InColumn u d w) = (t == u) && ((c == d) && same_value v w)
same_key (InColumn t c v) (WholeTable u) = false
same_key (WholeTable t) (OneRow b) = false
same_key (WholeTable t) (InColumn u d w) = false
same_key (WholeTable t) (WholeTable u) = t == u

-- whether all of the one list's keys are among the other's
abbrev pub are_among : List LockKey → List LockKey → Bool
are_among [] those = true
are_among (key ∷ rest) those = list_any (same_key key) those && are_among rest those
