-- Families of keys: those that differ by a value alone. Where the keys of a family stand under their values, those that
-- a row is under are found by what stands in the row.
use Rattle.std.specs.Prelude.{◌≡◌, ◌+◌, ◌^◌, ◌-◌, ℕ, Bool, true, false, ◌==◌, ◌&&◌, List, [], ◌∷◌, Option, Some, None, length, map, filter, max, min, unwrap_or, if◌then◌else◌, ⊤}
use Rattle.std.specs.List.{IsDistinct}
use Rattle.std.specs.Map.{lookup, keys_of, values_of}
use Rattle.value.specs.declared.values.Value.{Value}
use Rattle.value.specs.declared.values.Value.TheVariants.{Null}
use Rattle.table.specs.declared.rows.Change.{Change}
use Rattle.table.specs.Rows.{RowValues, value_in}
use Rattle.siread.specs.declared.keys.Place.{Place}
use Rattle.siread.specs.declared.keys.Family.{Family}
use Rattle.siread.specs.declared.keys.Family.TheVariants.{Rows, Column, Table}
use Rattle.siread.specs.declared.keys.LockKey.{LockKey}
use Rattle.siread.specs.declared.keys.LockKey.TheVariants.{Row as OneRow, Column as InColumn, Table as WholeTable}
use Rattle.siread.specs.Keys.{place_of, same_value}
use Rattle.siread.specs.Readers.{reaches_above}

-- the family of a key, and its value there
abbrev pub family_of : LockKey → Family
family_of (OneRow place) = Rows place.table
family_of (InColumn table column value) = Column table column
family_of (WholeTable table) = Table table

-- the value of a key in its family; a table's one key is under NULL
abbrev pub value_of : LockKey → Value
value_of (OneRow place) = place.key
value_of (InColumn table column value) = value
value_of (WholeTable table) = Null

-- whether two families are the same
abbrev pub same_family : Family → Family → Bool
same_family (Rows t) (Rows u) = t == u
same_family (Rows t) (Column u d) = false
same_family (Rows t) (Table u) = false
same_family (Column t c) (Rows u) = false
same_family (Column t c) (Column u d) = (t == u) && (c == d)
same_family (Column t c) (Table u) = false
same_family (Table t) (Rows u) = false
same_family (Table t) (Column u d) = false
same_family (Table t) (Table u) = t == u

-- the values of a family, each once, with their readers
abbrev pub ValueReaders : Type 0
ValueReaders = List (Value × List ℕ)

-- the readers of a value; one that is not there has none
abbrev pub readers_of : ValueReaders → Value → List ℕ
readers_of family value = unwrap_or (lookup (same_value value) family) []

-- no value has readers
abbrev pub no_readers : Value → List ℕ
no_readers value = []

-- with other readers of one value, made from those that it has
abbrev pub changed_value : Value → (List ℕ → List ℕ) → (Value → List ℕ) → Value → List ℕ
changed_value read change readers value = if same_value read value then change (readers value) else readers value

-- with the readers alone that reach above this number
abbrev pub reaching_each : (low : ℕ) → (reaches : List ℕ) → (Value → List ℕ) → Value → List ℕ
reaching_each low reaches readers value = filter (reaches_above low reaches) (readers value)

-- whether a family has no values
abbrev pub is_no_entry : ValueReaders → Bool
is_no_entry [] = true
is_no_entry (e ∷ family) = false

-- The last reader of the key of a family that a row at a place is under, 0 where the family is of another table. `last`
-- says which of a key's readers that is.
abbrev pub last_under : (List ℕ → ℕ) → Family → ValueReaders → Place → RowValues → ℕ
last_under last (Rows table) readers place row =
    if table == place.table then last (readers_of readers place.key) else 0
last_under last (Column table column) readers place row =
    if table == place.table then last (readers_of readers (value_in column row)) else 0
last_under last (Table table) readers place row = if table == place.table then last (readers_of readers Null) else 0

-- the same of what stands at a place, which may be no row
abbrev pub last_over : (List ℕ → ℕ) → Family → ValueReaders → Place → Option RowValues → ℕ
last_over last family readers place None = 0
last_over last family readers place (Some row) = last_under last family readers place row

-- the greater of the last readers of those that the old row of a change is under, and the new
abbrev pub last_in : (List ℕ → ℕ) → Change → Family → ValueReaders → ℕ
last_in last change family readers =
    max (last_over last family readers (place_of change) change.old)
    (last_over last family readers (place_of change) change.new)

-- the sum of some counts
abbrev pub total : List ℕ → ℕ
total [] = 0
total (n ∷ rest) = n + total rest

-- how many pairs there are of a value and a reader of it, or the most that a count can be
pub record IsValueCount (family : ValueReaders) (count : ℕ) : Type 0 where
  pub once : IsDistinct same_value (keys_of family)
  pub counted : count ≡ min (total (map length (values_of family))) (2 ^ 64 - 1)

-- of those values that are of a key: a table has one key, under NULL
abbrev pub readers_in : Family → ValueReaders → ℕ
readers_in (Rows table) readers = total (map length (values_of readers))
readers_in (Column table column) readers = total (map length (values_of readers))
readers_in (Table table) readers = length (readers_of readers Null)

-- each value of a key of the family is there once
abbrev pub HasEachOnce : Family → ValueReaders → Type 0
HasEachOnce (Rows table) readers = IsDistinct same_value (keys_of readers)
HasEachOnce (Column table column) readers = IsDistinct same_value (keys_of readers)
HasEachOnce (Table table) readers = ⊤

-- how many pairs there are of a key of the family and a reader of it, or the most that a count can be
pub record IsFamilyCount (family : Family) (readers : ValueReaders) (count : ℕ) : Type 0 where
  pub once : HasEachOnce family readers
  pub counted : count ≡ min (readers_in family readers) (2 ^ 64 - 1)
