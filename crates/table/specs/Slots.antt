-- The slots beside a row: what they hold, and how large its number can be.
use Rattle.std.specs.Prelude.{ℕ, ◌≤◌, ◌^◌, pos, List, map, Some, None, unsigned_abs}
use Rattle.value.specs.declared.values.Value.{Value}
use Rattle.value.specs.declared.values.Value.TheVariants as value
use Rattle.table.specs.declared.slots.SlotKind.{SlotKind}
use Rattle.table.specs.declared.slots.SlotKind.TheVariants as kind
use Rattle.table.specs.declared.slots.SlotValue.{SlotValue}
use Rattle.table.specs.declared.slots.SlotValue.TheVariants.{Count, Sum, Extreme}

-- the slots, in order
abbrev pub SlotValues : Type 0
SlotValues = List SlotValue

-- the set function of a slot
abbrev pub kind_of : SlotValue → SlotKind
kind_of (Count n) = kind.Count
kind_of (Sum sum) = kind.Sum
kind_of (Extreme v) = kind.Extreme

-- the value of a slot: NULL for a SUM of nothing
abbrev pub value_of : SlotValue → Value
value_of (Count n) = value.Int (pos n)
value_of (Sum None) = value.Null
value_of (Sum (Some n)) = value.Int n
value_of (Extreme v) = v

-- the set functions of the slots
abbrev pub kinds_of : SlotValues → List SlotKind
kinds_of slots = map kind_of slots

-- the values of the slots
abbrev pub values_of : SlotValues → List Value
values_of slots = map value_of slots

-- how large a value's number is
abbrev pub magnitude : Value → ℕ
magnitude value.Null = 0
magnitude (value.Int n) = unsigned_abs n
magnitude (value.Text t) = 0

-- what no number of a set function passes: 2^64 for COUNT, 2^114 for SUM, 2^50 for MIN and MAX
abbrev pub limit : SlotKind → ℕ
limit kind.Count = 2 ^ 64
limit kind.Sum = 2 ^ 114
limit kind.Extreme = 2 ^ 50

-- the number in a slot is within what its set function can give
abbrev pub IsWithinKind : SlotValue → Type 0
IsWithinKind slot = magnitude (value_of slot) ≤ limit (kind_of slot)
