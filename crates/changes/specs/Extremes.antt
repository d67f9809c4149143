-- The least value of a column and the greatest, from the last row on.
use Rattle.std.specs.Prelude.{Bool, true, false, if◌then◌else◌}
use Rattle.std.specs.Ordering.{is_lt}
use Rattle.std.specs.declared.cmp.Ordering.{Ordering}
use Rattle.value.specs.ValueOrder.{value_cmp}
use Rattle.value.specs.declared.values.Value.{Value}
use Rattle.table.specs.Aggregates.{is_there}

-- the order in which the value that is looked for is the least
abbrev pub toward : Bool → Value → Value → Ordering
toward false v w = value_cmp v w
toward true v w = value_cmp w v

-- a value, or that of the rows behind it, by the order in which the least is looked for; NULL is none
abbrev pub further_of : (Value → Value → Ordering) → Value → Value → Value
further_of compare v w =
    if is_there v then (if is_there w then (if is_lt (compare w v) then w else v) else v) else w
