-- What set functions give, by the total of the rows.
use Rattle.std.specs.Prelude.{◌==◌, Some, None, if◌then◌else◌, unwrap_or}
use Rattle.value.specs.declared.values.Value.{Value}
use Rattle.value.specs.declared.values.Value.TheVariants as value
use Rattle.table.specs.declared.aggregates.Aggregate.{Aggregate}
use Rattle.table.specs.declared.aggregates.Aggregate.TheVariants.{CountRows, Count, CountDistinct, Sum, SumDistinct, Min, Max}
use Rattle.table.specs.Rows.{RowValues, value_in}
use Rattle.table.specs.declared.slots.SlotValue.{SlotValue}
use Rattle.table.specs.declared.slots.SlotValue.TheVariants as slot
use Rattle.groups.specs.Counts.{first_value, last_value}
use Rattle.groups.specs.Figures.{Figures}

-- the value of a row that a set function looks at; COUNT(*) looks at none
abbrev pub value_for : Aggregate → RowValues → Value
value_for CountRows row = value.Null
value_for (Count column) row = value_in column row
value_for (CountDistinct column) row = value_in column row
value_for (Sum column) row = value_in column row
value_for (SumDistinct column) row = value_in column row
value_for (Min column) row = value_in column row
value_for (Max column) row = value_in column row

-- SUM by a total: NULL where no value is there
abbrev pub sum_from : Figures → SlotValue
sum_from t = slot.Sum (if t.there == 0 then None else Some t.sum)

-- what a set function gives, by a total
abbrev pub answer_from : Aggregate → Figures → SlotValue
answer_from CountRows t = slot.Count t.rows
answer_from (Count column) t = slot.Count t.there
answer_from (CountDistinct column) t = slot.Count t.there
answer_from (Sum column) t = sum_from t
answer_from (SumDistinct column) t = sum_from t
answer_from (Min column) t = slot.Extreme (unwrap_or (first_value t.values) value.Null)
answer_from (Max column) t = slot.Extreme (unwrap_or (last_value t.values) value.Null)
