-- What is looked up by another column than the key.
use Rattle.std.specs.Prelude.{ℕ, List, map, filter}
use Rattle.std.specs.Ordering.{eq_by_cmp}
use Rattle.value.specs.declared.values.Value.{Value}
use Rattle.value.specs.ValueOrder.{value_cmp}
use Rattle.table.specs.Rows.{RowValues, value_in}

-- the rows that have a value in a column
abbrev pub rows_with : ℕ → Value → List RowValues → List RowValues
rows_with column v rows = filter (λ row. eq_by_cmp value_cmp v (value_in column row)) rows

-- their keys
abbrev pub keys_with : ℕ → ℕ → Value → List RowValues → List Value
keys_with key column v rows = map (value_in key) (rows_with column v rows)
