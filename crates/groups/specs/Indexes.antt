-- Indexes: which rows of a table, by their keys, have a value in a column.
use Rattle.std.specs.Prelude.{◌≡◌, ℕ, ◌<◌, Bool, ◌&&◌, List, [], length, map, filter, All, unwrap_or}
use Rattle.std.specs.Option.{option_map}
use Rattle.std.specs.Ordering.{eq_by_cmp}
use Rattle.value.specs.declared.values.Value.{Value}
use Rattle.value.specs.ValueOrder.{value_cmp}
use Rattle.value.specs.Ordered as ordered
use Rattle.pages.specs.Reach.{key_of, value_of}
use Rattle.table.specs.Rows.{RowValues, value_in}
use Rattle.table.specs.Aggregates.{is_there}

-- values in order, each with its keys
abbrev pub ValueKeys : Type 0
ValueKeys = List (Value × List Value)

-- the keys of a value; none where it doesn't stand
abbrev pub keys_at : Value → ValueKeys → List Value
keys_at v index = unwrap_or (option_map value_of (ordered.at value_cmp key_of v index)) []

-- whether what stands in a column is this value; of NULL it never holds
abbrev pub equals : Value → Value → Bool
equals v w = is_there w && eq_by_cmp value_cmp v w

-- the keys of the rows that have a value in a column, in the order of the rows
abbrev pub keys_with : ℕ → ℕ → List RowValues → Value → List Value
keys_with key column rows v = map (value_in key) (filter (λ row. equals v (value_in column row)) rows)

-- each value that has keys stands once, with these, and no other stands
pub record IsIndexFor (keys : Value → List Value) (index : ValueKeys) : Type 0 where
  pub in_order : ordered.IsAscending value_cmp key_of index
  pub not_empty : All (λ (entry : Value × List Value). 0 < length entry.1) index
  pub right : (v : Value) → keys_at v index ≡ keys v

-- the index of a table's rows by a column: of each value the keys of the rows that have it there; NULL has none
abbrev pub IsIndexOf : ℕ → ℕ → List RowValues → ValueKeys → Type 0
IsIndexOf key column rows index = IsIndexFor (keys_with key column rows) index
