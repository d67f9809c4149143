-- How an index is carried on as the key of one row joins the keys of a value or leaves them.
use Rattle.std.specs.Prelude.{ℕ, List, [], ◌∷◌, Option, Some, None, if◌then◌else◌}
use Rattle.std.specs.Ordering.{eq_by_cmp}
use Rattle.value.specs.declared.values.Value.{Value}
use Rattle.value.specs.declared.values.Value.TheVariants.{Null, Int, Text}
use Rattle.value.specs.ValueOrder.{value_cmp}
use Rattle.value.specs.Ordered as ordered
use Rattle.pages.specs.Reach.{key_of, entry_of}
use Rattle.table.specs.Rows.{RowValues, value_in}
use Rattle.groups.specs.Indexes.{ValueKeys, keys_at}

-- a value that is not NULL
abbrev pub unless_null : Value → Option Value
unless_null Null = None
unless_null (Int n) = Some (Int n)
unless_null (Text t) = Some (Text t)

-- what a row, if there is one, has in a column, if that is not NULL
abbrev pub known_value : ℕ → Option RowValues → Option Value
known_value column None = None
known_value column (Some row) = unless_null (value_in column row)

-- the keys with this one, or without it
abbrev pub keys_more : Value → List Value → List Value
keys_more k keys = ordered.put value_cmp (λ j. j) k (Some k) keys

-- the keys without this one
abbrev pub keys_less : Value → List Value → List Value
keys_less k keys = ordered.put value_cmp (λ j. j) k None keys

-- keys, if there are any
abbrev pub unless_empty : List Value → Option (List Value)
unless_empty [] = None
unless_empty (k ∷ ks) = Some (k ∷ ks)

-- the index with these keys for a value
abbrev pub put_keys : Value → List Value → ValueKeys → ValueKeys
put_keys v keys index = ordered.put value_cmp key_of v (entry_of v (unless_empty keys)) index

-- the index with a key more for a value, or one less
abbrev pub index_more : Value → Value → ValueKeys → ValueKeys
index_more v k index = put_keys v (keys_more k (keys_at v index)) index

-- the index with a key less for a value
abbrev pub index_less : Value → Value → ValueKeys → ValueKeys
index_less v k index = put_keys v (keys_less k (keys_at v index)) index

-- the index after a row's value, if it has one, becomes another
abbrev pub index_after : Option Value → Option Value → Value → ValueKeys → ValueKeys
index_after None None k index = index
index_after None (Some new) k index = index_more new k index
index_after (Some old) None k index = index_less old k index
index_after (Some old) (Some new) k index =
    if eq_by_cmp value_cmp old new then index else index_more new k (index_less old k index)
