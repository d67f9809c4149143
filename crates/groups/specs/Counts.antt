-- Values with how often each stands, in order.
use Rattle.std.specs.Prelude.{ℕ, ◌==◌, ◌+◌, ◌-◌, ◌^◌, min, List, [], ◌∷◌, Option, Some, None, if◌then◌else◌}
use Rattle.value.specs.declared.values.Value.{Value}
use Rattle.value.specs.declared.values.Value.TheVariants.{Null, Int, Text}
use Rattle.value.specs.ValueOrder.{value_cmp}
use Rattle.value.specs.Ordered as ordered

-- a value and how often it stands, which is never 0
pub record Count : Type 0 where
  pub value : Value
  pub count : ℕ

-- a value and how often it stands
abbrev pub count_from : Value × ℕ → Count
count_from entry = record { value = entry.0; count = entry.1 }

-- the value that is counted
abbrev pub value_of : Count → Value
value_of count = count.value

-- how often an entry's value stands; one that is missing, never
abbrev pub count_in : Option Count → ℕ
count_in None = 0
count_in (Some count) = count.count

-- the number that stands for a value
abbrev pub count_at : Value → List Count → ℕ
count_at v counts = count_in (ordered.at value_cmp value_of v counts)

-- how often a value stands; NULL isn't counted
abbrev pub count_of : Value → List Count → ℕ
count_of Null counts = 0
count_of (Int n) counts = count_at (Int n) counts
count_of (Text t) counts = count_at (Text t) counts

-- a value with how often it stands; none where it doesn't
abbrev pub count_entry : Value → ℕ → Option Count
count_entry v count = if count == 0 then None else Some (record { value = v; count = count })

-- the counts with this one for a value
abbrev pub put_count : Value → ℕ → List Count → List Count
put_count v count = ordered.put value_cmp value_of v (count_entry v count)

-- one more, up to the largest number of 64 bits
abbrev pub one_up : ℕ → ℕ
one_up n = min (n + 1) (2 ^ 64 - 1)

-- the counts with a value so often; NULL isn't counted
abbrev pub counts_with : Value → ℕ → List Count → List Count
counts_with Null count counts = counts
counts_with (Int n) count counts = put_count (Int n) count counts
counts_with (Text t) count counts = put_count (Text t) count counts

-- the least value that stands there: what MIN gives
abbrev pub first_value : List Count → Option Value
first_value [] = None
first_value (c ∷ cs) = Some c.value

-- the greatest value that stands there: what MAX gives
abbrev pub last_value : List Count → Option Value
last_value [] = None
last_value (c ∷ []) = Some c.value
last_value (c ∷ d ∷ cs) = last_value (d ∷ cs)
