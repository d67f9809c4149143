-- The set functions of SQL-92, of a list of rows.
use Rattle.std.specs.Prelude.{ℕ, ℤ, pos, ◌+ℤ◌, Bool, true, false, not, List, [], ◌∷◌, length, map, filter, Option, Some, None, unwrap_or}
use Rattle.std.specs.Ordering.{eq_by_cmp}
use Rattle.value.specs.declared.values.Value.{Value}
use Rattle.value.specs.declared.values.Value.TheVariants.{Null, Int, Text}
use Rattle.value.specs.ValueOrder.{value_cmp}
use Rattle.value.specs.Ordered.{least}
use Rattle.table.specs.declared.aggregates.Aggregate.{Aggregate}
use Rattle.table.specs.declared.aggregates.Aggregate.TheVariants.{CountRows, Count, CountDistinct, Sum, SumDistinct, Min, Max}
use Rattle.table.specs.Rows.{RowValues, value_in}

-- whether a value is not NULL
abbrev pub is_there : Value → Bool
is_there Null = false
is_there (Int n) = true
is_there (Text t) = true

-- the values of a column with the NULLs left out
abbrev pub values_in : ℕ → List RowValues → List Value
values_in column rows = filter is_there (map (value_in column) rows)

-- each value once, where it stands first: the duplicates are eliminated
abbrev pub distinct : List Value → List Value
distinct [] = []
distinct (v ∷ vs) = v ∷ filter (λ w. not (eq_by_cmp value_cmp v w)) (distinct vs)

-- the number that a value is; a text or NULL is none and adds nothing
abbrev pub number_of : Value → ℤ
number_of Null = pos 0
number_of (Int n) = n
number_of (Text t) = pos 0

-- the sum of numbers
abbrev pub sum_of : List Value → ℤ
sum_of [] = pos 0
sum_of (v ∷ vs) = number_of v +ℤ sum_of vs

-- SUM of the values that are there: NULL of none
abbrev pub sum_answer : List Value → Value
sum_answer [] = Null
sum_answer (v ∷ vs) = Int (sum_of (v ∷ vs))

-- COUNT(*) is the number of rows; the others leave NULLs out, and of no value COUNT is 0 and the rest are NULL. With
-- DISTINCT each value is taken once. A sum or a count has no bound here.
abbrev pub aggregate : Aggregate → List RowValues → Value
aggregate CountRows rows = Int (pos (length rows))
aggregate (Count column) rows = Int (pos (length (values_in column rows)))
aggregate (CountDistinct column) rows = Int (pos (length (distinct (values_in column rows))))
aggregate (Sum column) rows = sum_answer (values_in column rows)
aggregate (SumDistinct column) rows = sum_answer (distinct (values_in column rows))
aggregate (Min column) rows = unwrap_or (least value_cmp (values_in column rows)) Null
aggregate (Max column) rows = unwrap_or (least (λ v w. value_cmp w v) (values_in column rows)) Null

-- the column that a set function is of
abbrev pub column_of : Aggregate → Option ℕ
column_of CountRows = None
column_of (Count column) = Some column
column_of (CountDistinct column) = Some column
column_of (Sum column) = Some column
column_of (SumDistinct column) = Some column
column_of (Min column) = Some column
column_of (Max column) = Some column

-- the rows of a group of GROUP BY; NULL is a group like another
abbrev pub rows_of_group : ℕ → Value → List RowValues → List RowValues
rows_of_group column v rows = filter (λ row. eq_by_cmp value_cmp v (value_in column row)) rows
