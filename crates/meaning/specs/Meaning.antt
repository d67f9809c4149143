-- What search conditions, value expressions and queries mean, over their written trees and plain rows (ISO/IEC
-- 9075:1992; the subclause of each piece in brackets).
use Rattle.std.specs.Prelude.{ℕ, pos, ◌+ℤ◌, ◌*ℤ◌, Bool, true, false, ◌||◌, if◌then◌else◌, List, [], ◌∷◌}
use Rattle.std.specs.Prelude.{length, map, filter, Option, Some, None, is_some, unwrap_or}
use Rattle.std.specs.Ordering.{eq_by_cmp}
use Rattle.value.specs.declared.values.Value.{Value}
use Rattle.value.specs.declared.values.Value.TheVariants.{Null, Int, Text}
use Rattle.value.specs.declared.values.Root.{Root}
use Rattle.value.specs.declared.values.Root.TheVariants.{All, Of}
use Rattle.value.specs.declared.comparisons.Comparison.TheVariants.{Equal, AtMost, AtLeast}
use Rattle.value.specs.ValueOrder.{value_cmp, root_cmp}
use Rattle.value.specs.Ordered.{least}
use Rattle.value.specs.declared.truths.Truth.{Truth}
use Rattle.value.specs.declared.truths.Truth.TheVariants.{True, False}
use Rattle.value.specs.Truths.{and_of, not_of, is_of, truth_of_bool}
use Rattle.table.specs.Rows.{RowValues, Layout, Tables, value_in, layout_of, position_of}
use Rattle.table.specs.Aggregates.{is_there, distinct, sum_answer}
use Rattle.table.specs.Values.{negative_of, total, comparison_truth, is_null, all_of, any_of}
use Rattle.syntax.specs.declared.trees.Aggregate.{Aggregate}
use Rattle.syntax.specs.declared.trees.Aggregate.TheVariants.{Count, Sum, Min, Max}
use Rattle.syntax.specs.declared.trees.SetQuantifier.{SetQuantifier}
use Rattle.syntax.specs.declared.trees.SetQuantifier.TheVariants as quantifier
use Rattle.syntax.specs.declared.trees.Argument.{Argument}
use Rattle.syntax.specs.declared.trees.ColumnName.{ColumnName}
use Rattle.syntax.specs.declared.trees.Condition.{Condition, out-Condition}
use Rattle.syntax.specs.declared.trees.Condition.TheOpen.{Condition-F, Expression-F, SelectList-F, Query-F}
use Rattle.syntax.specs.declared.trees.Condition.TheFolds.{fold-Condition, fold-Expression, fold-SelectList, fold-Query}
use Rattle.syntax.specs.declared.trees.Expression.{Expression}
use Rattle.syntax.specs.declared.trees.SelectList.{SelectList}
use Rattle.syntax.specs.declared.trees.Query.{Query, out-Query}
use Rattle.assertion.specs.Meaning.{State, rows_of}
use Rattle.form_check.specs.Scopes.{Scope, named_in, innermost}

-- ---- names (5.4, 6.3, 6.4)

-- a table that names can mean, and its rows at hand: one row in WHERE, and those of a group in HAVING and where set
-- functions are listed
pub record Reference : Type 0 where
  pub table : Scope
  pub rows : List RowValues

-- the tables around a name, the innermost first
abbrev pub References : Type 0
References = List Reference

-- the values of a column in some rows
abbrev pub values_at : Option ℕ → List RowValues → List Value
values_at None rows = []
values_at (Some place) rows = map (value_in place) rows

-- the values that a name has in the rows at hand of a table; none where it is of no table
abbrev pub values_of : List ℕ → Option Reference → List Value
values_of name None = []
values_of name (Some reference) = values_at (named_in name reference.table) reference.rows

-- a name means a column of the innermost table that it is of: its values in that table's rows at hand
abbrev pub column_values : ColumnName → References → List Value
column_values column around = values_of column.name (innermost (λ reference. reference.table) column around)

-- the rows at hand of the innermost table
abbrev pub rows_at_hand : References → List RowValues
rows_at_hand [] = []
rows_at_hand (reference ∷ outer) = reference.rows

-- the value of the row at hand; a group has one value of its grouping column
abbrev pub first_value : List Value → Value
first_value [] = Null
first_value (v ∷ vs) = v

-- ---- set functions (6.5): NULLs are left out, and of no value COUNT is 0 and the others are NULL

-- the values that a set function is of, as often as they stand or, with DISTINCT, each once
abbrev pub quantified : SetQuantifier → List Value → List Value
quantified quantifier.All values = values
quantified quantifier.Distinct values = distinct values

-- a set function of the values that are not NULL
abbrev pub set_function : Aggregate → List Value → Value
set_function Count values = Int (pos (length values))
set_function Sum values = sum_answer values
set_function Min values = unwrap_or (least value_cmp values) Null
set_function Max values = unwrap_or (least (λ v w. value_cmp w v) values) Null

-- ---- what the parts of a tree mean, seen from the tables around them

-- an expression: whether a set function stands in it outside its queries, and its value
pub record Evaluation : Type 0 where
  pub sets : Bool
  pub value : References → Value

-- a row that a query gives: the rows of its table that it stands for, and the value that it lists
pub record Answer : Type 0 where
  pub rows : List RowValues
  pub value : Value

-- a layer of each kind of tree, with what each part means in its place
abbrev pub MeantCondition : Type 0
MeantCondition = Condition-F (References → Truth) Evaluation Evaluation (References → List Answer)

-- an expression with what its parts mean
abbrev pub MeantExpression : Type 0
MeantExpression = Expression-F (References → Truth) Evaluation Evaluation (References → List Answer)

-- a select list with what its part means
abbrev pub MeantSelectList : Type 0
MeantSelectList = SelectList-F (References → Truth) Evaluation Evaluation (References → List Answer)

-- a query with what its clauses mean
abbrev pub MeantQuery : Type 0
MeantQuery = Query-F (References → Truth) Evaluation Evaluation (References → List Answer)

-- ---- expressions (6.11, 6.12): exact, and NULL where a part is NULL

-- an expression in which no set function stands outside its queries
abbrev pub simple : (References → Value) → Evaluation
simple value = record { sets = false; value = value }

-- whether a set function stands in one of some parts
abbrev pub any_sets : List Evaluation → Bool
any_sets [] = false
any_sets (part ∷ parts) = part.sets || any_sets parts

-- the values of some parts, from the left
abbrev pub values : List Evaluation → References → List Value
values parts around = map (λ part. part.value around) parts

-- a query that stands for its one value is NULL where it gives no row (7.11)
abbrev pub only_value : List Answer → Value
only_value [] = Null
only_value (answer ∷ rest) = answer.value

-- the value of a part with the other sign
abbrev pub value_of_negation : Evaluation → References → Value
value_of_negation part around = negative_of (part.value around)

-- the sum of some parts; that of none is 0
abbrev pub value_of_sum : List Evaluation → References → Value
value_of_sum parts around = total (λ m n. m +ℤ n) (Int (pos 0)) (values parts around)

-- the product of some parts; that of none is 1
abbrev pub value_of_product : List Evaluation → References → Value
value_of_product parts around = total (λ m n. m *ℤ n) (Int (pos 1)) (values parts around)

-- COUNT(*), and a set function of a column
abbrev pub rows_counted : References → Value
rows_counted around = Int (pos (length (rows_at_hand around)))

-- a set function of a column: of what its rows at hand have there, without NULLs
abbrev pub set_of_column : Aggregate → Argument → References → Value
set_of_column function argument around =
    set_function function (quantified argument.quantifier (filter is_there (column_values argument.column around)))

-- an expression by what its parts mean
abbrev pub expression_step : MeantExpression → Evaluation
expression_step (Expression-F.Number n) = simple (λ around. Int n)
expression_step (Expression-F.Text t) = simple (λ around. Text t)
expression_step (Expression-F.Column column) = simple (λ around. first_value (column_values column around))
expression_step Expression-F.CountRows = record { sets = true; value = rows_counted }
expression_step (Expression-F.Aggregate function argument) =
    record { sets = true; value = set_of_column function argument }
expression_step (Expression-F.Subquery query) = simple (λ around. only_value (query around))
expression_step (Expression-F.Negation part) = record { sets = part.sets; value = value_of_negation part }
expression_step (Expression-F.Sum parts) = record { sets = any_sets parts; value = value_of_sum parts }
expression_step (Expression-F.Product parts) = record { sets = any_sets parts; value = value_of_product parts }

-- ---- predicates: comparison (8.2), BETWEEN (8.3), IN (8.4), IS NULL (8.6), EXISTS (8.8); search conditions (8.12)

-- x BETWEEN low AND high: x >= low AND x <= high
abbrev pub is_between : Value → Value → Value → Truth
is_between x low high = and_of (comparison_truth AtLeast x low) (comparison_truth AtMost x high)

-- x IN a list: x = one of its values, joined by OR
abbrev pub is_in : Value → List Value → Truth
is_in x list = any_of (map (comparison_truth Equal x) list)

-- whether a query gives a row, which EXISTS asks
abbrev pub is_any : List Answer → Bool
is_any [] = false
is_any (answer ∷ rest) = true

-- the truth of a condition by what its parts mean: true, false or unknown
abbrev pub condition_step : MeantCondition → References → Truth
condition_step (Condition-F.Or parts) around = any_of (map (λ part. part around) parts)
condition_step (Condition-F.And parts) around = all_of (map (λ part. part around) parts)
condition_step (Condition-F.Not part) around = not_of (part around)
condition_step (Condition-F.Is part wanted) around = truth_of_bool (is_of (part around) wanted)
condition_step (Condition-F.Exists query) around = truth_of_bool (is_any (query around))
condition_step (Condition-F.Compare left comparison right) around =
    comparison_truth comparison (left.value around) (right.value around)
condition_step (Condition-F.IsNull part) around = is_null (part.value around)
condition_step (Condition-F.Between x low high) around =
    is_between (x.value around) (low.value around) (high.value around)
condition_step (Condition-F.In x list) around = is_in (x.value around) (values list around)

-- ---- queries (7.9)

-- rows of the table at hand
abbrev pub with_rows : Reference → List RowValues → References → References
with_rows table rows outer = record table { rows = rows } ∷ outer

-- a condition of WHERE or HAVING, which may be missing, keeps what it is true of (7.6, 7.8)
abbrev pub passes : Option (References → Truth) → References → Bool
passes None around = true
passes (Some condition) around = is_of (condition around) True

-- the rows that have a value
abbrev pub rows_with : (RowValues → Value) → List RowValues → Value → List RowValues
rows_with value rows v = filter (λ row. eq_by_cmp value_cmp v (value row)) rows

-- GROUP BY makes a group of the rows of each value of its column, NULL like another (7.7); with HAVING or a set
-- function alone all rows are one group, and else each row is on its own (7.9)
abbrev pub groups_of_rows : Option (RowValues → Value) → Bool → List RowValues → List (List RowValues)
groups_of_rows (Some value) sets rows = map (rows_with value rows) (distinct (map value rows))
groups_of_rows None true rows = rows ∷ []
groups_of_rows None false rows = map (λ row. row ∷ []) rows

-- the value of the column of GROUP BY in a row
abbrev pub group_value : Option ColumnName → Reference → References → Option (RowValues → Value)
group_value None table outer = None
group_value (Some column) table outer = Some (λ row.
    first_value (column_values column (with_rows table (row ∷ []) outer)))

-- FROM, WHERE, GROUP BY, HAVING and the select list, one after the other
abbrev pub answers_over : Reference → MeantQuery → References → List Answer
answers_over table query outer =
    map (λ rows. record { rows = rows; value = query.select_list.value (with_rows table rows outer) }) (
    filter (λ rows. passes query.having (with_rows table rows outer)) (
    groups_of_rows (group_value query.group table outer) (is_some query.having || query.select_list.sets) (
    filter (λ row. passes query.keeps (with_rows table (row ∷ []) outer)) table.rows)))

-- what a select list gives; the one column of *
abbrev pub select_list_step : MeantSelectList → Evaluation
select_list_step SelectList-F.Star = simple (λ around. first_value (map (value_in 0) (rows_at_hand around)))
select_list_step (SelectList-F.One part) = part

-- ---- the tables (6.3, 7.4)

-- a table without columns, where a name is of no table
abbrev pub no_layout : Layout
no_layout = record { columns = []; key = 0 }

-- the rows of the table at a place; none where there is no such table
abbrev pub rows_at : Option ℕ → State → List RowValues
rows_at None state = []
rows_at (Some table) state = rows_of table state

-- the table of a name with its rows, under its correlation name where one is written
abbrev pub table_of : Tables → State → List ℕ → Option (List ℕ) → Reference
table_of tables state name correlation_name = record {
  table =
      record { exposed_name = unwrap_or correlation_name name; layout = unwrap_or (layout_of name tables) no_layout };
  rows = rows_at (position_of name tables) state;
}

-- a query by what its clauses mean: the rows that it gives over its table
abbrev pub query_step : Tables → State → MeantQuery → References → List Answer
query_step tables state query = answers_over (table_of tables state query.table query.correlation_name) query

-- ---- the whole

-- the truth of a condition, seen from the tables around it
abbrev pub truth : Tables → State → Condition → References → Truth
truth tables state =
    fold-Condition (References → Truth) Evaluation Evaluation (References → List Answer)
    condition_step expression_step select_list_step (query_step tables state)

-- the value of an expression, seen from the tables around it, and whether a set function stands in it
abbrev pub evaluation_of : Tables → State → Expression → Evaluation
evaluation_of tables state =
    fold-Expression (References → Truth) Evaluation Evaluation (References → List Answer)
    condition_step expression_step select_list_step (query_step tables state)

-- the value of what a select list lists, and whether a set function stands in it
abbrev pub select_list : Tables → State → SelectList → Evaluation
select_list tables state =
    fold-SelectList (References → Truth) Evaluation Evaluation (References → List Answer)
    condition_step expression_step select_list_step (query_step tables state)

-- the rows that a query gives, seen from the tables around it
abbrev pub answers : Tables → State → Query → References → List Answer
answers tables state =
    fold-Query (References → Truth) Evaluation Evaluation (References → List Answer)
    condition_step expression_step select_list_step (query_step tables state)

-- ---- assertions (11.34)

-- the truth of an assertion's condition; it is satisfied where that is not false
abbrev pub written_truth : Tables → State → Condition → Truth
written_truth tables state condition = truth tables state condition []

-- what an answer is named by: the value of GROUP BY's column, or else the key of its row
abbrev pub root_of : Option (RowValues → Value) → ℕ → Answer → Root
root_of None key answer = Of (first_value (map (value_in key) answer.rows))
root_of (Some value) key answer = Of (first_value (map value answer.rows))

-- what the answers of a query are named by
abbrev pub roots_of_answers : Option ColumnName → Reference → List Answer → List Root
roots_of_answers group table given = map (root_of (group_value group table []) table.table.layout.key) given

-- the roots of what the outermost query gives
abbrev pub query_roots : Tables → State → Query → Query-F Condition Expression SelectList Query → List Root
query_roots tables state whole query =
    roots_of_answers query.group (table_of tables state query.table query.correlation_name)
    (answers tables state whole [])

-- NOT EXISTS of a query lists what the query gives, and any other assertion the whole, where it is false
abbrev pub roots_of_whole : Truth → List Root
roots_of_whole truth = if is_of truth False then All ∷ [] else []

-- the bad roots of a NOT, by the condition under it and the truth of the whole
abbrev pub denied_roots : Tables → State → Truth → Condition-F Condition Expression SelectList Query → List Root
denied_roots tables state whole (Condition-F.Exists query) = query_roots tables state query (out-Query query)
denied_roots tables state whole other = roots_of_whole whole

-- the bad roots of a condition, by its tree and its truth
abbrev pub roots_in : Tables → State → Truth → Condition-F Condition Expression SelectList Query → List Root
roots_in tables state whole (Condition-F.Not part) = denied_roots tables state whole (out-Condition part)
roots_in tables state whole other = roots_of_whole whole

-- the roots at which an assertion is false, by the text of its condition
abbrev pub written_bad_roots : Tables → State → Condition → List Root
written_bad_roots tables state condition =
    roots_in tables state (written_truth tables state condition) (out-Condition condition)

-- the least of them, in the order of roots
abbrev pub written_least : Tables → State → Condition → Option Root
written_least tables state condition = least root_cmp (written_bad_roots tables state condition)
