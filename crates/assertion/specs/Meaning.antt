-- What an assertion means on a state, from scratch.
use Rattle.std.specs.Prelude.{ℕ, Bool, ◌&&◌, List, [], ◌∷◌, map, filter, Option, slice_index_or, if◌then◌else◌}
use Rattle.value.specs.declared.values.Value.{Value}
use Rattle.value.specs.declared.values.Root.{Root}
use Rattle.value.specs.declared.values.Root.TheVariants.{All, Of}
use Rattle.value.specs.declared.comparisons.Comparison.TheVariants.{Equal}
use Rattle.value.specs.ValueOrder.{root_cmp}
use Rattle.value.specs.Ordered.{least}
use Rattle.value.specs.declared.truths.Truth.{Truth}
use Rattle.value.specs.declared.truths.Truth.TheVariants.{True, False}
use Rattle.value.specs.Truths.{is_of}
use Rattle.table.specs.declared.aggregates.Aggregate.{Aggregate}
use Rattle.table.specs.Rows.{key_of, RowValues, Layout, value_in}
use Rattle.table.specs.Aggregates.{aggregate, rows_of_group}
use Rattle.table.specs.declared.conds.Cond.{Cond}
use Rattle.table.specs.Eval.{truth, keeps}
use Rattle.table.specs.Values.{comparison_truth}
use Rattle.assertion.specs.declared.queries.Query.{Query}
use Rattle.assertion.specs.declared.queries.Link.{Link}
use Rattle.assertion.specs.declared.queries.Whole.{Whole}
use Rattle.assertion.specs.declared.forms.Form.{Form}
use Rattle.assertion.specs.declared.forms.Form.TheVariants.{ByRow, ByGroup, Single}

-- for each table, by its place in the order of creation, its rows in key order
abbrev pub State : Type 0
State = List (List RowValues)

-- the rows of the table at a place; none where there is no such table
abbrev pub rows_of : ℕ → State → List RowValues
rows_of table state = slice_index_or state table []

-- the link of a subquery, outer = inner: whether it is true of a row and one of the subquery's table
abbrev pub links : Link → RowValues → RowValues → Bool
links link row linked = is_of (comparison_truth Equal (value_in link.outer row) (value_in link.inner linked)) True

-- what a subquery gives for a row: SELECT aggregate FROM d WHERE outer = inner AND filter; what the row around has in
-- its columns stands in the slots of the filter
abbrev pub linked_answer : State → RowValues → Query Link → Value
linked_answer state row q =
    aggregate q.aggregate
    (filter (λ linked. links q.grouping row linked && keeps linked row q.filter) (rows_of q.table state))

-- what a subquery of its own gives: SELECT aggregate FROM t WHERE filter
abbrev pub plain_answer : State → Query Whole → Value
plain_answer state q = aggregate q.aggregate (filter (λ row. keeps row [] q.filter) (rows_of q.table state))

-- whether a row is listed: its condition is true, with its subqueries in the slots
abbrev pub lists_row : State → Cond → List (Query Link) → RowValues → Bool
lists_row state condition queries row = keeps row (map (linked_answer state row) queries) condition

-- the keys of the listed rows of a table
abbrev pub row_roots : State → ℕ → ℕ → Cond → List (Query Link) → List Root
row_roots state table key condition queries =
    map (λ row. Of (value_in key row)) (filter (lists_row state condition queries) (rows_of table state))

-- the rows that a WHERE keeps
abbrev pub filtered_rows : Cond → List RowValues → List RowValues
filtered_rows restriction rows = filter (λ row. keeps row [] restriction) rows

-- whether a group of rows is listed: HAVING is true of its value, with the aggregates of its rows in the slots
abbrev pub lists_group : List RowValues → ℕ → Cond → List Aggregate → Value → Bool
lists_group rows group having aggregates v =
    keeps (v ∷ []) (map (λ a. aggregate a (rows_of_group group v rows)) aggregates) having

-- the values of the listed groups of rows, each as often as it has rows
abbrev pub group_roots : List RowValues → ℕ → Cond → List Aggregate → List Root
group_roots rows group having aggregates =
    map Of (filter (lists_group rows group having aggregates) (map (value_in group) rows))

-- the truth of a condition that sees no row, with its subqueries in the slots
abbrev pub single_truth : State → Cond → List (Query Whole) → Truth
single_truth state condition queries = truth [] (map (plain_answer state) queries) condition

-- the roots at which an assertion is false
abbrev pub bad_roots : List Layout → Form → State → List Root
bad_roots layouts (ByRow table condition queries) state = row_roots state table (key_of table layouts) condition queries
bad_roots layouts (ByGroup table restriction group having aggregates) state =
    group_roots (filtered_rows restriction (rows_of table state)) group having aggregates
bad_roots layouts (Single condition queries) state =
    if is_of (single_truth state condition queries) False then All ∷ [] else []

-- NOT EXISTS of the listed roots
abbrev pub truth_of_roots : List Root → Truth
truth_of_roots [] = True
truth_of_roots (r ∷ rs) = False

-- the truth of an assertion
abbrev pub verdict_of : List Layout → Form → State → Truth
verdict_of layouts (ByRow table condition queries) state =
    truth_of_roots (bad_roots layouts (ByRow table condition queries) state)
verdict_of layouts (ByGroup table restriction group having aggregates) state =
    truth_of_roots (bad_roots layouts (ByGroup table restriction group having aggregates) state)
verdict_of layouts (Single condition queries) state = single_truth state condition queries

-- the least root at which an assertion is false
abbrev pub least_bad_of : List Layout → Form → State → Option Root
least_bad_of layouts form state = least root_cmp (bad_roots layouts form state)
