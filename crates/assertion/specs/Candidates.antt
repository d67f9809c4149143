-- The roots at which a change can turn an assertion.
use Rattle.std.specs.Prelude.{ℕ, ◌==◌, Bool, ◌||◌, false, List, [], ◌∷◌, ◌++◌, map, filter, flat_map, option_to_list, if◌then◌else◌}
use Rattle.std.specs.Ordering.{eq_by_cmp}
use Rattle.value.specs.declared.values.Value.{Value}
use Rattle.value.specs.declared.values.Root.{Root}
use Rattle.value.specs.declared.values.Root.TheVariants.{All, Of}
use Rattle.value.specs.ValueOrder.{value_cmp}
use Rattle.table.specs.declared.rows.Change.{Change}
use Rattle.table.specs.Rows.{RowValues, Layout, value_in, key_of}
use Rattle.table.specs.Aggregates.{is_there}
use Rattle.assertion.specs.declared.queries.Query.{Query}
use Rattle.assertion.specs.declared.queries.Link.{Link}
use Rattle.assertion.specs.declared.forms.Form.{Form}
use Rattle.assertion.specs.declared.forms.Form.TheVariants.{ByRow, ByGroup, Single}
use Rattle.assertion.specs.Meaning.{State, rows_of}

-- the rows of a change: the old one and the new one, where there is one
abbrev pub rows_of_change : Change → List RowValues
rows_of_change change = option_to_list change.old ++ option_to_list change.new

-- the values of a column of these rows, as roots
abbrev pub group_candidates : ℕ → List RowValues → List Root
group_candidates group rows = map (λ row. Of (value_in group row)) rows

-- what a subquery's linked column holds in these rows; NULL is linked to nothing
abbrev pub linked_values : Link → List RowValues → List Value
linked_values link rows = filter is_there (map (value_in link.inner) rows)

-- the roots that a value links to, among the rows of a table with this key: the row under the value, whether it is
-- there or not, where the link is to the key; else the rows that have the value in the column of the link
abbrev pub linked_roots : ℕ → Link → List RowValues → Value → List Root
linked_roots key link rows v =
    if link.outer == key then Of v ∷ []
    else map (λ row. Of (value_in key row)) (filter (λ row. eq_by_cmp value_cmp v (value_in link.outer row)) rows)

-- the roots that a subquery links to the old and the new row, where the change is of its table
abbrev pub query_candidates : ℕ → List RowValues → Change → Query Link → List Root
query_candidates key rows change q =
    if q.table == change.table
    then flat_map (linked_roots key q.grouping rows) (linked_values q.grouping (rows_of_change change)) else []

-- whether one of the subqueries is over the table
abbrev pub is_named : {G : Type 0} → ℕ → List (Query G) → Bool
is_named table [] = false
is_named table (q ∷ qs) = (q.table == table) || is_named table qs

-- by rows: the key of a changed row of the table, and then the rows to which its subqueries link, as they stand after
-- the changes; by groups: the groups of the old and the new row; a single condition: the whole
abbrev pub candidates : List Layout → State → Change → Form → List Root
candidates layouts after change (ByRow table condition queries) =
    (if table == change.table then Of change.key ∷ [] else [])
    ++ flat_map (query_candidates (key_of table layouts) (rows_of table after) change) queries
candidates layouts after change (ByGroup table restriction group having aggregates) =
    if table == change.table then group_candidates group (rows_of_change change) else []
candidates layouts after change (Single condition queries) = if is_named change.table queries then All ∷ [] else []

-- the candidates of changes that led to a state, in their order
abbrev pub candidates_of : List Layout → State → List Change → Form → List Root
candidates_of layouts after changes form = flat_map (λ change. candidates layouts after change form) changes
