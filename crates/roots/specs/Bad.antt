-- Bad roots as a view holds them.
use Rattle.std.specs.Prelude.{◌≡◌, Bool, false, ◌&&◌, ◌||◌, nat_lt, length, map, List, [], ◌∷◌, Option, Some, None, if◌then◌else◌}
use Rattle.std.specs.Ordering.{eq_by_cmp}
use Rattle.value.specs.declared.values.Value.{Value}
use Rattle.value.specs.declared.values.Value.TheVariants.{Null}
use Rattle.value.specs.declared.values.Root.{Root}
use Rattle.value.specs.declared.values.Root.TheVariants.{All, Of}
use Rattle.value.specs.ValueOrder.{root_cmp}
use Rattle.value.specs.Ordered as ordered
use Rattle.value.specs.declared.truths.Truth.{Truth}
use Rattle.table.specs.Rows.{RowValues, Layout, row_at, value_in, key_of}
use Rattle.table.specs.Aggregates.{aggregate}
use Rattle.table.specs.declared.conds.Cond.{Cond}
use Rattle.table.specs.Eval.{truth, keeps}
use Rattle.assertion.specs.declared.queries.Query.{Query}
use Rattle.assertion.specs.declared.forms.Form.{Form}
use Rattle.assertion.specs.declared.forms.Form.TheVariants.{ByRow, ByGroup, Single}
use Rattle.assertion.specs.Candidates.{group_candidates}
use Rattle.assertion.specs.declared.queries.Link.{Link}
use Rattle.assertion.specs.Meaning.{State, rows_of}
use Rattle.assertion.specs.Roots.{is_bad_root, is_among}
use Rattle.roots.specs.declared.grouped.Grouping.{Grouping}
use Rattle.roots.specs.declared.grouped.Grouping.TheVariants.{Whole, By, Linked, ByKey, PerRow}
use Rattle.roots.specs.Summaries.{members, key_link, rows_beside}
use Rattle.roots.specs.Answers.{query_answer}

-- this is the row of the root, where a form asks for one: the row under the key in the root table
abbrev pub IsRowOf : List Layout → Form → State → Root → Option RowValues → Type 0
IsRowOf layouts (ByRow table condition queries) state All row = Unit {0}
IsRowOf layouts (ByRow table condition queries) state (Of key) row =
    row ≡ row_at (key_of table layouts) key (rows_of table state)
IsRowOf layouts (ByGroup table restriction group having aggregates) state root row = Unit {0}
IsRowOf layouts (Single condition queries) state root row = Unit {0}

-- the group that a query is asked for by the row that its condition sees: what the row has in the column of the link;
-- where that row is a group's value alone, the group; and where the rows around are the groups, its key
abbrev pub group_for_row : Grouping → RowValues → Value
group_for_row Whole row = Null
group_for_row (By column) row = value_in 0 row
group_for_row (Linked link) row = value_in link.outer row
group_for_row (ByKey link) row = Null
group_for_row (PerRow around) row = value_in around.key row

-- what a query gives for the row that its condition sees
abbrev pub given_by : Option Link → State → RowValues → Query Grouping → Value
given_by (Some link) state row q =
    aggregate q.aggregate (rows_beside link q.filter (rows_of q.table state) row)
given_by None state row q = query_answer state (group_for_row q.grouping row) q

-- what a query gives for the row that its condition sees, by how its rows are grouped
abbrev pub query_value : State → RowValues → Query Grouping → Value
query_value state row q = given_by (key_link q.grouping) state row q

-- what each query of a condition gives for the row that the condition sees, slot by slot
abbrev pub answers : State → List (Query Grouping) → RowValues → List Value
answers state queries row = map (query_value state row) queries

-- whether a condition is true of a row, if there is one
abbrev pub row_passes : State → List (Query Grouping) → Cond → Option RowValues → Bool
row_passes state queries condition None = false
row_passes state queries condition (Some row) = keeps row (answers state queries row) condition

-- whether a group has a row, and HAVING is true of it
abbrev pub group_passes : State → Query Grouping → List (Query Grouping) → Cond → Value → Bool
group_passes state summary queries having v =
    nat_lt 0 (length (members state summary v)) && keeps (v ∷ []) (answers state queries (v ∷ [])) having

-- the truth of a condition that sees no row
abbrev pub whole_truth : State → List (Query Grouping) → Cond → Truth
whole_truth state queries condition = truth [] (answers state queries []) condition

-- the roots with this one in or out
abbrev pub put_root : Root → Bool → List Root → List Root
put_root root is_in = ordered.put root_cmp (λ k. k) root (if is_in then Some root else None)

-- the roots that rows name: the keys of the root table, the groups of the table, or the whole
abbrev pub named_roots : List Layout → Form → State → List Root
named_roots layouts (ByRow table condition queries) state =
    group_candidates (key_of table layouts) (rows_of table state)
named_roots layouts (ByGroup table restriction group having aggregates) state =
    group_candidates group (rows_of table state)
named_roots layouts (Single condition queries) state = All ∷ []

-- whether a root is one of these
abbrev pub is_touched : Root → List Root → Bool
is_touched root [] = false
is_touched root (r ∷ rs) = eq_by_cmp root_cmp root r || is_touched root rs

-- each root that is not among these is bad of one state where it is bad of the other
abbrev pub KeepOthers : List Layout → Form → State → State → List Root → Type 0
KeepOthers layouts form before after touched =
    (r : Root) → is_touched r touched ≡ false → is_bad_root layouts form after r ≡ is_bad_root layouts form before r

-- the list is another with each of the touched roots in or out as it is bad
pub record AreUpdated (layouts : List Layout) (form : Form) (state : State)
    (touched bad made : List Root) : Type 0 where
  pub in_order : ordered.IsAscending root_cmp (λ k. k) made
  pub right : (r : Root) → is_among r made
      ≡ (if is_touched r touched then is_bad_root layouts form state r else is_among r bad)
