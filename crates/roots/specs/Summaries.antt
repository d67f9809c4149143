-- The queries of a form, and its summaries, for which totals are maintained.
use Rattle.std.specs.Prelude.{ℕ, ◌==◌, ◌&&◌, List, [], ◌∷◌, map, filter, Option, Some, None, if◌then◌else◌}
use Rattle.value.specs.declared.values.Value.{Value}
use Rattle.value.specs.declared.values.Value.TheVariants.{Null}
use Rattle.table.specs.declared.aggregates.Aggregate.{Aggregate}
use Rattle.table.specs.declared.aggregates.Aggregate.TheVariants.{CountRows}
use Rattle.table.specs.Rows.{RowValues, Layout, value_in, row_at, key_of}
use Rattle.table.specs.Aggregates.{is_there}
use Rattle.table.specs.declared.conds.Cond.{Cond}
use Rattle.table.specs.Eval.{keeps}
use Rattle.table.specs.Slotless.{has_slots}
use Rattle.assertion.specs.declared.queries.Link.{Link}
use Rattle.assertion.specs.declared.queries.Query.{Query}
use Rattle.assertion.specs.declared.queries.Whole.{Whole as AnyWhole}
use Rattle.assertion.specs.declared.forms.Form.{Form}
use Rattle.assertion.specs.declared.forms.Form.TheVariants.{ByRow, ByGroup, Single}
use Rattle.assertion.specs.Meaning.{State, links, rows_of}
use Rattle.groups.specs.Answers.{value_for}
use Rattle.groups.specs.Members.{rows_in, members_of}
use Rattle.groups.specs.Totals.{Members}
use Rattle.roots.specs.declared.grouped.Around.{Around}
use Rattle.roots.specs.declared.grouped.Grouping.{Grouping}
use Rattle.roots.specs.declared.grouped.Grouping.TheVariants.{Whole, By, Linked, ByKey, PerRow}

-- the group of a row by itself: all rows are one group; or they go by a column, where NULL is a group; or by a linked
-- column, where it is none. Where the filter asks what the row around holds, a row by itself is of no group
abbrev pub group_of : Grouping → RowValues → Option Value
group_of Whole row = Some Null
group_of (By column) row = Some (value_in column row)
group_of (Linked link) row =
    if is_there (value_in link.inner row) then Some (value_in link.inner row) else None
group_of (ByKey link) row = None
group_of (PerRow around) row = None

-- the group to which a row goes by itself, if WHERE keeps it
abbrev pub place : Query Grouping → RowValues → Option Value
place q row = if keeps row [] q.filter then group_of q.grouping row else None

-- the rows around, where each of them is a group
abbrev pub around_of : Grouping → Option Around
around_of Whole = None
around_of (By column) = None
around_of (Linked link) = None
around_of (ByKey link) = None
around_of (PerRow around) = Some around

-- the link by which the one row of a query is looked up
abbrev pub key_link : Grouping → Option Link
key_link Whole = None
key_link (By column) = None
key_link (Linked link) = None
key_link (ByKey link) = Some link
key_link (PerRow around) = None

-- the rows that are linked to a row, and that a filter keeps beside it
abbrev pub rows_beside : Link → Cond → List RowValues → RowValues → List RowValues
rows_beside link restriction rows row = filter (λ linked. links link row linked && keeps linked row restriction) rows

-- none where there is no such row
abbrev pub rows_beside_one : Link → Cond → List RowValues → Option RowValues → List RowValues
rows_beside_one link restriction rows None = []
rows_beside_one link restriction rows (Some row) = rows_beside link restriction rows row

-- the rows of a group: those that go to it by themselves; or where a row around is the group, those beside the one
-- under this key
abbrev pub group_rows_by : Option Around → State → Query Grouping → Value → List RowValues
group_rows_by None state q v = rows_in (place q) (rows_of q.table state) v
group_rows_by (Some around) state q v =
    rows_beside_one around.link q.filter (rows_of q.table state) (row_at around.key v (rows_of around.table state))

-- the rows of a group, whichever way the rows of the query are grouped
abbrev pub group_rows : State → Query Grouping → Value → List RowValues
group_rows state q v = group_rows_by (around_of q.grouping) state q v

-- each group of these rows by themselves with what the set function looks at in its rows
abbrev pub row_members : Query Grouping → List RowValues → Members
row_members q rows = members_of (place q) (value_for q.aggregate) rows

-- each group with what the set function looks at in its rows
abbrev pub members : State → Query Grouping → Members
members state q = λ v. map (value_for q.aggregate) (group_rows state q v)

-- a query with groups of this kind
abbrev pub query_with_grouping : {G : Type 0} → Grouping → Query G → Query Grouping
query_with_grouping grouping q =
    record { table = q.table; filter = q.filter; grouping = grouping; aggregate = q.aggregate }

-- how the rows of a subquery of a table's rows are grouped: by what its link compares; where its filter asks what the
-- row around holds, by the rows around, and not at all where its link names one row by its key
abbrev pub linked_grouping : List Layout → ℕ → Query Link → Grouping
linked_grouping layouts table q =
    if has_slots q.filter then
    if q.grouping.inner == key_of q.table layouts then ByKey q.grouping
    else PerRow (record { table = table; key = key_of table layouts; link = q.grouping })
    else Linked q.grouping

-- a subquery of a table's rows, with its rows grouped so
abbrev pub linked_query : List Layout → ℕ → Query Link → Query Grouping
linked_query layouts table q = query_with_grouping (linked_grouping layouts table q) q

-- a query of a single condition, all rows of which are one group
abbrev pub whole_query : Query AnyWhole → Query Grouping
whole_query q = query_with_grouping Whole q

-- a set function of HAVING, as a query of which each group has its own total
abbrev pub group_query : ℕ → Cond → ℕ → Aggregate → Query Grouping
group_query table restriction group a =
    record { table = table; filter = restriction; grouping = By group; aggregate = a }

-- the queries of the slots of a form's condition, in order
abbrev pub queries_of : List Layout → Form → List (Query Grouping)
queries_of layouts (ByRow table condition queries) = map (linked_query layouts table) queries
queries_of layouts (ByGroup table restriction group having aggregates) =
    map (group_query table restriction group) aggregates
queries_of layouts (Single condition queries) = map whole_query queries

-- the set functions that groups are summed up for: those of HAVING, or where it has none the count of rows
abbrev pub summed_up : List Aggregate → List Aggregate
summed_up [] = CountRows ∷ []
summed_up (a ∷ aggregates) = a ∷ aggregates

-- the summaries of a form, the queries whose totals are maintained: those of its slots, and of groups at least one
abbrev pub summaries_of : List Layout → Form → List (Query Grouping)
summaries_of layouts (ByRow table condition queries) = map (linked_query layouts table) queries
summaries_of layouts (ByGroup table restriction group having aggregates) =
    map (group_query table restriction group) (summed_up aggregates)
summaries_of layouts (Single condition queries) = map whole_query queries
