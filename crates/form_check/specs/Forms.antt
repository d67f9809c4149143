-- The form of an assertion's condition.
use Rattle.std.specs.Prelude.{ℕ, [], Option, Some, None, Result, Ok, Err}
use Rattle.value.specs.declared.refusals.Refusal.{Refusal}
use Rattle.value.specs.declared.refusals.Refusal.TheVariants.{OutsideClass}
use Rattle.table.specs.Rows.{Tables}
use Rattle.table.specs.declared.aggregates.Aggregate.{Aggregate}
use Rattle.table.specs.declared.aggregates.Aggregate.TheVariants.{CountRows}
use Rattle.table.specs.declared.conds.Cond.{Cond}
use Rattle.table.specs.declared.conds.Cond.TheViews as cond_of
use Rattle.syntax.specs.declared.trees.ColumnName.{ColumnName}
use Rattle.syntax.specs.declared.trees.Condition.{Condition, out-Condition}
use Rattle.syntax.specs.declared.trees.Condition.TheOpen.{Condition-F, Query-F}
use Rattle.syntax.specs.declared.trees.Expression.{Expression}
use Rattle.syntax.specs.declared.trees.SelectList.{SelectList}
use Rattle.syntax.specs.declared.trees.Query.{Query, out-Query}
use Rattle.assertion.specs.declared.queries.Query.{Query as Subquery}
use Rattle.assertion.specs.declared.queries.Link.{Link}
use Rattle.assertion.specs.declared.queries.Whole.{Whole}
use Rattle.assertion.specs.declared.forms.Form.{Form}
use Rattle.assertion.specs.declared.forms.Form.TheVariants.{ByRow, ByGroup, Single}
use Rattle.form_check.specs.Scopes.{Scope, own_column}
use Rattle.value.specs.Results.{and_then, each}
use Rattle.form_check.specs.Results.{in_class, only_if}
use Rattle.form_check.specs.Columns.{no_column, grouping_column, at_place}
use Rattle.form_check.specs.Leaves.{Leaf, Leaves, Rows, Of, Exists, Value, numbered}
use Rattle.form_check.specs.Queries.{Source, source_of, row_filter, of_column, selected_aggregate, may_be_selected}
use Rattle.form_check.specs.Links.{top_parts, first_link, filter_parts}

-- a query's clauses, with its conditions and its list as trees
abbrev pub Clauses : Type 0
Clauses = Query-F Condition Expression SelectList Query

-- ---- queries of a row

-- a query of a row by its WHERE: its link, and the other parts as what filters its rows
abbrev pub linked_by : Source → Scope → Aggregate → Condition → Result (Subquery Link) Refusal
linked_by child root aggregate condition =
    in_class (first_link child.scope root (top_parts condition)) (λ link.
    and_then (filter_parts child.scope root (top_parts condition)) (λ filters.
    Ok (record { table = child.table; filter = cond_of.And filters; grouping = link; aggregate = aggregate })))

-- a query of a row has WHERE, and neither GROUP BY nor HAVING
abbrev pub linked_filter : Source → Scope → Aggregate → Option Condition → Option ColumnName → Option Condition
    → Result (Subquery Link) Refusal
linked_filter child root aggregate (Some condition) None None = linked_by child root aggregate condition
linked_filter child root aggregate None group having = Err OutsideClass
linked_filter child root aggregate (Some condition) (Some group) having = Err OutsideClass
linked_filter child root aggregate (Some condition) None (Some having) = Err OutsideClass

-- a query of a row under EXISTS: the count of its rows
abbrev pub linked_exists : Tables → Scope → Clauses → Result (Subquery Link) Refusal
linked_exists tables root query =
    in_class (source_of tables query.table query.correlation_name) (λ child.
    only_if (may_be_selected (own_column child.scope) query.select_list)
    (linked_filter child root CountRows query.keeps query.group query.having))

-- a query of a row that stands for its value: one set function
abbrev pub linked_value : Tables → Scope → Clauses → Result (Subquery Link) Refusal
linked_value tables root query =
    in_class (source_of tables query.table query.correlation_name) (λ child.
    in_class (selected_aggregate child.scope query.select_list) (λ aggregate.
    linked_filter child root aggregate query.keeps query.group query.having))

-- what stands in a slot of a condition over a row
abbrev pub slot_query_of : Tables → Scope → Leaf → Result (Subquery Link) Refusal
slot_query_of tables root Rows = Err OutsideClass
slot_query_of tables root (Of function argument) = Err OutsideClass
slot_query_of tables root (Exists query) = linked_exists tables root (out-Query query)
slot_query_of tables root (Value query) = linked_value tables root (out-Query query)

-- ---- queries of their own

-- a query of its own: one set function over rows that its WHERE keeps, and neither GROUP BY nor HAVING
abbrev pub plain_by : Source → Option Aggregate → Option Condition → Option ColumnName → Option Condition
    → Result (Subquery Whole) Refusal
plain_by source aggregate keeps None None =
    in_class aggregate (λ a.
    and_then (row_filter source.scope keeps) (λ filter.
    Ok (record { table = source.table; filter = filter; grouping = record {}; aggregate = a })))
plain_by source aggregate keeps (Some group) having = Err OutsideClass
plain_by source aggregate keeps None (Some having) = Err OutsideClass

-- a query of its own that stands for its value
abbrev pub plain_value : Tables → Clauses → Result (Subquery Whole) Refusal
plain_value tables query =
    in_class (source_of tables query.table query.correlation_name) (λ source.
    plain_by source (selected_aggregate source.scope query.select_list) query.keeps query.group query.having)

-- what stands in a slot of a single condition
abbrev pub plain : Tables → Leaf → Result (Subquery Whole) Refusal
plain tables Rows = Err OutsideClass
plain tables (Of function argument) = Err OutsideClass
plain tables (Exists query) = Err OutsideClass
plain tables (Value query) = plain_value tables (out-Query query)

-- what stands in a slot of a condition over groups: a set function of the table's rows
abbrev pub aggregate_of : Scope → Leaf → Result Aggregate Refusal
aggregate_of scope Rows = Ok CountRows
aggregate_of scope (Of function argument) =
    in_class (own_column scope argument.column) (λ c. Ok (of_column function argument.quantifier c))
aggregate_of scope (Exists query) = Err OutsideClass
aggregate_of scope (Value query) = Err OutsideClass

-- ---- forms

-- a condition over the rows of one table with its slots; a missing one keeps every row
abbrev pub row_where : Scope → Option Condition → Result (Cond × Leaves) Refusal
row_where scope None = Ok (cond_of.And [], [])
row_where scope (Some condition) = numbered (at_place (own_column scope)) condition []

-- by rows: the condition of WHERE over a row, with a query in each of its slots
abbrev pub by_row : Tables → Source → Clauses → Result Form Refusal
by_row tables source query =
    only_if (may_be_selected (own_column source.scope) query.select_list) (
    and_then (row_where source.scope query.keeps) (λ made.
    and_then (each (slot_query_of tables source.scope) made.1) (λ queries. Ok (ByRow source.table made.0 queries))))

-- by groups, behind WHERE: the condition of HAVING over a group, with a set function in each of its slots
abbrev pub having_over : Source → ℕ → Cond → Condition → Result Form Refusal
having_over source group restriction having =
    and_then (numbered (at_place (grouping_column source.scope group)) having []) (λ made.
    and_then (each (aggregate_of source.scope) made.1) (λ aggregates.
    Ok (ByGroup source.table restriction group made.0 aggregates)))

-- by groups: the grouping column, what is listed, WHERE and HAVING
abbrev pub by_group : Source → Clauses → ColumnName → Condition → Result Form Refusal
by_group source query column having =
    in_class (own_column source.scope column) (λ group.
    only_if (may_be_selected (grouping_column source.scope group) query.select_list) (
    and_then (row_filter source.scope query.keeps) (λ restriction. having_over source group restriction having)))

-- without GROUP BY and HAVING by rows, with both by groups
abbrev pub by_clauses : Tables → Source → Clauses → Option ColumnName → Option Condition → Result Form Refusal
by_clauses tables source query None None = by_row tables source query
by_clauses tables source query (Some column) (Some having) = by_group source query column having
by_clauses tables source query None (Some having) = Err OutsideClass
by_clauses tables source query (Some column) None = Err OutsideClass

-- the form of NOT EXISTS of a query
abbrev pub not_exists : Tables → Clauses → Result Form Refusal
not_exists tables query =
    in_class (source_of tables query.table query.correlation_name) (λ source.
    by_clauses tables source query query.group query.having)

-- a single condition: over no row, with a query of its own in each of its slots
abbrev pub single : Tables → Condition → Result Form Refusal
single tables condition =
    and_then (numbered (at_place no_column) condition []) (λ made.
    and_then (each (plain tables) made.1) (λ queries. Ok (Single made.0 queries)))

-- the condition under a NOT
abbrev pub form_of_negation : Tables → Condition → Condition-F Condition Expression SelectList Query
    → Result Form Refusal
form_of_negation tables whole (Condition-F.Exists query) = not_exists tables (out-Query query)
form_of_negation tables whole other = single tables whole

-- a condition by whether it is a NOT
abbrev pub form_in : Tables → Condition → Condition-F Condition Expression SelectList Query → Result Form Refusal
form_in tables whole (Condition-F.Not part) = form_of_negation tables whole (out-Condition part)
form_in tables whole other = single tables whole

-- NOT EXISTS of a query is by rows or by groups, and all else is a single condition
abbrev pub form_of : Tables → Condition → Result Form Refusal
form_of tables condition = form_in tables condition (out-Condition condition)
