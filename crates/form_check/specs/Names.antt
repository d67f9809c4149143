-- The first name of a condition that stands for nothing, in the order in which names are looked up.
use Rattle.std.specs.Prelude.{List, [], ◌∷◌, Option, Some, None, unwrap_or}
use Rattle.std.specs.Option.{option_or}
use Rattle.value.specs.declared.refusals.Refusal.{Refusal}
use Rattle.value.specs.declared.refusals.Refusal.TheVariants.{UnknownName}
use Rattle.table.specs.Rows.{Layout, Tables, layout_of}
use Rattle.syntax.specs.declared.trees.ColumnName.{ColumnName}
use Rattle.syntax.specs.declared.trees.Condition.{Condition}
use Rattle.syntax.specs.declared.trees.Condition.TheOpen.{Condition-F, Expression-F, SelectList-F, Query-F}
use Rattle.syntax.specs.declared.trees.Condition.TheFolds.{fold-Condition, fold-Expression, fold-SelectList, fold-Query}
use Rattle.syntax.specs.declared.trees.Expression.{Expression}
use Rattle.syntax.specs.declared.trees.SelectList.{SelectList}
use Rattle.syntax.specs.declared.trees.Query.{Query}
use Rattle.form_check.specs.Scopes.{Scopes, column_fault}

-- what is wrong with the names of a part, seen from the tables around it
abbrev pub Fault : Type 0
Fault = Scopes → Option Refusal

-- parts from the left
abbrev pub parts_fault : List Fault → Fault
parts_fault [] scopes = None
parts_fault (part ∷ rest) scopes = option_or (part scopes) (parts_fault rest scopes)

-- a part that may be missing
abbrev pub part_fault : Option Fault → Fault
part_fault None scopes = None
part_fault (Some part) scopes = part scopes

-- the column of GROUP BY, if there is one
abbrev pub group_fault : Option ColumnName → Fault
group_fault None scopes = None
group_fault (Some column) scopes = column_fault column scopes

-- an expression, with what is wrong with each part in its place
abbrev pub expression_step : Expression-F Fault Fault Fault Fault → Fault
expression_step (Expression-F.Number n) scopes = None
expression_step (Expression-F.Text t) scopes = None
expression_step (Expression-F.Column column) scopes = column_fault column scopes
expression_step Expression-F.CountRows scopes = None
expression_step (Expression-F.Aggregate function argument) scopes = column_fault argument.column scopes
expression_step (Expression-F.Subquery query) scopes = query scopes
expression_step (Expression-F.Negation part) scopes = part scopes
expression_step (Expression-F.Sum parts) scopes = parts_fault parts scopes
expression_step (Expression-F.Product parts) scopes = parts_fault parts scopes

-- a condition
abbrev pub condition_step : Condition-F Fault Fault Fault Fault → Fault
condition_step (Condition-F.Or parts) scopes = parts_fault parts scopes
condition_step (Condition-F.And parts) scopes = parts_fault parts scopes
condition_step (Condition-F.Not part) scopes = part scopes
condition_step (Condition-F.Is part truth) scopes = part scopes
condition_step (Condition-F.Exists query) scopes = query scopes
condition_step (Condition-F.Compare left comparison right) scopes = option_or (left scopes) (right scopes)
condition_step (Condition-F.IsNull part) scopes = part scopes
condition_step (Condition-F.Between subject low high) scopes =
    option_or (subject scopes) (option_or (low scopes) (high scopes))
condition_step (Condition-F.In subject values) scopes = option_or (subject scopes) (parts_fault values scopes)

-- what a query lists
abbrev pub select_list_step : SelectList-F Fault Fault Fault Fault → Fault
select_list_step SelectList-F.Star scopes = None
select_list_step (SelectList-F.One part) scopes = part scopes

-- a query's list, WHERE, GROUP BY and HAVING, seen from its own table inside those around it
abbrev pub clauses_fault : Query-F Fault Fault Fault Fault → Fault
clauses_fault query scopes =
    option_or (query.select_list scopes)
    (option_or (part_fault query.keeps scopes)
    (option_or (group_fault query.group scopes) (part_fault query.having scopes)))

-- what is wrong in a query whose table is this one, if there is such a table
abbrev pub inner_fault : Option Layout → Query-F Fault Fault Fault Fault → Fault
inner_fault None query scopes = Some (UnknownName query.table)
inner_fault (Some layout) query scopes =
    clauses_fault query
    (record { exposed_name = unwrap_or query.correlation_name query.table; layout = layout } ∷ scopes)

-- a query: its table first
abbrev pub query_step : Tables → Query-F Fault Fault Fault Fault → Fault
query_step tables query scopes = inner_fault (layout_of query.table tables) query scopes

-- what is wrong with the names of a condition, an expression, a list or a query
abbrev pub condition_fault : Tables → Condition → Fault
condition_fault tables =
    fold-Condition Fault Fault Fault Fault condition_step expression_step select_list_step (query_step tables)

-- the same of an expression
abbrev pub expression_fault : Tables → Expression → Fault
expression_fault tables =
    fold-Expression Fault Fault Fault Fault condition_step expression_step select_list_step (query_step tables)

-- the same of what a query lists
abbrev pub select_list_fault : Tables → SelectList → Fault
select_list_fault tables =
    fold-SelectList Fault Fault Fault Fault condition_step expression_step select_list_step (query_step tables)

-- the same of a query
abbrev pub query_fault : Tables → Query → Fault
query_fault tables =
    fold-Query Fault Fault Fault Fault condition_step expression_step select_list_step (query_step tables)
