-- The rows that a query stands over, what it lists, and conditions over those rows alone.
use Rattle.std.specs.Prelude.{ℕ, Bool, true, false, List, [], ◌∷◌, Option, Some, None, is_some, unwrap_or, Result, Ok, Err}
use Rattle.std.specs.Option.{option_map}
use Rattle.value.specs.declared.refusals.Refusal.{Refusal}
use Rattle.value.specs.declared.refusals.Refusal.TheVariants.{OutsideClass}
use Rattle.table.specs.Rows.{Layout, Tables, layout_of, position_of}
use Rattle.table.specs.declared.aggregates.Aggregate.{Aggregate}
use Rattle.table.specs.declared.aggregates.Aggregate.TheVariants.{CountRows, Count, CountDistinct, Sum, SumDistinct, Min, Max}
use Rattle.syntax.specs.declared.trees.Aggregate.{Aggregate as Function}
use Rattle.syntax.specs.declared.trees.Aggregate.TheVariants as function
use Rattle.syntax.specs.declared.trees.SetQuantifier.{SetQuantifier}
use Rattle.syntax.specs.declared.trees.SetQuantifier.TheVariants.{All, Distinct}
use Rattle.syntax.specs.declared.trees.ColumnName.{ColumnName}
use Rattle.syntax.specs.declared.trees.Condition.{Condition}
use Rattle.syntax.specs.declared.trees.Condition.TheOpen.{Expression-F, SelectList-F}
use Rattle.syntax.specs.declared.trees.Expression.{Expression, out-Expression}
use Rattle.syntax.specs.declared.trees.SelectList.{SelectList, out-SelectList}
use Rattle.syntax.specs.declared.trees.Query.{Query}
use Rattle.table.specs.declared.exprs.Expr.{Expr}
use Rattle.table.specs.declared.conds.Cond.{Cond}
use Rattle.table.specs.declared.conds.Cond.TheViews as cond_of
use Rattle.form_check.specs.Scopes.{Scope, own_column}
use Rattle.form_check.specs.Columns.{at_place, of_both}
use Rattle.value.specs.Results.{and_then}
use Rattle.form_check.specs.Leaves.{Leaves, numbered, numbered_expression}

-- the table of a query by its place, and as names in the query see it
pub record Source : Type 0 where
  pub table : ℕ
  pub scope : Scope

-- a table by its place and its layout, under this name, if there is one
abbrev pub source_named : List ℕ → Option ℕ → Option Layout → Option Source
source_named name None layout = None
source_named name (Some table) None = None
source_named name (Some table) (Some layout) =
    Some (record { table = table; scope = record { exposed_name = name; layout = layout } })

-- the table that a query names, under its correlation name where one is written, if there is one
abbrev pub source_of : Tables → List ℕ → Option (List ℕ) → Option Source
source_of tables table correlation_name =
    source_named (unwrap_or correlation_name table) (position_of table tables) (layout_of table tables)

-- nothing but the row's own columns stood there
abbrev pub alone : {A : Type 0} → A → Leaves → Result A Refusal
alone made [] = Ok made
alone made (leaf ∷ rest) = Err OutsideClass

-- a condition over the rows of one table: no set function, no query and no column of another table
abbrev pub row_condition : Scope → Condition → Result Cond Refusal
row_condition scope condition = and_then (numbered (at_place (own_column scope)) condition []) (λ made. alone made.0 made.1)

-- a condition over a row of the child and the row around it, likewise
abbrev pub joint_condition : Scope → Scope → Condition → Result Cond Refusal
joint_condition child root condition =
    and_then (numbered (of_both child root) condition []) (λ made. alone made.0 made.1)

-- an expression over the rows of one table, likewise
abbrev pub row_expression : Scope → Expression → Result Expr Refusal
row_expression scope expression =
    and_then (numbered_expression (at_place (own_column scope)) expression []) (λ made. alone made.0 made.1)

-- a condition that may be missing, and then keeps every row
abbrev pub row_filter : Scope → Option Condition → Result Cond Refusal
row_filter scope None = Ok (cond_of.And [])
row_filter scope (Some condition) = row_condition scope condition

-- a set function of a column; the least value and the greatest are the same with DISTINCT
abbrev pub of_column : Function → SetQuantifier → ℕ → Aggregate
of_column function.Count All column = Count column
of_column function.Count Distinct column = CountDistinct column
of_column function.Sum All column = Sum column
of_column function.Sum Distinct column = SumDistinct column
of_column function.Min quantifier column = Min column
of_column function.Max quantifier column = Max column

-- what an expression lists, where it is one set function
abbrev pub aggregate_in : Scope → Expression-F Condition Expression SelectList Query → Option Aggregate
aggregate_in scope Expression-F.CountRows = Some CountRows
aggregate_in scope (Expression-F.Aggregate function argument) =
    option_map (of_column function argument.quantifier) (own_column scope argument.column)
aggregate_in scope other = None

-- what a select list lists, where it is one set function
abbrev pub aggregate_selected : Scope → SelectList-F Condition Expression SelectList Query → Option Aggregate
aggregate_selected scope SelectList-F.Star = None
aggregate_selected scope (SelectList-F.One expression) = aggregate_in scope (out-Expression expression)

-- the one set function that a query lists
abbrev pub selected_aggregate : Scope → SelectList → Option Aggregate
selected_aggregate scope select_list = aggregate_selected scope (out-SelectList select_list)

-- under EXISTS a query lists *, a literal or a column that may stand there
abbrev pub expression_may_stand : (ColumnName → Option ℕ) → Expression-F Condition Expression SelectList Query → Bool
expression_may_stand place (Expression-F.Number n) = true
expression_may_stand place (Expression-F.Text t) = true
expression_may_stand place (Expression-F.Column column) = is_some (place column)
expression_may_stand place other = false

-- the same of a select list
abbrev pub selection_may_stand : (ColumnName → Option ℕ) → SelectList-F Condition Expression SelectList Query → Bool
selection_may_stand place SelectList-F.Star = true
selection_may_stand place (SelectList-F.One expression) = expression_may_stand place (out-Expression expression)

-- whether a query under EXISTS may have this select list
abbrev pub may_be_selected : (ColumnName → Option ℕ) → SelectList → Bool
may_be_selected place select_list = selection_may_stand place (out-SelectList select_list)
