-- Conditions, expressions and queries with values in the places of their parameters: each number that is a parameter
-- is its value, in reading order.
use Rattle.syntax.specs.declared.trees.Condition.{Condition}
use Rattle.syntax.specs.declared.trees.Condition.TheVariants as b
use Rattle.syntax.specs.declared.trees.Condition.TheOpen.{Condition-F, Expression-F, SelectList-F, Query-F}
use Rattle.syntax.specs.declared.trees.Condition.TheFolds.{fold-Condition, fold-Expression, fold-SelectList, fold-Query}
use Rattle.syntax.specs.declared.trees.Expression.{Expression}
use Rattle.syntax.specs.declared.trees.Expression.TheVariants as e
use Rattle.syntax.specs.declared.trees.SelectList.{SelectList}
use Rattle.syntax.specs.declared.trees.SelectList.TheVariants as which
use Rattle.syntax.specs.declared.trees.Query.{Query}
use Rattle.syntax.specs.Grammar.{query_of}
use Rattle.prepared.specs.Constants.{Filling, and_then, then_made, same, both, all, if_there, next, expression_of}

-- an expression with what its parts become
abbrev pub ExpressionLayer : Type 0
ExpressionLayer = Expression-F (Filling Condition) (Filling Expression) (Filling SelectList) (Filling Query)

-- a condition with what its parts become
abbrev pub ConditionLayer : Type 0
ConditionLayer = Condition-F (Filling Condition) (Filling Expression) (Filling SelectList) (Filling Query)

-- a select list with what its part becomes
abbrev pub SelectListLayer : Type 0
SelectListLayer = SelectList-F (Filling Condition) (Filling Expression) (Filling SelectList) (Filling Query)

-- a query with what its clauses become
abbrev pub QueryLayer : Type 0
QueryLayer = Query-F (Filling Condition) (Filling Expression) (Filling SelectList) (Filling Query)

-- an expression, with what each part becomes in its place
abbrev pub expression_step : ExpressionLayer → Filling Expression
expression_step (Expression-F.Number n) constants = next expression_of (e.Number n) constants
expression_step (Expression-F.Text t) constants = same (e.Text t) constants
expression_step (Expression-F.Column column) constants = same (e.Column column) constants
expression_step Expression-F.CountRows constants = same e.CountRows constants
expression_step (Expression-F.Aggregate function argument) constants = same (e.Aggregate function argument) constants
expression_step (Expression-F.Subquery query) constants = then_made e.Subquery (query constants)
expression_step (Expression-F.Negation part) constants = then_made e.Negation (part constants)
expression_step (Expression-F.Sum parts) constants = then_made e.Sum (all parts constants)
expression_step (Expression-F.Product parts) constants = then_made e.Product (all parts constants)

-- a condition, likewise
abbrev pub condition_step : ConditionLayer → Filling Condition
condition_step (Condition-F.Or parts) constants = then_made b.Or (all parts constants)
condition_step (Condition-F.And parts) constants = then_made b.And (all parts constants)
condition_step (Condition-F.Not part) constants = then_made b.Not (part constants)
condition_step (Condition-F.Is part truth) constants = then_made (λ c. b.Is c truth) (part constants)
condition_step (Condition-F.Exists query) constants = then_made b.Exists (query constants)
condition_step (Condition-F.Compare left comparison right) constants =
    both (λ l r. b.Compare l comparison r) left right constants
condition_step (Condition-F.IsNull part) constants = then_made b.IsNull (part constants)
condition_step (Condition-F.Between subject low high) constants =
    and_then (subject constants) (λ s. both (b.Between s.0) low high s.1)
condition_step (Condition-F.In subject values) constants = both b.In subject (all values) constants

-- what a query lists, likewise
abbrev pub select_list_step : SelectListLayer → Filling SelectList
select_list_step SelectList-F.Star constants = same which.Star constants
select_list_step (SelectList-F.One part) constants = then_made which.One (part constants)

-- a query: its list, WHERE and HAVING
abbrev pub query_step : QueryLayer → Filling Query
query_step query constants =
    and_then (query.select_list constants) (λ list.
    both (λ keeps having. query_of list.0 query.table query.correlation_name keeps query.group having)
    (if_there query.keeps) (if_there query.having) list.1)

-- a condition with values in the places of its parameters
abbrev pub filled_condition : Condition → Filling Condition
filled_condition =
    fold-Condition (Filling Condition) (Filling Expression) (Filling SelectList) (Filling Query) condition_step
    expression_step select_list_step query_step

-- an expression with values in the places of its parameters
abbrev pub filled_expression : Expression → Filling Expression
filled_expression =
    fold-Expression (Filling Condition) (Filling Expression) (Filling SelectList) (Filling Query) condition_step
    expression_step select_list_step query_step

-- a select list with values in the places of its parameters
abbrev pub filled_select_list : SelectList → Filling SelectList
filled_select_list =
    fold-SelectList (Filling Condition) (Filling Expression) (Filling SelectList) (Filling Query) condition_step
    expression_step select_list_step query_step

-- a query with values in the places of its parameters
abbrev pub filled_query : Query → Filling Query
filled_query =
    fold-Query (Filling Condition) (Filling Expression) (Filling SelectList)
    (Filling Query) condition_step expression_step
    select_list_step query_step
