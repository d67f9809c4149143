-- What each kind of condition and expression becomes when it is numbered: the definitions read off at each variant.
use Rattle.std.proofs.Common.{◌≡◌, ℕ, ℤ, Option, List, [], ◌∷◌, ◌++◌, length, Ok, refl, ap, sym, ◌∙◌, map}
use Rattle.value.specs.declared.truths.Truth.{Truth}
use Rattle.value.specs.declared.values.Value.TheVariants as value
use Rattle.value.specs.declared.comparisons.Comparison.{Comparison}
use Rattle.syntax.specs.declared.trees.Aggregate.{Aggregate}
use Rattle.syntax.specs.declared.trees.Argument.{Argument}
use Rattle.syntax.specs.declared.trees.ColumnName.{ColumnName}
use Rattle.syntax.specs.declared.trees.Condition.{Condition, roll-Condition}
use Rattle.syntax.specs.declared.trees.Condition.TheVariants as b
use Rattle.syntax.specs.declared.trees.Condition.TheOpen.{Condition-F, Expression-F}
use Rattle.syntax.specs.declared.trees.Condition.TheFolds.{map-Condition, map-Expression, para-roll-Condition, para-roll-Expression}
use Rattle.syntax.specs.declared.trees.Expression.{Expression, roll-Expression}
use Rattle.syntax.specs.declared.trees.Expression.TheVariants as e
use Rattle.syntax.specs.declared.trees.SelectList.{SelectList}
use Rattle.syntax.specs.declared.trees.Query.{Query}
use Rattle.table.specs.declared.exprs.Expr.{Expr}
use Rattle.table.specs.declared.exprs.Expr.TheVariants as expr
use Rattle.table.specs.declared.exprs.Expr.TheViews as expr_of
use Rattle.table.specs.declared.conds.Cond.{Cond}
use Rattle.table.specs.declared.conds.Cond.TheVariants as cond
use Rattle.table.specs.declared.conds.Cond.TheViews as cond_of
use Rattle.form_check.specs.Leaves.{Leaves, Numbering, Rows, Of, Exists, Value, expression_of_column, slot, then_made, comparison_of, between, in_predicate_of, all, numbered, numbered_expression, numbered_conditions, numbered_expressions, expression_step, condition_step, select_list_step, query_step}

-- an expression by its layer
pub expression_rolled : (place : ColumnName → Option Expr) (layer : Expression-F Condition Expression SelectList Query)
    → numbered_expression place (roll-Expression layer) ≡ expression_step place (map-Expression Condition Expression SelectList Query (Condition × Numbering Cond) (Expression × Numbering Expr) (SelectList × Unit {0}) (Query × Unit {0}) (λ c. (c, numbered place c)) (λ e. (e, numbered_expression place e)) (λ l. (l, tt)) (λ q. (q, tt)) layer)
unfolding numbered numbered_expression
expression_rolled place layer = para-roll-Expression (Numbering Cond) (Numbering Expr) (Unit {0}) (Unit {0}) (condition_step place) (expression_step place) select_list_step query_step layer

-- a condition by its layer
pub condition_rolled : (place : ColumnName → Option Expr) (layer : Condition-F Condition Expression SelectList Query)
    → numbered place (roll-Condition layer) ≡ condition_step place (map-Condition Condition Expression SelectList Query (Condition × Numbering Cond) (Expression × Numbering Expr) (SelectList × Unit {0}) (Query × Unit {0}) (λ c. (c, numbered place c)) (λ e. (e, numbered_expression place e)) (λ l. (l, tt)) (λ q. (q, tt)) layer)
unfolding numbered numbered_expression
condition_rolled place layer = para-roll-Condition (Numbering Cond) (Numbering Expr) (Unit {0}) (Unit {0}) (condition_step place) (expression_step place) select_list_step query_step layer

pub expression_number : (place : ColumnName → Option Expr) (n : ℤ) (leaves : Leaves) → numbered_expression place (e.Number n) leaves ≡ Ok (expr.Literal (value.Int n), leaves)
expression_number place n leaves = ap (λ x. numbered_expression place x leaves) (sym (e.rolls-Number n)) ∙ ap (λ make. make leaves) (expression_rolled place (Expression-F.Number n))

pub expression_text : (place : ColumnName → Option Expr) (t : List ℕ) (leaves : Leaves) → numbered_expression place (e.Text t) leaves ≡ Ok (expr.Literal (value.Text t), leaves)
expression_text place t leaves = ap (λ x. numbered_expression place x leaves) (sym (e.rolls-Text t)) ∙ ap (λ make. make leaves) (expression_rolled place (Expression-F.Text t))

pub expression_column : (place : ColumnName → Option Expr) (column : ColumnName) (leaves : Leaves) → numbered_expression place (e.Column column) leaves ≡ expression_of_column (place column) leaves
expression_column place column leaves = ap (λ x. numbered_expression place x leaves) (sym (e.rolls-Column column)) ∙ ap (λ make. make leaves) (expression_rolled place (Expression-F.Column column))

pub expression_countrows : (place : ColumnName → Option Expr) (leaves : Leaves) → numbered_expression place e.CountRows leaves ≡ slot Rows leaves
expression_countrows place leaves = ap (λ x. numbered_expression place x leaves) (sym e.rolls-CountRows) ∙ ap (λ make. make leaves) (expression_rolled place Expression-F.CountRows)

pub expression_aggregate : (place : ColumnName → Option Expr) (function : Aggregate) (argument : Argument) (leaves : Leaves) → numbered_expression place (e.Aggregate function argument) leaves ≡ slot (Of function argument) leaves
expression_aggregate place function argument leaves = ap (λ x. numbered_expression place x leaves) (sym (e.rolls-Aggregate function argument)) ∙ ap (λ make. make leaves) (expression_rolled place (Expression-F.Aggregate function argument))

pub expression_subquery : (place : ColumnName → Option Expr) (query : Query) (leaves : Leaves) → numbered_expression place (e.Subquery query) leaves ≡ slot (Value query) leaves
expression_subquery place query leaves = ap (λ x. numbered_expression place x leaves) (sym (e.rolls-Subquery query)) ∙ ap (λ make. make leaves) (expression_rolled place (Expression-F.Subquery query))

pub expression_negation : (place : ColumnName → Option Expr) (part : Expression) (leaves : Leaves) → numbered_expression place (e.Negation part) leaves ≡ then_made expr_of.Negation (numbered_expression place part leaves)
expression_negation place part leaves = ap (λ x. numbered_expression place x leaves) (sym (e.rolls-Negation part)) ∙ ap (λ make. make leaves) (expression_rolled place (Expression-F.Negation part))

pub expression_sum : (place : ColumnName → Option Expr) (parts : List Expression) (leaves : Leaves) → numbered_expression place (e.Sum parts) leaves ≡ then_made expr_of.Sum (numbered_expressions place parts leaves)
unfolding numbered_expressions
expression_sum place parts leaves = ap (λ x. numbered_expression place x leaves) (sym (e.rolls-Sum parts)) ∙ ap (λ make. make leaves) (expression_rolled place (Expression-F.Sum parts))

pub expression_product : (place : ColumnName → Option Expr) (parts : List Expression) (leaves : Leaves) → numbered_expression place (e.Product parts) leaves ≡ then_made expr_of.Product (numbered_expressions place parts leaves)
unfolding numbered_expressions
expression_product place parts leaves = ap (λ x. numbered_expression place x leaves) (sym (e.rolls-Product parts)) ∙ ap (λ make. make leaves) (expression_rolled place (Expression-F.Product parts))

pub condition_or : (place : ColumnName → Option Expr) (parts : List Condition) (leaves : Leaves) → numbered place (b.Or parts) leaves ≡ then_made cond_of.Or (numbered_conditions place parts leaves)
unfolding numbered_conditions
condition_or place parts leaves = ap (λ x. numbered place x leaves) (sym (b.rolls-Or parts)) ∙ ap (λ make. make leaves) (condition_rolled place (Condition-F.Or parts))

pub condition_and : (place : ColumnName → Option Expr) (parts : List Condition) (leaves : Leaves) → numbered place (b.And parts) leaves ≡ then_made cond_of.And (numbered_conditions place parts leaves)
unfolding numbered_conditions
condition_and place parts leaves = ap (λ x. numbered place x leaves) (sym (b.rolls-And parts)) ∙ ap (λ make. make leaves) (condition_rolled place (Condition-F.And parts))

pub condition_not : (place : ColumnName → Option Expr) (part : Condition) (leaves : Leaves) → numbered place (b.Not part) leaves ≡ then_made cond_of.Not (numbered place part leaves)
condition_not place part leaves = ap (λ x. numbered place x leaves) (sym (b.rolls-Not part)) ∙ ap (λ make. make leaves) (condition_rolled place (Condition-F.Not part))

pub condition_is : (place : ColumnName → Option Expr) (part : Condition) (truth : Truth) (leaves : Leaves) → numbered place (b.Is part truth) leaves ≡ then_made (λ c. cond_of.Is c truth) (numbered place part leaves)
condition_is place part truth leaves = ap (λ x. numbered place x leaves) (sym (b.rolls-Is part truth)) ∙ ap (λ make. make leaves) (condition_rolled place (Condition-F.Is part truth))

pub condition_exists : (place : ColumnName → Option Expr) (query : Query) (leaves : Leaves) → numbered place (b.Exists query) leaves ≡ Ok (cond.Exists (length leaves), leaves ++ Exists query ∷ [])
condition_exists place query leaves = ap (λ x. numbered place x leaves) (sym (b.rolls-Exists query)) ∙ ap (λ make. make leaves) (condition_rolled place (Condition-F.Exists query))

pub condition_compare : (place : ColumnName → Option Expr) (left : Expression) (comparison : Comparison) (right : Expression) (leaves : Leaves) → numbered place (b.Compare left comparison right) leaves ≡ comparison_of comparison (numbered_expression place left) (numbered_expression place right) leaves
condition_compare place left comparison right leaves = ap (λ x. numbered place x leaves) (sym (b.rolls-Compare left comparison right)) ∙ ap (λ make. make leaves) (condition_rolled place (Condition-F.Compare left comparison right))

pub condition_isnull : (place : ColumnName → Option Expr) (part : Expression) (leaves : Leaves) → numbered place (b.IsNull part) leaves ≡ then_made cond.IsNull (numbered_expression place part leaves)
condition_isnull place part leaves = ap (λ x. numbered place x leaves) (sym (b.rolls-IsNull part)) ∙ ap (λ make. make leaves) (condition_rolled place (Condition-F.IsNull part))

pub condition_between : (place : ColumnName → Option Expr) (subject low high : Expression) (leaves : Leaves) → numbered place (b.Between subject low high) leaves ≡ between (numbered_expression place subject) (numbered_expression place low) (numbered_expression place high) leaves
condition_between place subject low high leaves = ap (λ x. numbered place x leaves) (sym (b.rolls-Between subject low high)) ∙ ap (λ make. make leaves) (condition_rolled place (Condition-F.Between subject low high))

pub condition_in : (place : ColumnName → Option Expr) (subject : Expression) (values : List Expression) (leaves : Leaves) → numbered place (b.In subject values) leaves ≡ in_predicate_of (numbered_expression place subject) (numbered_expressions place values) leaves
unfolding numbered_expressions
condition_in place subject values leaves = ap (λ x. numbered place x leaves) (sym (b.rolls-In subject values)) ∙ ap (λ make. make leaves) (condition_rolled place (Condition-F.In subject values))

-- several of them, as parts from the left
pub expressions_are : (place : ColumnName → Option Expr) (parts : List Expression) (leaves : Leaves)
    → numbered_expressions place parts leaves ≡ all (map (λ part. (part, numbered_expression place part)) parts) leaves
unfolding numbered_expressions
expressions_are place parts leaves = refl

pub conditions_are : (place : ColumnName → Option Expr) (parts : List Condition) (leaves : Leaves)
    → numbered_conditions place parts leaves ≡ all (map (λ part. (part, numbered place part)) parts) leaves
unfolding numbered_conditions
conditions_are place parts leaves = refl
