-- A condition over the columns of one table, with a slot for each set function and query in it.
use Rattle.std.specs.Prelude.{List, [], ◌∷◌, ◌++◌, length, map, Option, Result, Ok}
use Rattle.value.specs.declared.comparisons.Comparison.{Comparison}
use Rattle.value.specs.declared.values.Value.TheVariants as value
use Rattle.value.specs.declared.refusals.Refusal.{Refusal}
use Rattle.table.specs.declared.exprs.Expr.{Expr}
use Rattle.table.specs.declared.exprs.Expr.TheVariants as expr
use Rattle.table.specs.declared.exprs.Expr.TheViews as expr_of
use Rattle.table.specs.declared.conds.Cond.{Cond}
use Rattle.table.specs.declared.conds.Cond.TheVariants as cond
use Rattle.table.specs.declared.conds.Cond.TheViews as cond_of
use Rattle.table.specs.Conditions.{between_of, in_of}
use Rattle.syntax.specs.declared.trees.Aggregate.{Aggregate}
use Rattle.syntax.specs.declared.trees.Argument.{Argument}
use Rattle.syntax.specs.declared.trees.ColumnName.{ColumnName}
use Rattle.syntax.specs.declared.trees.Condition.{Condition}
use Rattle.syntax.specs.declared.trees.Condition.TheOpen.{Condition-F, Expression-F, SelectList-F, Query-F}
use Rattle.syntax.specs.declared.trees.Condition.TheFolds.{para-Condition, para-Expression}
use Rattle.syntax.specs.declared.trees.Expression.{Expression}
use Rattle.syntax.specs.declared.trees.SelectList.{SelectList}
use Rattle.syntax.specs.declared.trees.Query.{Query}
use Rattle.value.specs.Results.{and_then}
use Rattle.form_check.specs.Results.{in_class}

-- what stands in a slot: COUNT(*), a set function of a column, a query under EXISTS, or one that stands for its value
pub data Leaf : Type 0 where
  Rows : Leaf
  Of : Aggregate → Argument → Leaf
  Exists : Query → Leaf
  Value : Query → Leaf

-- what stands in the slots of a condition, by the numbers of the slots
abbrev pub Leaves : Type 0
Leaves = List Leaf

-- what a part becomes, behind the slots that were found before it, with the slots then found; or its refusal
abbrev pub Numbering : Type 0 → Type 0
Numbering A = Leaves → Result (A × Leaves) Refusal

-- a part made into another
abbrev pub then_made : {A B : Type 0} → (A → B) → Result (A × Leaves) Refusal → Result (B × Leaves) Refusal
then_made make made = and_then made (λ m. Ok (make m.0, m.1))

-- two parts from the left
abbrev pub both : {A B C : Type 0} → (A → B → C) → Numbering A → Numbering B → Numbering C
both make left right leaves = and_then (left leaves) (λ l. then_made (make l.0) (right l.1))

-- parts from the left, each beside its tree
abbrev pub all : {X A : Type 0} → List (X × Numbering A) → Numbering (List A)
all [] leaves = Ok ([], leaves)
all (part ∷ rest) leaves = and_then (part.1 leaves) (λ first. then_made (λ others. first.0 ∷ others) (all rest first.1))

-- a comparison, BETWEEN and IN by what their expressions become
abbrev pub comparison_of : Comparison → Numbering Expr → Numbering Expr → Numbering Cond
comparison_of comparison left right = both (λ a b. cond.Compare comparison a b) left right

-- a BETWEEN, by what its three expressions become, from the left
abbrev pub between : Numbering Expr → Numbering Expr → Numbering Expr → Numbering Cond
between subject low high leaves = and_then (subject leaves) (λ s. both (between_of s.0) low high s.1)

-- an IN, by what its expression and its list become
abbrev pub in_predicate_of : Numbering Expr → Numbering (List Expr) → Numbering Cond
in_predicate_of subject values = both in_of subject values

-- what a column's name means, where it may stand there
abbrev pub expression_of_column : Option Expr → Numbering Expr
expression_of_column meant leaves = in_class meant (λ e. Ok (e, leaves))

-- a slot more, the next one by its number, with what stands in it
abbrev pub slot : Leaf → Numbering Expr
slot leaf leaves = Ok (expr.Slot (length leaves), leaves ++ leaf ∷ [])

-- an expression, with each part and what it becomes in its place
abbrev pub expression_step : (ColumnName → Option Expr)
    → Expression-F (Condition × Numbering Cond) (Expression × Numbering Expr) (SelectList × Unit {0}) (Query × Unit {0})
    → Numbering Expr
expression_step place (Expression-F.Number n) leaves = Ok (expr.Literal (value.Int n), leaves)
expression_step place (Expression-F.Text t) leaves = Ok (expr.Literal (value.Text t), leaves)
expression_step place (Expression-F.Column column) leaves = expression_of_column (place column) leaves
expression_step place Expression-F.CountRows leaves = slot Rows leaves
expression_step place (Expression-F.Aggregate function argument) leaves = slot (Of function argument) leaves
expression_step place (Expression-F.Subquery query) leaves = slot (Value query.0) leaves
expression_step place (Expression-F.Negation part) leaves = then_made expr_of.Negation (part.1 leaves)
expression_step place (Expression-F.Sum parts) leaves = then_made expr_of.Sum (all parts leaves)
expression_step place (Expression-F.Product parts) leaves = then_made expr_of.Product (all parts leaves)

-- a condition, likewise
abbrev pub condition_step : (ColumnName → Option Expr)
    → Condition-F (Condition × Numbering Cond) (Expression × Numbering Expr) (SelectList × Unit {0}) (Query × Unit {0})
    → Numbering Cond
condition_step place (Condition-F.Or parts) leaves = then_made cond_of.Or (all parts leaves)
condition_step place (Condition-F.And parts) leaves = then_made cond_of.And (all parts leaves)
condition_step place (Condition-F.Not part) leaves = then_made cond_of.Not (part.1 leaves)
condition_step place (Condition-F.Is part truth) leaves = then_made (λ c. cond_of.Is c truth) (part.1 leaves)
condition_step place (Condition-F.Exists query) leaves = Ok (cond.Exists (length leaves), leaves ++ Exists query.0 ∷ [])
condition_step place (Condition-F.Compare left comparison right) leaves = comparison_of comparison left.1 right.1 leaves
condition_step place (Condition-F.IsNull part) leaves = then_made cond.IsNull (part.1 leaves)
condition_step place (Condition-F.Between subject low high) leaves = between subject.1 low.1 high.1 leaves
condition_step place (Condition-F.In subject values) leaves = in_predicate_of subject.1 (all values) leaves

-- what a query lists has no slots of its own: the query stands whole in one
abbrev pub select_list_step : SelectList-F (Condition × Numbering Cond) (Expression × Numbering Expr) (SelectList
    × Unit {0}) (Query × Unit {0}) → Unit {0}
select_list_step select_list = tt

-- nor has a query
abbrev pub query_step : Query-F (Condition × Numbering Cond) (Expression × Numbering Expr) (SelectList
    × Unit {0}) (Query × Unit {0}) → Unit {0}
query_step query = tt

-- a condition with its columns found by their names, and each set function and query in a slot of its own, from the
-- left; `place` says what a column's name means there, if anything
unfoldable pub numbered : (ColumnName → Option Expr) → Condition → Numbering Cond
numbered place =
    para-Condition (Numbering Cond) (Numbering Expr) (Unit {0}) (Unit {0}) (condition_step place)
    (expression_step place)
    select_list_step query_step

-- an expression, likewise
unfoldable pub numbered_expression : (ColumnName → Option Expr) → Expression → Numbering Expr
numbered_expression place =
    para-Expression (Numbering Cond) (Numbering Expr) (Unit {0}) (Unit {0}) (condition_step place)
    (expression_step place) select_list_step query_step

-- several conditions, or expressions, from the left
unfoldable pub numbered_conditions : (ColumnName → Option Expr) → List Condition → Numbering (List Cond)
numbered_conditions place parts = all (map (λ part. (part, numbered place part)) parts)

-- several expressions, from the left
unfoldable pub numbered_expressions : (ColumnName → Option Expr) → List Expression → Numbering (List Expr)
numbered_expressions place parts = all (map (λ part. (part, numbered_expression place part)) parts)
