-- The numbers of a tree are those of its text: each rule of the written grammar keeps them.
use Rattle.std.proofs.Common.{◌≡◌, ℕ, ℤ, List, [], ◌∷◌, ◌++◌, map, Option, Some, None, refl, sym, ap, ◌∙◌, append-nil}
use Rattle.std.specs.Prelude.{unsigned_abs}
use Rattle.std.specs.List.{flat_map}
use Rattle.value.specs.declared.truths.Truth.{Truth}
use Rattle.value.specs.declared.comparisons.Comparison.{Comparison}
use Rattle.syntax.specs.declared.trees.Aggregate.{Aggregate}
use Rattle.syntax.specs.declared.trees.Argument.{Argument}
use Rattle.syntax.specs.declared.trees.ColumnName.{ColumnName}
use Rattle.syntax.specs.declared.trees.Condition.{Condition, roll-Condition, out-Condition}
use Rattle.syntax.specs.declared.trees.Condition.TheVariants as b
use Rattle.syntax.specs.declared.trees.Condition.TheOpen.{Condition-F, Expression-F, SelectList-F, Query-F}
use Rattle.syntax.specs.declared.trees.Condition.TheFolds.{map-Condition, map-Expression, map-SelectList, map-Query, fold-roll-Condition, fold-roll-Expression, fold-roll-SelectList, fold-roll-Query, fold_out-Condition, fold_out-Expression}
use Rattle.syntax.specs.declared.trees.Expression.{Expression, roll-Expression, out-Expression}
use Rattle.syntax.specs.declared.trees.Expression.TheVariants as e
use Rattle.syntax.specs.declared.trees.SelectList.{SelectList, roll-SelectList}
use Rattle.syntax.specs.declared.trees.SelectList.TheVariants as which
use Rattle.syntax.specs.declared.trees.Query.{Query, roll-Query}
use Rattle.syntax.specs.Grammar as g
use Rattle.prepared.specs.Numerals.{Numerals, numerals_of_parts, condition_step, expression_step, select_list_step, query_step, condition_numerals, expression_numerals, select_list_numerals, query_numerals}
use Rattle.prepared.proofs.Yields.{joined_append, some_numerals}

-- ---- the numbers of each kind of tree

expression_rolled : (layer : Expression-F Condition Expression SelectList Query)
    → expression_numerals (roll-Expression layer) ≡ expression_step (map-Expression Condition Expression SelectList Query Numerals Numerals Numerals Numerals condition_numerals expression_numerals select_list_numerals query_numerals layer)
unfolding expression_numerals condition_numerals select_list_numerals query_numerals
expression_rolled layer = fold-roll-Expression Numerals Numerals Numerals Numerals condition_step expression_step select_list_step query_step layer

condition_rolled : (layer : Condition-F Condition Expression SelectList Query)
    → condition_numerals (roll-Condition layer) ≡ condition_step (map-Condition Condition Expression SelectList Query Numerals Numerals Numerals Numerals condition_numerals expression_numerals select_list_numerals query_numerals layer)
unfolding expression_numerals condition_numerals select_list_numerals query_numerals
condition_rolled layer = fold-roll-Condition Numerals Numerals Numerals Numerals condition_step expression_step select_list_step query_step layer

select_list_rolled : (layer : SelectList-F Condition Expression SelectList Query)
    → select_list_numerals (roll-SelectList layer) ≡ select_list_step (map-SelectList Condition Expression SelectList Query Numerals Numerals Numerals Numerals condition_numerals expression_numerals select_list_numerals query_numerals layer)
unfolding expression_numerals condition_numerals select_list_numerals query_numerals
select_list_rolled layer = fold-roll-SelectList Numerals Numerals Numerals Numerals condition_step expression_step select_list_step query_step layer

query_rolled : (layer : Query-F Condition Expression SelectList Query)
    → query_numerals (roll-Query layer) ≡ query_step (map-Query Condition Expression SelectList Query Numerals Numerals Numerals Numerals condition_numerals expression_numerals select_list_numerals query_numerals layer)
unfolding expression_numerals condition_numerals select_list_numerals query_numerals
query_rolled layer = fold-roll-Query Numerals Numerals Numerals Numerals condition_step expression_step select_list_step query_step layer

pub of_number : (n : ℤ) → expression_numerals (e.Number n) ≡ unsigned_abs n ∷ []
of_number n = ap expression_numerals (sym (e.rolls-Number n)) ∙ expression_rolled (Expression-F.Number n)

pub of_text : (t : List ℕ) → expression_numerals (e.Text t) ≡ []
of_text t = ap expression_numerals (sym (e.rolls-Text t)) ∙ expression_rolled (Expression-F.Text t)

pub of_column : (column : ColumnName) → expression_numerals (e.Column column) ≡ []
of_column column = ap expression_numerals (sym (e.rolls-Column column)) ∙ expression_rolled (Expression-F.Column column)

pub of_countrows : expression_numerals e.CountRows ≡ []
of_countrows = ap expression_numerals (sym e.rolls-CountRows) ∙ expression_rolled Expression-F.CountRows

pub of_aggregate : (function : Aggregate) (argument : Argument) → expression_numerals (e.Aggregate function argument) ≡ []
of_aggregate function argument = ap expression_numerals (sym (e.rolls-Aggregate function argument)) ∙ expression_rolled (Expression-F.Aggregate function argument)

pub of_subquery : (query : Query) → expression_numerals (e.Subquery query) ≡ query_numerals query
of_subquery query = ap expression_numerals (sym (e.rolls-Subquery query)) ∙ expression_rolled (Expression-F.Subquery query)

pub of_negation : (part : Expression) → expression_numerals (e.Negation part) ≡ expression_numerals part
of_negation part = ap expression_numerals (sym (e.rolls-Negation part)) ∙ expression_rolled (Expression-F.Negation part)

sum_layer : (parts : List Expression) → expression_numerals (e.Sum parts) ≡ numerals_of_parts (map expression_numerals parts)
sum_layer parts = ap expression_numerals (sym (e.rolls-Sum parts)) ∙ expression_rolled (Expression-F.Sum parts)

product_layer : (parts : List Expression) → expression_numerals (e.Product parts) ≡ numerals_of_parts (map expression_numerals parts)
product_layer parts = ap expression_numerals (sym (e.rolls-Product parts)) ∙ expression_rolled (Expression-F.Product parts)

or_layer : (parts : List Condition) → condition_numerals (b.Or parts) ≡ numerals_of_parts (map condition_numerals parts)
or_layer parts = ap condition_numerals (sym (b.rolls-Or parts)) ∙ condition_rolled (Condition-F.Or parts)

and_layer : (parts : List Condition) → condition_numerals (b.And parts) ≡ numerals_of_parts (map condition_numerals parts)
and_layer parts = ap condition_numerals (sym (b.rolls-And parts)) ∙ condition_rolled (Condition-F.And parts)

pub of_not : (part : Condition) → condition_numerals (b.Not part) ≡ condition_numerals part
of_not part = ap condition_numerals (sym (b.rolls-Not part)) ∙ condition_rolled (Condition-F.Not part)

pub of_is : (part : Condition) (truth : Truth) → condition_numerals (b.Is part truth) ≡ condition_numerals part
of_is part truth = ap condition_numerals (sym (b.rolls-Is part truth)) ∙ condition_rolled (Condition-F.Is part truth)

pub of_exists : (query : Query) → condition_numerals (b.Exists query) ≡ query_numerals query
of_exists query = ap condition_numerals (sym (b.rolls-Exists query)) ∙ condition_rolled (Condition-F.Exists query)

pub of_compare : (left : Expression) (comparison : Comparison) (right : Expression) → condition_numerals (b.Compare left comparison right) ≡ expression_numerals left ++ expression_numerals right
of_compare left comparison right = ap condition_numerals (sym (b.rolls-Compare left comparison right)) ∙ condition_rolled (Condition-F.Compare left comparison right)

pub of_isnull : (part : Expression) → condition_numerals (b.IsNull part) ≡ expression_numerals part
of_isnull part = ap condition_numerals (sym (b.rolls-IsNull part)) ∙ condition_rolled (Condition-F.IsNull part)

pub of_between : (subject low high : Expression) → condition_numerals (b.Between subject low high) ≡ expression_numerals subject ++ (expression_numerals low ++ expression_numerals high)
of_between subject low high = ap condition_numerals (sym (b.rolls-Between subject low high)) ∙ condition_rolled (Condition-F.Between subject low high)

pub of_in : (subject : Expression) (values : List Expression) → condition_numerals (b.In subject values) ≡ expression_numerals subject ++ numerals_of_parts (map expression_numerals values)
of_in subject values = ap condition_numerals (sym (b.rolls-In subject values)) ∙ condition_rolled (Condition-F.In subject values)

pub of_star : select_list_numerals which.Star ≡ []
of_star = ap select_list_numerals (sym which.rolls-Star) ∙ select_list_rolled SelectList-F.Star

pub of_one : (part : Expression) → select_list_numerals (which.One part) ≡ expression_numerals part
of_one part = ap select_list_numerals (sym (which.rolls-One part)) ∙ select_list_rolled (SelectList-F.One part)

pub of_query : (list : SelectList) (table : List ℕ) (name : Option (List ℕ)) (keeps : Option Condition) (group : Option ColumnName) (having : Option Condition)
    → query_numerals (g.query_of list table name keeps group having) ≡ select_list_numerals list ++ (some_numerals condition_numerals keeps ++ some_numerals condition_numerals having)
of_query list table name None group None = query_rolled (record { select_list = list; table = table; correlation_name = name; keeps = None; group = group; having = None })
of_query list table name None group (Some h) = query_rolled (record { select_list = list; table = table; correlation_name = name; keeps = None; group = group; having = Some h })
of_query list table name (Some k) group None = query_rolled (record { select_list = list; table = table; correlation_name = name; keeps = Some k; group = group; having = None })
of_query list table name (Some k) group (Some h) = query_rolled (record { select_list = list; table = table; correlation_name = name; keeps = Some k; group = group; having = Some h })

-- ---- lists of parts, with those of the same kind merged into them

expression_out : (x : Expression) → expression_numerals x ≡ expression_step (map-Expression Condition Expression SelectList Query Numerals Numerals Numerals Numerals condition_numerals expression_numerals select_list_numerals query_numerals (out-Expression x))
unfolding expression_numerals condition_numerals select_list_numerals query_numerals
expression_out x = fold_out-Expression Numerals Numerals Numerals Numerals condition_step expression_step select_list_step query_step x

condition_out : (x : Condition) → condition_numerals x ≡ condition_step (map-Condition Condition Expression SelectList Query Numerals Numerals Numerals Numerals condition_numerals expression_numerals select_list_numerals query_numerals (out-Condition x))
unfolding expression_numerals condition_numerals select_list_numerals query_numerals
condition_out x = fold_out-Condition Numerals Numerals Numerals Numerals condition_step expression_step select_list_step query_step x

abbrev ExpressionStep : Expression → Expression-F Condition Expression SelectList Query → Type 0
ExpressionStep x layer = expression_numerals x ≡ expression_step (map-Expression Condition Expression SelectList Query Numerals Numerals Numerals Numerals condition_numerals expression_numerals select_list_numerals query_numerals layer)

abbrev ConditionStep : Condition → Condition-F Condition Expression SelectList Query → Type 0
ConditionStep x layer = condition_numerals x ≡ condition_step (map-Condition Condition Expression SelectList Query Numerals Numerals Numerals Numerals condition_numerals expression_numerals select_list_numerals query_numerals layer)

product_merged : (x : Expression) (layer : Expression-F Condition Expression SelectList Query) → ExpressionStep x layer → numerals_of_parts (map expression_numerals (g.product_layer x layer)) ≡ expression_numerals x
product_merged x (Expression-F.Product parts) is = sym is
product_merged x _ is = append-nil (expression_numerals x)

sum_merged : (x : Expression) (layer : Expression-F Condition Expression SelectList Query) → ExpressionStep x layer → numerals_of_parts (map expression_numerals (g.sum_layer x layer)) ≡ expression_numerals x
sum_merged x (Expression-F.Sum parts) is = sym is
sum_merged x _ is = append-nil (expression_numerals x)

and_merged : (x : Condition) (layer : Condition-F Condition Expression SelectList Query) → ConditionStep x layer → numerals_of_parts (map condition_numerals (g.and_layer x layer)) ≡ condition_numerals x
and_merged x (Condition-F.And parts) is = sym is
and_merged x _ is = append-nil (condition_numerals x)

or_merged : (x : Condition) (layer : Condition-F Condition Expression SelectList Query) → ConditionStep x layer → numerals_of_parts (map condition_numerals (g.or_layer x layer)) ≡ condition_numerals x
or_merged x (Condition-F.Or parts) is = sym is
or_merged x _ is = append-nil (condition_numerals x)

-- lists of parts that are merged have the same numbers
all_merged : {A : Type 0} (parts : A → List A) (of : A → Numerals) → ((x : A) → numerals_of_parts (map of (parts x)) ≡ of x) → (xs : List A) → numerals_of_parts (map of (flat_map parts xs)) ≡ numerals_of_parts (map of xs)
all_merged parts of e [] = refl
all_merged parts of e (x ∷ xs) =
    joined_append of (parts x) (flat_map parts xs) ∙ ap (λ z. z ++ numerals_of_parts (map of (flat_map parts xs))) (e x) ∙ ap (λ z. of x ++ z) (all_merged parts of e xs)

alone_merged : {A : Type 0} (parts : A → List A) (join : List A → A) (of : A → Numerals) → ((x : A) → numerals_of_parts (map of (parts x)) ≡ of x) → ((xs : List A) → of (join xs) ≡ numerals_of_parts (map of xs))
    → (xs : List A) → of (g.alone_or parts join xs) ≡ numerals_of_parts (map of xs)
alone_merged parts join of merged joins [] = joins []
alone_merged parts join of merged joins (x ∷ []) = sym (append-nil (of x))
alone_merged parts join of merged joins (x ∷ y ∷ xs) = joins (flat_map parts (x ∷ y ∷ xs)) ∙ all_merged parts of merged (x ∷ y ∷ xs)

pub of_product : (xs : List Expression) → expression_numerals (g.product_of xs) ≡ numerals_of_parts (map expression_numerals xs)
unfolding g.product_of g.product_parts
of_product xs = alone_merged g.product_parts e.Product expression_numerals (λ x. product_merged x (out-Expression x) (expression_out x)) product_layer xs

pub of_sum : (xs : List Expression) → expression_numerals (g.sum_of xs) ≡ numerals_of_parts (map expression_numerals xs)
unfolding g.sum_of g.sum_parts
of_sum xs = alone_merged g.sum_parts e.Sum expression_numerals (λ x. sum_merged x (out-Expression x) (expression_out x)) sum_layer xs

pub of_and : (xs : List Condition) → condition_numerals (g.and_of xs) ≡ numerals_of_parts (map condition_numerals xs)
unfolding g.and_of g.and_parts
of_and xs = alone_merged g.and_parts b.And condition_numerals (λ x. and_merged x (out-Condition x) (condition_out x)) and_layer xs

pub of_or : (xs : List Condition) → condition_numerals (g.or_of xs) ≡ numerals_of_parts (map condition_numerals xs)
unfolding g.or_of g.or_parts
of_or xs = alone_merged g.or_parts b.Or condition_numerals (λ x. or_merged x (out-Condition x) (condition_out x)) or_layer xs
