-- Expressions and conditions over groups of a table's rows (ISO/IEC 9075:1992, 6.5, 7.7 to 7.9).
use Rattle.std.specs.Prelude.{ℕ, Bool, true, false, List, [], Result, Ok}
use Rattle.value.specs.declared.refusals.Refusal.{Refusal}
use Rattle.value.specs.Results.{and_then, each}
use Rattle.table.specs.Slotless.{some_true}
use Rattle.syntax.specs.declared.trees.ColumnName.{ColumnName}
use Rattle.syntax.specs.declared.trees.Condition.{Condition}
use Rattle.syntax.specs.declared.trees.Condition.TheOpen.{Expression-F}
use Rattle.syntax.specs.declared.trees.Condition.TheFolds.{fold-Expression}
use Rattle.syntax.specs.declared.trees.Expression.{Expression}
use Rattle.form_check.specs.Scopes.{Scope, own_column}
use Rattle.form_check.specs.Columns.{grouped_column, at_place}
use Rattle.form_check.specs.Leaves.{numbered, numbered_expression}
use Rattle.form_check.specs.Results.{in_class}
use Rattle.form_check.specs.Forms.{aggregate_of}
use Rattle.form_check.specs.declared.summaries.Summary.{Summary}
use Rattle.form_check.specs.declared.summaries.GroupCondition.{GroupCondition}

-- an expression, with whether a set function stands in each part
abbrev pub set_function_step : Expression-F Bool Bool Bool Bool → Bool
set_function_step (Expression-F.Number n) = false
set_function_step (Expression-F.Text t) = false
set_function_step (Expression-F.Column column) = false
set_function_step Expression-F.CountRows = true
set_function_step (Expression-F.Aggregate function argument) = true
set_function_step (Expression-F.Subquery query) = false
set_function_step (Expression-F.Negation part) = part
set_function_step (Expression-F.Sum parts) = some_true parts
set_function_step (Expression-F.Product parts) = some_true parts

-- whether a set function stands in an expression outside its queries
abbrev pub has_set_function : Expression → Bool
has_set_function =
    fold-Expression Bool Bool Bool Bool (λ condition. false) set_function_step (λ select_list. false) (λ query. false)

-- the places of the columns of GROUP BY
abbrev pub grouping_columns : Scope → List ColumnName → Result (List ℕ) Refusal
grouping_columns scope names = each (λ (name : ColumnName). in_class (own_column scope name) (λ c. Ok c)) names

-- an expression with a set function of the table in each of its slots; outside them only columns of GROUP BY stand
abbrev pub summary_of : Scope → List ℕ → Expression → Result Summary Refusal
summary_of scope grouping expression =
    and_then (numbered_expression (at_place (grouped_column scope grouping)) expression []) (λ made.
    and_then (each (aggregate_of scope) made.1) (λ aggregates.
    Ok (record { aggregates = aggregates; value = made.0 })))

-- a condition of HAVING, likewise
abbrev pub group_condition_of : Scope → List ℕ → Condition → Result GroupCondition Refusal
group_condition_of scope grouping condition =
    and_then (numbered (at_place (grouped_column scope grouping)) condition []) (λ made.
    and_then (each (aggregate_of scope) made.1) (λ aggregates.
    Ok (record { aggregates = aggregates; condition = made.0 })))
