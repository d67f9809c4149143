-- What a SELECT lists of groups of rows (ISO/IEC 9075:1992, 7.7 to 7.9).
use Rattle.std.specs.Prelude.{ℕ, Bool, true, false, ◌&&◌, ◌||◌, List, [], ◌∷◌, map, All, Option, Some, None, Result, Ok, IsSome, IsTrue, is_some}
use Rattle.std.specs.List.{list_all, list_any}
use Rattle.std.specs.Option.{option_and_then, option_or}
use Rattle.value.specs.declared.refusals.Refusal.{Refusal}
use Rattle.value.specs.Results.{and_then, each}
use Rattle.table.specs.declared.schemas.Column.{Column}
use Rattle.table.specs.declared.exprs.Expr.TheVariants as expr
use Rattle.table.specs.Bounds.{bound_of, is_bounded}
use Rattle.table.specs.Kinds.{kind_of_aggregate}
use Rattle.syntax.specs.declared.trees.ColumnName.{ColumnName}
use Rattle.syntax.specs.declared.trees.Condition.{Condition}
use Rattle.syntax.specs.declared.statements.DerivedColumn.{DerivedColumn}
use Rattle.syntax.specs.declared.statements.Select.{Select as Written}
use Rattle.form_check.specs.Columns.{among}
use Rattle.form_check.specs.Results.{in_class}
use Rattle.form_check.specs.Scopes.{Scope, column_fault}
use Rattle.form_check.specs.Summaries.{group_condition_of, grouping_columns, has_set_function, summary_of}
use Rattle.form_check.specs.declared.summaries.GroupCondition.{GroupCondition}
use Rattle.form_check.specs.declared.summaries.Summary.{Summary}
use Rattle.assertcheck.specs.declared.groupings.Grouping.{Grouping}
use Rattle.assertcheck.specs.Forms.{all_types, is_typed_over}
use Rattle.assertcheck.specs.Statements.{places_from}
use Rattle.assertcheck.specs.Types.{aggregate_type, expression_type}

-- whether a set function stands in one of some derived columns
abbrev pub have_set_functions : List DerivedColumn → Bool
have_set_functions columns = list_any (λ column. has_set_function column.value) columns

-- the same, where columns are written
abbrev pub lists_set_functions : Option (List DerivedColumn) → Bool
lists_set_functions None = false
lists_set_functions (Some columns) = have_set_functions columns

-- whether a SELECT is of groups: with GROUP BY, with HAVING, or where a set function stands in what it lists
abbrev pub is_grouped : Written → Bool
is_grouped select = is_some select.group_by || is_some select.having || lists_set_functions select.columns

-- the first fault in some names of columns, from the left
abbrev pub names_fault : Scope → List ColumnName → Option Refusal
names_fault scope [] = None
names_fault scope (name ∷ names) = option_or (column_fault name (scope ∷ [])) (names_fault scope names)

-- the same, where GROUP BY is written
abbrev pub grouping_fault : Scope → Option (List ColumnName) → Option Refusal
grouping_fault scope None = None
grouping_fault scope (Some names) = names_fault scope names

-- the places of the columns of GROUP BY; none where it is not written
abbrev pub grouped_by : Scope → Option (List ColumnName) → Result (List ℕ) Refusal
grouped_by scope None = Ok []
grouped_by scope (Some names) = grouping_columns scope names

-- for * a column of the table, which has to be one of GROUP BY
abbrev pub own_summary : List ℕ → ℕ → Result Summary Refusal
own_summary grouping place =
    in_class (among grouping (Some place)) (λ column. Ok (record { aggregates = []; value = expr.Column column }))

-- what is listed of each group: derived columns, or for * all columns of the table
abbrev pub summaries_of : Scope → List ℕ → Option (List DerivedColumn) → Result (List Summary) Refusal
summaries_of scope grouping None = each (own_summary grouping) (places_from 0 scope.layout.columns)
summaries_of scope grouping (Some columns) =
    each (λ (column : DerivedColumn). summary_of scope grouping column.value) columns

-- the condition of HAVING, if it is written
abbrev pub having_of : Scope → List ℕ → Option Condition → Result (Option GroupCondition) Refusal
having_of scope grouping None = Ok None
having_of scope grouping (Some condition) =
    and_then (group_condition_of scope grouping condition) (λ made. Ok (Some made))

-- GROUP BY, HAVING, and what is listed of each group
abbrev pub grouping_of : Scope → Written → Result Grouping Refusal
grouping_of scope select =
    and_then (grouped_by scope select.group_by) (λ columns.
    and_then (summaries_of scope columns select.columns) (λ values.
    and_then (having_of scope columns select.having) (λ having.
    Ok (record { columns = columns; having = having; values = values }))))

-- whether an expression over a group has a type, over rows of these columns
abbrev pub is_typed_summary : List Column → Summary → Bool
is_typed_summary columns summary =
    is_some (option_and_then (λ slots. expression_type columns slots summary.value)
    (all_types (map (aggregate_type columns) summary.aggregates)))

-- whether the condition of HAVING is typed
abbrev pub is_typed_having : List Column → Option GroupCondition → Bool
is_typed_having columns None = true
is_typed_having columns (Some having) =
    is_typed_over columns (all_types (map (aggregate_type columns) having.aggregates)) having.condition

-- whether all that is over groups is typed
abbrev pub is_typed_grouping : List Column → Grouping → Bool
is_typed_grouping columns grouping =
    list_all (is_typed_summary columns) grouping.values && is_typed_having columns grouping.having

-- whether an expression over a group has a bound
abbrev pub is_bounded_summary : Summary → Bool
is_bounded_summary summary = is_some (bound_of (map kind_of_aggregate summary.aggregates) summary.value)

-- whether the condition of HAVING is bounded
abbrev pub is_bounded_having : Option GroupCondition → Bool
is_bounded_having None = true
is_bounded_having (Some having) = is_bounded (map kind_of_aggregate having.aggregates) having.condition

-- whether all that is over groups is bounded
abbrev pub is_bounded_grouping : Grouping → Bool
is_bounded_grouping grouping = list_all is_bounded_summary grouping.values && is_bounded_having grouping.having

-- an expression over a group is evaluated without overflow
abbrev pub IsBoundedSummary : Summary → Type 0
IsBoundedSummary summary = IsSome (bound_of (map kind_of_aggregate summary.aggregates) summary.value)

-- all that is over groups is evaluated without overflow
pub record IsBoundedGrouping (grouping : Grouping) : Type 0 where
  pub values : All IsBoundedSummary grouping.values
  pub having : IsTrue (is_bounded_having grouping.having)
