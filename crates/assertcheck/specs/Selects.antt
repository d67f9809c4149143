-- SELECT with its names found, or its first fault (ISO/IEC 9075:1992, 7.9).
use Rattle.std.specs.Prelude.{Bool, true, false, ◌&&◌, List, [], ◌∷◌, map, All, Option, Some, None, Result, Ok, Err, IsSome, is_some}
use Rattle.std.specs.List.{list_all}
use Rattle.std.specs.Option.{option_or}
use Rattle.value.specs.declared.refusals.Refusal.{Refusal}
use Rattle.value.specs.declared.refusals.Refusal.TheVariants.{TypeMismatch, TooWide}
use Rattle.value.specs.Results.{and_then, each, if_holds, result_of_name, unless}
use Rattle.table.specs.declared.schemas.Column.{Column}
use Rattle.table.specs.declared.exprs.Expr.{Expr}
use Rattle.table.specs.declared.exprs.Expr.TheVariants as expr_of
use Rattle.table.specs.Bounds.{bound_of, is_bounded}
use Rattle.table.specs.Rows.{Tables}
use Rattle.syntax.specs.declared.statements.DerivedColumn.{DerivedColumn}
use Rattle.syntax.specs.declared.statements.Select.{Select as Written}
use Rattle.form_check.specs.Scopes.{Scope}
use Rattle.form_check.specs.Names.{expression_fault}
use Rattle.form_check.specs.Queries.{Source, source_of, row_expression, row_filter}
use Rattle.assertcheck.specs.declared.selects.Listing.{Listing}
use Rattle.assertcheck.specs.declared.selects.Listing.TheVariants.{EachRow, EachGroup}
use Rattle.assertcheck.specs.declared.selects.Select.{Select}
use Rattle.assertcheck.specs.Conditions.{filter_fault}
use Rattle.assertcheck.specs.Groupings.{IsBoundedGrouping, grouping_fault, grouping_of, is_bounded_grouping, is_grouped, is_typed_grouping}
use Rattle.assertcheck.specs.Statements.{places_from}
use Rattle.assertcheck.specs.Types.{expression_type, is_typed_condition}

-- the table of a SELECT, under its correlation name where one is written
abbrev pub selected_source : Tables → Written → Result Source Refusal
selected_source tables select = result_of_name select.table (source_of tables select.table select.correlation_name)

-- the first fault in the names of derived columns, from the left
abbrev pub columns_fault : Tables → Scope → List DerivedColumn → Option Refusal
columns_fault tables scope [] = None
columns_fault tables scope (column ∷ columns) =
    option_or (expression_fault tables column.value (scope ∷ [])) (columns_fault tables scope columns)

-- the same, where columns are written
abbrev pub listed_fault : Tables → Scope → Option (List DerivedColumn) → Option Refusal
listed_fault tables scope None = None
listed_fault tables scope (Some columns) = columns_fault tables scope columns

-- what is wrong with the names of a SELECT behind its table: what it lists, WHERE, GROUP BY and HAVING
abbrev pub selected_fault : Tables → Scope → Written → Option Refusal
selected_fault tables scope select =
    option_or (listed_fault tables scope select.columns)
    (option_or (filter_fault tables scope select.keeps)
    (option_or (grouping_fault scope select.group_by) (filter_fault tables scope select.having)))

-- derived columns over each row of the table
abbrev pub derived_of : Scope → List DerivedColumn → Result (List Expr) Refusal
derived_of scope columns = each (λ (column : DerivedColumn). row_expression scope column.value) columns

-- what is listed of each row: derived columns, or for * all columns of the table
abbrev pub each_row_of : Scope → Option (List DerivedColumn) → Result (List Expr) Refusal
each_row_of scope None = Ok (map expr_of.Column (places_from 0 scope.layout.columns))
each_row_of scope (Some columns) = derived_of scope columns

-- what a SELECT lists, by whether it is of groups
abbrev pub listing_by : Scope → Written → Bool → Result Listing Refusal
listing_by scope select true = and_then (grouping_of scope select) (λ grouping. Ok (EachGroup grouping))
listing_by scope select false = and_then (each_row_of scope select.columns) (λ values. Ok (EachRow values))

-- what a SELECT lists
abbrev pub listing_of : Scope → Written → Result Listing Refusal
listing_of scope select = listing_by scope select (is_grouped select)

-- whether each listed expression has a type
abbrev pub is_typed_listing : List Column → Listing → Bool
is_typed_listing columns (EachRow values) = list_all (λ value. is_some (expression_type columns [] value)) values
is_typed_listing columns (EachGroup grouping) = is_typed_grouping columns grouping

-- whether each listed expression has a bound
abbrev pub is_bounded_listing : Listing → Bool
is_bounded_listing (EachRow values) = list_all (λ value. is_some (bound_of [] value)) values
is_bounded_listing (EachGroup grouping) = is_bounded_grouping grouping

-- what is listed is evaluated without overflow
abbrev pub IsBoundedListing : Listing → Type 0
IsBoundedListing (EachRow values) = All (λ (value : Expr). IsSome (bound_of [] value)) values
IsBoundedListing (EachGroup grouping) = IsBoundedGrouping grouping

-- whether what is listed is of each row
abbrev pub is_of_each_row : Listing → Bool
is_of_each_row (EachRow values) = true
is_of_each_row (EachGroup grouping) = false

-- whether a SELECT could be made, and lists each row
abbrev pub lists_each_row : Result Select Refusal → Bool
lists_each_row (Ok select) = is_of_each_row select.listing
lists_each_row (Err refusal) = false

-- the SELECT, if all its expressions and its conditions are typed, and then if all are bounded
abbrev pub sound_select : List Column → Select → Result Select Refusal
sound_select columns select =
    if_holds (is_typed_listing columns select.listing && is_typed_condition columns [] select.filter) TypeMismatch (
    if_holds (is_bounded_listing select.listing && is_bounded [] select.filter) TooWide (
    Ok select))

-- the SELECT of a table, where what it lists and its conditions are of the table's rows and their groups alone
abbrev pub select_over : Source → Written → Result Select Refusal
select_over target select =
    and_then (listing_of target.scope select) (λ listing.
    and_then (row_filter target.scope select.keeps) (λ restriction.
    sound_select target.scope.layout.columns
    (record { table = target.table; listing = listing; filter = restriction })))

-- SELECT: the table, the names in what it lists and in its clauses; then shapes, types and widths
abbrev pub select_of : Tables → Written → Result Select Refusal
select_of tables select =
    and_then (selected_source tables select) (λ target.
    unless (selected_fault tables target.scope select) (select_over target select))
