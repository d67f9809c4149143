-- A SELECT that lists each row knows its names, and its last step refuses what the whole refuses.
use Rattle.std.proofs.Common.{◌≡◌, ◌≢◌, ◌∙◌, ℕ, Bool, true, false, Option, Some, None, Result, Ok, Err, List, [], ◌∷◌, refl, ap, sym}
use Rattle.std.specs.Prelude.{IfOk, IfErr, ◌||◌, is_ok, is_some}
use Rattle.std.specs.Option.{ok_or, option_or}
use Rattle.value.specs.declared.refusals.Refusal.{Refusal}
use Rattle.value.specs.declared.refusals.Refusal.TheVariants.{NoMemory, TypeMismatch, TooWide}
use Rattle.value.specs.Results.{and_then, unless}
use Rattle.value.proofs.Results.{and_then_ok, ok_same, provided_ok}
use Rattle.table.specs.Rows.{Tables}
use Rattle.table.specs.declared.schemas.Column.{Column}
use Rattle.table.specs.declared.conds.Cond.{Cond}
use Rattle.table.specs.declared.exprs.Expr.{Expr}
use Rattle.syntax.specs.declared.statements.DerivedColumn.{DerivedColumn}
use Rattle.syntax.specs.declared.statements.Select.{Select as Written}
use Rattle.form_check.specs.Scopes.{Scope}
use Rattle.form_check.specs.Names.{expression_fault}
use Rattle.form_check.specs.Queries.{Source, row_expression, row_filter}
use Rattle.form_check.proofs.KnownNames.{both_none, row_expression_known}
use Rattle.assertcheck.specs.declared.groupings.Grouping.{Grouping}
use Rattle.assertcheck.specs.declared.selects.Listing.{Listing}
use Rattle.assertcheck.specs.declared.selects.Listing.TheVariants.{EachRow, EachGroup}
use Rattle.assertcheck.specs.declared.selects.Select.{Select}
use Rattle.assertcheck.specs.Conditions.{filter_fault}
use Rattle.assertcheck.specs.Groupings.{grouping_fault, grouping_of, is_grouped, lists_set_functions}
use Rattle.assertcheck.specs.Selects.{columns_fault, derived_of, each_row_of, is_of_each_row, listed_fault, listing_by, listing_of, lists_each_row, select_of, select_over, selected_fault, selected_source, sound_select}
use Rattle.assertcheck.proofs.KnownNames.{filter_known}

-- a SELECT that is sound is the one that was given
sound_is : (columns : List Column) (select made : Select) → sound_select columns select ≡ Ok made → select ≡ made
sound_is columns select made e = ok_same select made (provided_ok _ TooWide (Ok select) made (provided_ok _ TypeMismatch _ made e))

columns_known : (tables : Tables) (scope : Scope) (columns : List DerivedColumn) (values : List Expr) → derived_of scope columns ≡ Ok values → columns_fault tables scope columns ≡ None
columns_known tables scope [] values e = refl
columns_known tables scope (column ∷ columns) values e =
    let (value, (is, more)) = and_then_ok (row_expression scope column.value) (λ first. and_then (derived_of scope columns) (λ others. Ok (first ∷ others))) values e in
    let (others, (are, last)) = and_then_ok (derived_of scope columns) (λ others. Ok (value ∷ others)) values more in
    both_none (expression_fault tables column.value (scope ∷ [])) (columns_fault tables scope columns) (row_expression_known tables scope column.value value is) (columns_known tables scope columns others are)

listed_known : (tables : Tables) (scope : Scope) (columns : Option (List DerivedColumn)) (values : List Expr) → each_row_of scope columns ≡ Ok values → listed_fault tables scope columns ≡ None
listed_known tables scope None values e = refl
listed_known tables scope (Some columns) values e = columns_known tables scope columns values e

-- what lists each row is not of groups
of_rows : (scope : Scope) (written : Written) (grouped : Bool) (listing : Listing) → listing_by scope written grouped ≡ Ok listing → is_of_each_row listing ≡ true
    → (grouped ≡ false) × ((values : List Expr) × (each_row_of scope written.columns ≡ Ok values))
of_rows scope written true listing e each =
    let make : Grouping → Result Listing Refusal = λ grouping. Ok (EachGroup grouping) in
    let (grouping, (is, makes)) = and_then_ok (grouping_of scope written) make listing e in
    let no : false ≡ true = ap is_of_each_row (ok_same (EachGroup grouping) listing makes) ∙ each in
    cc
of_rows scope written false listing e each =
    let make : List Expr → Result Listing Refusal = λ values. Ok (EachRow values) in
    let (values, (are, makes)) = and_then_ok (each_row_of scope written.columns) make listing e in
    (refl, (values, are))

-- without groups neither GROUP BY nor HAVING is written
none_written : {A B : Type 0} (group_by : Option A) (having : Option B) (sets : Bool) → (is_some group_by || is_some having || sets) ≡ false → (group_by ≡ None) × (having ≡ None)
none_written None None sets e = (refl, refl)
none_written None (Some having) sets e = cc
none_written (Some names) None sets e = cc
none_written (Some names) (Some having) sets e = cc

clauses_known : (tables : Tables) (scope : Scope) (written : Written) → is_grouped written ≡ false → option_or (grouping_fault scope written.group_by) (filter_fault tables scope written.having) ≡ None
clauses_known tables scope written e =
    let (ungrouped, unfiltered) = none_written written.group_by written.having (lists_set_functions written.columns) e in
    both_none (grouping_fault scope written.group_by) (filter_fault tables scope written.having) (ap (grouping_fault scope) ungrouped) (ap (filter_fault tables scope) unfiltered)

selected_known : (tables : Tables) (target : Source) (written : Written) (select : Select) → select_over target written ≡ Ok select → is_of_each_row select.listing ≡ true → selected_fault tables target.scope written ≡ None
selected_known tables target written select e each =
    let make : Listing → Cond → Select = λ listing restriction. record { table = target.table; listing = listing; filter = restriction } in
    let next : Listing → Cond → Result Select Refusal = λ listing restriction. sound_select target.scope.layout.columns (make listing restriction) in
    let (listing, (lists, more)) = and_then_ok (listing_of target.scope written) (λ listing. and_then (row_filter target.scope written.keeps) (next listing)) select e in
    let (restriction, (is, last)) = and_then_ok (row_filter target.scope written.keeps) (next listing) select more in
    let same = sound_is target.scope.layout.columns (make listing restriction) select last in
    let (ungrouped, (values, are)) = of_rows target.scope written (is_grouped written) listing lists (ap (λ (s : Select). is_of_each_row s.listing) same ∙ each) in
    let clauses : Option Refusal = option_or (grouping_fault target.scope written.group_by) (filter_fault tables target.scope written.having) in
    both_none (listed_fault tables target.scope written.columns) (option_or (filter_fault tables target.scope written.keeps) clauses)
    (listed_known tables target.scope written.columns values are)
    (both_none (filter_fault tables target.scope written.keeps) clauses (filter_known tables target.scope written.keeps restriction is) (clauses_known tables target.scope written ungrouped))

-- with its names known it is what could be made over its table
select_left : (tables : Tables) (written : Written) (target : Source) → selected_source tables written ≡ Ok target → selected_fault tables target.scope written ≡ None → select_of tables written ≡ select_over target written
select_left tables written target found known =
    ap (λ answer. and_then answer (λ target. unless (selected_fault tables target.scope written) (select_over target written))) found
    ∙ ap (λ fault. unless fault (select_over target written)) known

-- what could be made and lists each row is the answer
pub each_row_made : (tables : Tables) (written : Written) (target : Source) (result : Result Select Refusal) → selected_source tables written ≡ Ok target
    → IfOk result (λ made. select_over target written ≡ Ok made) → lists_each_row result ≡ true → IfOk result (λ made. select_of tables written ≡ Ok made)
each_row_made tables written target (Ok made) found over each = select_left tables written target found (selected_known tables target written made over each) ∙ over
each_row_made tables written target (Err refusal) found over each = tt

-- and it was not refused
pub each_row_unrefused : (tables : Tables) (written : Written) (result : Result Select Refusal) → lists_each_row result ≡ true → IfErr result (λ refusal. refusal ≢ NoMemory → select_of tables written ≡ Err refusal)
each_row_unrefused tables written (Ok made) each = tt
each_row_unrefused tables written (Err refusal) each = cc

-- the last step refuses what the whole refuses
pub select_by_last : (target : Source) (written : Written) (listing : Listing) (restriction : Cond) (columns : List Column) (result : Result Select Refusal)
    → listing_of target.scope written ≡ Ok listing → row_filter target.scope written.keeps ≡ Ok restriction → columns ≡ target.scope.layout.columns
    → IfErr result (λ refusal. refusal ≢ NoMemory → sound_select columns (record { table = target.table; listing = listing; filter = restriction }) ≡ Err refusal)
    → IfErr result (λ refusal. refusal ≢ NoMemory → select_over target written ≡ Err refusal)
select_by_last target written listing restriction columns (Ok made) lists is are refused = tt
select_by_last target written listing restriction columns (Err refusal) lists is are refused = λ named.
    let make : Listing → Cond → Select = λ listing restriction. record { table = target.table; listing = listing; filter = restriction } in
    ap (λ l. and_then l (λ listing. and_then (row_filter target.scope written.keeps) (λ restriction. sound_select target.scope.layout.columns (make listing restriction)))) lists
    ∙ ap (λ k. and_then k (λ restriction. sound_select target.scope.layout.columns (make listing restriction))) is
    ∙ ap (λ columns. sound_select columns (make listing restriction)) (sym are)
    ∙ refused named

-- a bound that is there
pub bound_is_some : (bound : Option ℕ) → is_ok (ok_or bound TooWide) ≡ is_some bound
bound_is_some None = refl
bound_is_some (Some b) = refl
