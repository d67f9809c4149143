-- What a form is made of, of each kind.
use Rattle.std.proofs.Common.{◌≡◌, ℕ, true, Some, Result, Ok, List, []}
use Rattle.value.specs.declared.refusals.Refusal.{Refusal}
use Rattle.table.specs.Rows.{Tables}
use Rattle.table.specs.declared.aggregates.Aggregate.{Aggregate}
use Rattle.table.specs.declared.conds.Cond.{Cond}
use Rattle.assertion.specs.declared.queries.Query.{Query as Subquery}
use Rattle.assertion.specs.declared.queries.Link.{Link}
use Rattle.assertion.specs.declared.queries.Whole.{Whole}
use Rattle.assertion.specs.declared.forms.Form.{Form}
use Rattle.assertion.specs.declared.forms.Form.TheVariants.{ByRow, ByGroup, Single}
use Rattle.syntax.specs.declared.trees.ColumnName.{ColumnName}
use Rattle.syntax.specs.declared.trees.Condition.{Condition}
use Rattle.form_check.specs.Scopes.{own_column}
use Rattle.value.specs.Results.{and_then, each}
use Rattle.form_check.specs.Results.{only_if}
use Rattle.form_check.specs.Columns.{no_column, grouping_column, at_place}
use Rattle.form_check.specs.Leaves.{Leaves, numbered}
use Rattle.form_check.specs.Queries.{Source, row_filter, may_be_selected}
use Rattle.form_check.specs.Forms.{Clauses, plain, slot_query_of, aggregate_of, row_where, by_row, having_over, by_group, single}
use Rattle.form_check.proofs.Steps.{and_then_ok, in_class_ok, only_if_ok, ok_same}

pub record SingleMade (tables : Tables) (condition : Condition) (form : Form) : Type 0 where
  pub made : Cond
  pub leaves : Leaves
  pub numbers : numbered (at_place no_column) condition [] ≡ Ok (made, leaves)
  pub queries : List (Subquery Whole)
  pub are : each (plain tables) leaves ≡ Ok queries
  pub is : Single made queries ≡ form

pub single_made : (tables : Tables) (condition : Condition) (form : Form) → single tables condition ≡ Ok form → SingleMade tables condition form
single_made tables condition form e =
    let (m, (numbers, more)) = and_then_ok (numbered (at_place no_column) condition []) (λ m. and_then (each (plain tables) m.1) (λ queries. let r : Result Form Refusal = Ok (Single m.0 queries) in r)) form e in
    let (queries, (are, makes)) = and_then_ok (each (plain tables) m.1) (λ queries. let r : Result Form Refusal = Ok (Single m.0 queries) in r) form more in
    record { made = m.0; leaves = m.1; numbers = numbers; queries = queries; are = are; is = ok_same (Single m.0 queries) form makes }

pub record RowMade (tables : Tables) (source : Source) (query : Clauses) (form : Form) : Type 0 where
  pub lists : may_be_selected (own_column source.scope) query.select_list ≡ true
  pub made : Cond
  pub leaves : Leaves
  pub keeps : row_where source.scope query.keeps ≡ Ok (made, leaves)
  pub queries : List (Subquery Link)
  pub are : each (slot_query_of tables source.scope) leaves ≡ Ok queries
  pub is : ByRow source.table made queries ≡ form

pub row_made : (tables : Tables) (source : Source) (query : Clauses) (form : Form) → by_row tables source query ≡ Ok form → RowMade tables source query form
row_made tables source query form e =
    let scope = source.scope in
    let (lists, rest) = only_if_ok (may_be_selected (own_column scope) query.select_list) (and_then (row_where scope query.keeps) (λ made. and_then (each (slot_query_of tables scope) made.1) (λ queries. let r : Result Form Refusal = Ok (ByRow source.table made.0 queries) in r))) form e in
    let (m, (keeps, more)) = and_then_ok (row_where scope query.keeps) (λ made. and_then (each (slot_query_of tables scope) made.1) (λ queries. let r : Result Form Refusal = Ok (ByRow source.table made.0 queries) in r)) form rest in
    let (queries, (are, makes)) = and_then_ok (each (slot_query_of tables scope) m.1) (λ queries. let r : Result Form Refusal = Ok (ByRow source.table m.0 queries) in r) form more in
    record { lists = lists; made = m.0; leaves = m.1; keeps = keeps; queries = queries; are = are; is = ok_same (ByRow source.table m.0 queries) form makes }

pub record GroupMade (source : Source) (query : Clauses) (column : ColumnName) (having : Condition) (form : Form) : Type 0 where
  pub group : ℕ
  pub own : own_column source.scope column ≡ Some group
  pub lists : may_be_selected (grouping_column source.scope group) query.select_list ≡ true
  pub restriction : Cond
  pub keeps : row_filter source.scope query.keeps ≡ Ok restriction
  pub made : Cond
  pub leaves : Leaves
  pub numbers : numbered (at_place (grouping_column source.scope group)) having [] ≡ Ok (made, leaves)
  pub aggregates : List Aggregate
  pub are : each (aggregate_of source.scope) leaves ≡ Ok aggregates
  pub is : ByGroup source.table restriction group made aggregates ≡ form

pub group_made : (source : Source) (query : Clauses) (column : ColumnName) (having : Condition) (form : Form) → by_group source query column having ≡ Ok form → GroupMade source query column having form
group_made source query column having form e =
    let scope = source.scope in
    let (group, (own, more)) = in_class_ok (own_column scope column) (λ group. only_if (may_be_selected (grouping_column scope group) query.select_list) (and_then (row_filter scope query.keeps) (λ restriction. having_over source group restriction having))) form e in
    let (lists, rest) = only_if_ok (may_be_selected (grouping_column scope group) query.select_list) (and_then (row_filter scope query.keeps) (λ restriction. having_over source group restriction having)) form more in
    let (restriction, (keeps, over)) = and_then_ok (row_filter scope query.keeps) (λ restriction. having_over source group restriction having) form rest in
    let (m, (numbers, made)) = and_then_ok (numbered (at_place (grouping_column scope group)) having []) (λ made. and_then (each (aggregate_of scope) made.1) (λ aggregates. let r : Result Form Refusal = Ok (ByGroup source.table restriction group made.0 aggregates) in r)) form over in
    let (aggregates, (are, makes)) = and_then_ok (each (aggregate_of scope) m.1) (λ aggregates. let r : Result Form Refusal = Ok (ByGroup source.table restriction group m.0 aggregates) in r) form made in
    record { group = group; own = own; lists = lists; restriction = restriction; keeps = keeps; made = m.0; leaves = m.1; numbers = numbers; aggregates = aggregates; are = are; is = ok_same (ByGroup source.table restriction group m.0 aggregates) form makes }
