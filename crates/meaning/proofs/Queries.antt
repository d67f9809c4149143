-- Queries by their clauses, and what stands in the slots of a single condition.
use Rattle.std.proofs.Common.{◌≡◌, ℕ, true, Option, Some, None, Result, Ok, List, [], ◌∷◌, map, filter, refl, ap, sym, ◌∙◌, subst}
use Rattle.std.specs.Prelude.{◌||◌, is_some, unwrap_or, option_map}
use Rattle.std.proofs.lemmas.List.Elements.{filter_agree}
use Rattle.std.proofs.lemmas.Option.{same_Some}
use Rattle.value.specs.declared.values.Value.TheVariants.{Null}
use Rattle.value.specs.declared.refusals.Refusal.{Refusal}
use Rattle.value.specs.declared.truths.Truth.{Truth}
use Rattle.table.specs.Rows.{RowValues, Layout, Tables, layout_of, position_of}
use Rattle.table.specs.Aggregates.{is_there, aggregate, values_in}
use Rattle.table.specs.declared.aggregates.Aggregate.{Aggregate}
use Rattle.table.specs.declared.aggregates.Aggregate.TheVariants.{CountRows}
use Rattle.table.specs.declared.conds.Cond.{Cond}
use Rattle.table.specs.Eval as resolved
use Rattle.table.proofs.DistinctLemmas.{least_distinct, greatest_distinct}
use Rattle.assertion.specs.declared.queries.Query.{Query as Subquery}
use Rattle.assertion.specs.declared.queries.Whole.{Whole}
use Rattle.assertion.specs.Meaning.{State, rows_of, plain_answer}
use Rattle.syntax.specs.declared.trees.Aggregate.{Aggregate as Function}
use Rattle.syntax.specs.declared.trees.Aggregate.TheVariants as function
use Rattle.syntax.specs.declared.trees.SetQuantifier.{SetQuantifier}
use Rattle.syntax.specs.declared.trees.SetQuantifier.TheVariants.{All, Distinct}
use Rattle.syntax.specs.declared.trees.ColumnName.{ColumnName}
use Rattle.syntax.specs.declared.trees.Condition.{Condition}
use Rattle.syntax.specs.declared.trees.Condition.TheOpen.{Expression-F, SelectList-F, Query-F}
use Rattle.syntax.specs.declared.trees.Condition.TheFolds.{map-Expression, map-SelectList, map-Query, fold_out-Expression, fold_out-SelectList, fold_out-Query}
use Rattle.syntax.specs.declared.trees.Expression.{Expression, out-Expression}
use Rattle.syntax.specs.declared.trees.SelectList.{SelectList, out-SelectList}
use Rattle.syntax.specs.declared.trees.Query.{Query, out-Query}
use Rattle.form_check.specs.Scopes as names
use Rattle.form_check.specs.Scopes.{own_column}
use Rattle.value.specs.Results.{and_then, each}
use Rattle.form_check.specs.Leaves.{Leaf, Rows, Of, Exists, Value as Worth}
use Rattle.form_check.specs.Queries.{Source, source_named, source_of, row_filter, of_column, aggregate_in, aggregate_selected, selected_aggregate}
use Rattle.form_check.specs.Forms.{Clauses, plain, plain_by, plain_value}
use Rattle.meaning.specs.Meaning as written
use Rattle.meaning.specs.Meaning.{Reference, References, Evaluation, Answer, no_layout, rows_at, table_of, column_values, quantified, set_function, only_value, with_rows, passes, groups_of_rows, group_value, truth, evaluation_of, select_list, answers}
use Rattle.meaning.specs.Laws.{reference_to}
use Rattle.form_check.proofs.Steps.{and_then_ok, in_class_ok, ok_same, mapped_some}
use Rattle.meaning.proofs.Numbering.{leaf_value}
use Rattle.meaning.proofs.Rows.{own_values, row_filter_keeps}

-- ---- FROM

sourced_seen : (name : List ℕ) (p : Option ℕ) (l : Option Layout) (state : State) (source : Source) → source_named name p l ≡ Some source
    → ◌≡◌ {A = Reference} (record { table = record { exposed_name = name; layout = unwrap_or l no_layout }; rows = rows_at p state }) (reference_to source.scope (rows_of source.table state))
sourced_seen name None l state source e = cc
sourced_seen name (Some t) None state source e = cc
sourced_seen name (Some t) (Some l) state source e =
    let found : Source = record { table = t; scope = record { exposed_name = name; layout = l } } in
    ap (λ (s : Source). reference_to s.scope (rows_of s.table state)) (same_Some found source e)

-- the table that a query reads
pub source_seen : (tables : Tables) (state : State) (table : List ℕ) (correlation_name : Option (List ℕ)) (source : Source) → source_of tables table correlation_name ≡ Some source → table_of tables state table correlation_name ≡ reference_to source.scope (rows_of source.table state)
source_seen tables state table correlation_name source e = sourced_seen (unwrap_or correlation_name table) (position_of table tables) (layout_of table tables) state source e

-- ---- the clauses

abbrev pub mapped : Tables → State → Clauses → Query-F (References → Truth) Evaluation Evaluation (References → List Answer)
mapped tables state = map-Query Condition Expression SelectList Query (References → Truth) Evaluation Evaluation (References → List Answer) (truth tables state) (evaluation_of tables state) (select_list tables state) (answers tables state)

-- what a query gives, by its clauses
abbrev pub answers_by : Reference → Evaluation → Option (References → Truth) → Option ColumnName → Option (References → Truth) → References → List Answer
answers_by table list keeps group having outer =
    map (λ rows. record { rows = rows; value = list.value (with_rows table rows outer) }) (
    filter (λ rows. passes having (with_rows table rows outer)) (
    groups_of_rows (group_value group table outer) (is_some having || list.sets) (
    filter (λ row. passes keeps (with_rows table (row ∷ []) outer)) table.rows)))

-- a query of these parts
abbrev clauses_of : SelectList → List ℕ → Option (List ℕ) → Option Condition → Option ColumnName → Option Condition → Clauses
clauses_of list table correlation_name keeps group having = record { select_list = list; table = table; correlation_name = correlation_name; keeps = keeps; group = group; having = having }

mapped_keeps : (tables : Tables) (state : State) (list : SelectList) (table : List ℕ) (correlation_name : Option (List ℕ)) (keeps : Option Condition) (group : Option ColumnName) (having : Option Condition)
    → (mapped tables state (clauses_of list table correlation_name keeps group having)).keeps ≡ option_map (truth tables state) keeps
mapped_keeps tables state list table correlation_name None group having = refl
mapped_keeps tables state list table correlation_name (Some c) group having = refl

mapped_having : (tables : Tables) (state : State) (list : SelectList) (table : List ℕ) (correlation_name : Option (List ℕ)) (keeps : Option Condition) (group : Option ColumnName) (having : Option Condition)
    → (mapped tables state (clauses_of list table correlation_name keeps group having)).having ≡ option_map (truth tables state) having
mapped_having tables state list table correlation_name keeps group None = refl
mapped_having tables state list table correlation_name keeps group (Some c) = refl

mapped_option : (tables : Tables) (state : State) (query : Clauses) (outer : References)
    → written.query_step tables state (mapped tables state query) outer
    ≡ answers_by (table_of tables state query.table query.correlation_name) (select_list tables state query.select_list) (option_map (truth tables state) query.keeps) query.group (option_map (truth tables state) query.having) outer
mapped_option tables state query outer =
    let table = table_of tables state query.table query.correlation_name in
    let list = select_list tables state query.select_list in
    ap (λ k. answers_by table list k query.group (mapped tables state query).having outer) (mapped_keeps tables state query.select_list query.table query.correlation_name query.keeps query.group query.having)
    ∙ ap (λ h. answers_by table list (option_map (truth tables state) query.keeps) query.group h outer) (mapped_having tables state query.select_list query.table query.correlation_name query.keeps query.group query.having)

pub answers_at : (tables : Tables) (state : State) (query : Query) (source : Source) (outer : References) → source_of tables (out-Query query).table (out-Query query).correlation_name ≡ Some source
    → answers tables state query outer
    ≡ answers_by (reference_to source.scope (rows_of source.table state)) (select_list tables state (out-Query query).select_list) (option_map (truth tables state) (out-Query query).keeps) (out-Query query).group (option_map (truth tables state) (out-Query query).having) outer
answers_at tables state query source outer e =
    let q = out-Query query in
    ap (λ a. a outer) (fold_out-Query (References → Truth) Evaluation Evaluation (References → List Answer) written.condition_step written.expression_step written.select_list_step (written.query_step tables state) query)
    ∙ mapped_option tables state q outer
    ∙ ap (λ t. answers_by t (select_list tables state q.select_list) (option_map (truth tables state) q.keeps) q.group (option_map (truth tables state) q.having) outer) (source_seen tables state q.table q.correlation_name source e)

-- ---- set functions

function_alike : (f : Function) (q : SetQuantifier) (c : ℕ) (rows : List RowValues) → set_function f (quantified q (values_in c rows)) ≡ aggregate (of_column f q c) rows
function_alike function.Count All c rows = refl
function_alike function.Count Distinct c rows = refl
function_alike function.Sum All c rows = refl
function_alike function.Sum Distinct c rows = refl
function_alike function.Min All c rows = refl
function_alike function.Min Distinct c rows = ap (λ o. unwrap_or o Null) (least_distinct (values_in c rows))
function_alike function.Max All c rows = refl
function_alike function.Max Distinct c rows = ap (λ o. unwrap_or o Null) (greatest_distinct (values_in c rows))

-- a set function of a column of the rows at hand
pub set_function_of : (f : Function) (q : SetQuantifier) (scope : names.Scope) (rows : List RowValues) (outer : References) (column : ColumnName) (c : ℕ) → own_column scope column ≡ Some c
    → set_function f (quantified q (filter is_there (column_values column (reference_to scope rows ∷ outer)))) ≡ aggregate (of_column f q c) rows
set_function_of f q scope rows outer column c is = ap (λ vs. set_function f (quantified q (filter is_there vs))) (own_values scope rows outer column c is) ∙ function_alike f q c rows

-- an expression that is one set function
abbrev IsSet : names.Scope → Aggregate → Evaluation → Type 0
IsSet scope a v = (v.sets ≡ true) × ((rows : List RowValues) (outer : References) → v.value (reference_to scope rows ∷ outer) ≡ aggregate a rows)

set_in : (tables : Tables) (state : State) (scope : names.Scope) (a : Aggregate) (layer : Expression-F Condition Expression SelectList Query) → aggregate_in scope layer ≡ Some a
    → IsSet scope a (written.expression_step (map-Expression Condition Expression SelectList Query (References → Truth) Evaluation Evaluation (References → List Answer) (truth tables state) (evaluation_of tables state) (select_list tables state) (answers tables state) layer))
set_in tables state scope a (Expression-F.Number n) e = cc
set_in tables state scope a (Expression-F.Text t) e = cc
set_in tables state scope a (Expression-F.Column column) e = cc
set_in tables state scope a Expression-F.CountRows e = (refl, λ rows outer. ap (λ (a : Aggregate). aggregate a rows) (same_Some CountRows a e))
set_in tables state scope a (Expression-F.Aggregate f argument) e =
    let q = argument.quantifier in
    let (c, (is, same)) = mapped_some (of_column f q) (own_column scope argument.column) a e in
    (refl, λ rows outer. set_function_of f q scope rows outer argument.column c is ∙ ap (λ (a : Aggregate). aggregate a rows) same)
set_in tables state scope a (Expression-F.Subquery query) e = cc
set_in tables state scope a (Expression-F.Negation part) e = cc
set_in tables state scope a (Expression-F.Sum parts) e = cc
set_in tables state scope a (Expression-F.Product parts) e = cc

list_in : (tables : Tables) (state : State) (scope : names.Scope) (a : Aggregate) (layer : SelectList-F Condition Expression SelectList Query) → aggregate_selected scope layer ≡ Some a
    → IsSet scope a (written.select_list_step (map-SelectList Condition Expression SelectList Query (References → Truth) Evaluation Evaluation (References → List Answer) (truth tables state) (evaluation_of tables state) (select_list tables state) (answers tables state) layer))
list_in tables state scope a SelectList-F.Star e = cc
list_in tables state scope a (SelectList-F.One x) e =
    subst (IsSet scope a) (sym (fold_out-Expression (References → Truth) Evaluation Evaluation (References → List Answer) written.condition_step written.expression_step written.select_list_step (written.query_step tables state) x)) (set_in tables state scope a (out-Expression x) e)

pub list_set : (tables : Tables) (state : State) (scope : names.Scope) (a : Aggregate) (list : SelectList) → selected_aggregate scope list ≡ Some a → IsSet scope a (select_list tables state list)
list_set tables state scope a list e =
    subst (IsSet scope a) (sym (fold_out-SelectList (References → Truth) Evaluation Evaluation (References → List Answer) written.condition_step written.expression_step written.select_list_step (written.query_step tables state) list)) (list_in tables state scope a (out-SelectList list) e)

-- the one value of a query that lists a set function
pub only_set : (table : Reference) (list : Evaluation) (keeps : Option (References → Truth)) (outer : References) → list.sets ≡ true
    → only_value (answers_by table list keeps None None outer) ≡ list.value (with_rows table (filter (λ row. passes keeps (with_rows table (row ∷ []) outer)) table.rows) outer)
only_set table list keeps outer sets = rw sets refl

-- ---- slots of a single condition

pub plain_by_ok : (source : Source) (a : Option Aggregate) (keeps : Option Condition) (g : Option ColumnName) (h : Option Condition) (p : Subquery Whole) → plain_by source a keeps g h ≡ Ok p
    → (g ≡ None) × ((h ≡ None) × ((function : Aggregate) × ((a ≡ Some function) × ((restriction : Cond) × ((row_filter source.scope keeps ≡ Ok restriction) × (◌≡◌ {A = Subquery Whole} (record { table = source.table; filter = restriction; grouping = record {}; aggregate = function }) p))))))
plain_by_ok source a keeps None None p e =
    let (function, (is, more)) = in_class_ok a (λ a. and_then (row_filter source.scope keeps) (λ restriction. let r : Result (Subquery Whole) Refusal = Ok (record { table = source.table; filter = restriction; grouping = record {}; aggregate = a }) in r)) p e in
    let (restriction, (filters, makes)) = and_then_ok (row_filter source.scope keeps) (λ restriction. let r : Result (Subquery Whole) Refusal = Ok (record { table = source.table; filter = restriction; grouping = record {}; aggregate = function }) in r) p more in
    let made : Subquery Whole = record { table = source.table; filter = restriction; grouping = record {}; aggregate = function } in
    (refl, (refl, (function, (is, (restriction, (filters, ok_same made p makes))))))
plain_by_ok source a keeps (Some g) h p e = cc
plain_by_ok source a keeps None (Some h) p e = cc

plain_is : (tables : Tables) (state : State) (scopes : References) (query : Query) (p : Subquery Whole) → plain_value tables (out-Query query) ≡ Ok p → only_value (answers tables state query scopes) ≡ plain_answer state p
plain_is tables state scopes query p e =
    let q = out-Query query in
    let (source, (found, more)) = in_class_ok (source_of tables q.table q.correlation_name) (λ source. plain_by source (selected_aggregate source.scope q.select_list) q.keeps q.group q.having) p e in
    let (no_group, (no_having, (function, (lists, (restriction, (filters, makes)))))) = plain_by_ok source (selected_aggregate source.scope q.select_list) q.keeps q.group q.having p more in
    let rows = rows_of source.table state in
    let table = reference_to source.scope rows in
    let list = select_list tables state q.select_list in
    let keeps = option_map (truth tables state) q.keeps in
    let (sets, gives) = list_set tables state source.scope function q.select_list lists in
    let where_rows = filter (λ row. passes keeps (with_rows table (row ∷ []) scopes)) rows in
    ap only_value (answers_at tables state query source scopes found ∙ ap (λ g. answers_by table list keeps g (option_map (truth tables state) q.having) scopes) no_group ∙ ap (λ h. answers_by table list keeps None (option_map (truth tables state) h) scopes) no_having)
    ∙ only_set table list keeps scopes sets
    ∙ gives where_rows scopes
    ∙ ap (aggregate function) (filter_agree (λ row. passes keeps (with_rows table (row ∷ []) scopes)) (λ row. resolved.keeps row [] restriction) (λ row. row_filter_keeps source.scope q.keeps restriction filters tables state row scopes) rows)
    ∙ ap (plain_answer state) makes

pub plain_leaf : (tables : Tables) (state : State) (scopes : References) (leaf : Leaf) (p : Subquery Whole) → plain tables leaf ≡ Ok p → leaf_value tables state scopes leaf ≡ plain_answer state p
plain_leaf tables state scopes Rows p e = cc
plain_leaf tables state scopes (Of f column) p e = cc
plain_leaf tables state scopes (Exists query) p e = cc
plain_leaf tables state scopes (Worth query) p e = plain_is tables state scopes query p e

-- values of parts one after the other
pub each_gives : {X A V : Type 0} (make : X → Result A Refusal) (value : X → V) (gives : A → V) → ((x : X) (a : A) → make x ≡ Ok a → value x ≡ gives a)
    → (xs : List X) (made : List A) → each make xs ≡ Ok made → map gives made ≡ map value xs
each_gives {A = A} make value gives one [] made e = let none : List A = [] in ap (map gives) (sym (ok_same none made e))
each_gives {A = A} make value gives one (x ∷ xs) made e =
    let (first, (is, more)) = and_then_ok (make x) (λ first. and_then (each make xs) (λ others. let r : Result (List A) Refusal = Ok (first ∷ others) in r)) made e in
    let (others, (are, makes)) = and_then_ok (each make xs) (λ others. let r : Result (List A) Refusal = Ok (first ∷ others) in r) made more in
    ap (map gives) (sym (ok_same (first ∷ others) made makes)) ∙ ap (λ v. v ∷ map gives others) (sym (one x first is)) ∙ ap (λ vs. value x ∷ vs) (each_gives make value gives one xs others are)
