-- A SELECT that is taken gives the rows that are written.
use Rattle.std.proofs.Common.{◌≡◌, ℕ, Option, Some, None, Result, Ok, List, [], ◌∷◌, ◌++◌, map, refl, ap, sym, ◌∙◌, subst, append-nil}
use Rattle.std.proofs.lemmas.List.Elements.{filter_agree}
use Rattle.std.proofs.lemmas.Option.{same_Some}
use Rattle.std.specs.List.{list_any}
use Rattle.std.specs.Prelude.{Bool, true, false, ◌||◌, ◌&&◌, ◌==◌, filter, if◌then◌else◌, is_some, option_map}
use Rattle.value.specs.declared.values.Value.{Value}
use Rattle.value.specs.declared.truths.Truth.{Truth}
use Rattle.value.specs.declared.truths.Truth.TheVariants.{True}
use Rattle.value.specs.Truths.{is_of}
use Rattle.value.specs.declared.refusals.Refusal.{Refusal}
use Rattle.value.specs.declared.refusals.Refusal.TheVariants.{TypeMismatch, TooWide}
use Rattle.value.specs.Results.{and_then, each, if_holds, unless}
use Rattle.value.proofs.Results.{found_ok, provided_ok, unless_ok}
use Rattle.table.specs.Rows.{RowValues, Tables, value_in}
use Rattle.table.specs.Aggregates.{aggregate}
use Rattle.table.specs.Bounds.{is_bounded}
use Rattle.table.specs.Slotless.{some_true}
use Rattle.table.specs.declared.aggregates.Aggregate.{Aggregate}
use Rattle.table.specs.declared.exprs.Expr.{Expr}
use Rattle.table.specs.declared.exprs.Expr.TheVariants as expr
use Rattle.table.specs.declared.conds.Cond.{Cond}
use Rattle.table.specs.Eval as resolved
use Rattle.assertion.specs.Meaning.{State, rows_of, filtered_rows}
use Rattle.syntax.specs.declared.trees.ColumnName.{ColumnName}
use Rattle.syntax.specs.declared.trees.Condition.{Condition}
use Rattle.syntax.specs.declared.trees.Condition.TheOpen.{Expression-F}
use Rattle.syntax.specs.declared.trees.Condition.TheFolds.{map-Expression, fold-roll-Expression, ind-Expression}
use Rattle.syntax.specs.declared.trees.Expression.{Expression, roll-Expression}
use Rattle.syntax.specs.declared.trees.SelectList.{SelectList}
use Rattle.syntax.specs.declared.trees.Query.{Query}
use Rattle.syntax.specs.declared.statements.DerivedColumn.{DerivedColumn}
use Rattle.syntax.specs.declared.statements.Select.{Select as Written}
use Rattle.form_check.specs.Columns.{among, at_place, grouped_column}
use Rattle.form_check.specs.Results.{in_class}
use Rattle.form_check.specs.Forms.{aggregate_of}
use Rattle.form_check.specs.Leaves.{Leaves, numbered, numbered_expression}
use Rattle.form_check.specs.Queries.{Source, source_of, row_expression, row_filter}
use Rattle.form_check.specs.Scopes.{Scope, own_column}
use Rattle.form_check.specs.Summaries.{group_condition_of, has_set_function, set_function_step, summary_of}
use Rattle.form_check.specs.declared.summaries.GroupCondition.{GroupCondition}
use Rattle.form_check.specs.declared.summaries.Summary.{Summary}
use Rattle.form_check.proofs.Steps.{and_then_ok, in_class_ok, ok_same}
use Rattle.assertcheck.specs.Groupings.{grouped_by, grouping_of, have_set_functions, having_of, is_grouped, lists_set_functions, own_summary, summaries_of}
use Rattle.assertcheck.specs.declared.groupings.Grouping.{Grouping}
use Rattle.assertcheck.specs.Selects.{each_row_of, is_bounded_listing, is_typed_listing, listing_by, listing_of, select_of, select_over, selected_fault, selected_source, sound_select}
use Rattle.assertcheck.specs.Statements.{places_from}
use Rattle.assertcheck.specs.Types.{is_typed_condition}
use Rattle.assertcheck.specs.declared.selects.Listing.{Listing}
use Rattle.assertcheck.specs.declared.selects.Listing.TheVariants.{EachRow, EachGroup}
use Rattle.assertcheck.specs.declared.selects.Select.{Select}
use Rattle.alone.specs.Groups.{groups_by, groups_of}
use Rattle.alone.specs.Statements.{first_row, is_kept, listed_rows, summary_value}
use Rattle.meaning.specs.Laws as law
use Rattle.meaning.specs.Laws.{grouping_values, reference_to, lists_sets, written_columns, written_groups}
use Rattle.meaning.specs.Meaning as meant
use Rattle.meaning.specs.Meaning.{Reference, References, Evaluation, Answer, any_sets, answers, column_values, evaluation_of, first_value, passes, select_list, table_of, truth, values_at, with_rows}
use Rattle.meaning.proofs.Checked.{filtered_of}
use Rattle.meaning.proofs.Groups.{aggregate_leaf, map_agree, map_twice}
use Rattle.meaning.proofs.Numbering.{answer-Column, at_place_means, condition_faithful, expression_faithful, leaf_value}
use Rattle.meaning.proofs.Queries.{each_gives, source_seen}
use Rattle.meaning.proofs.Rows.{own_value, own_values, row_expression_value}

-- ---- where set functions stand

module _ (tables : Tables) (state : State) where
  -- a set function stands in what an expression means where one stands in its text
  abbrev HasItsSets : Expression → Type 0
  HasItsSets e = (evaluation_of tables state e).sets ≡ has_set_function e

  abbrev of_condition : Type 0
  of_condition = Condition × Unit {0}

  abbrev of_expression : Type 0
  of_expression = (e : Expression) × HasItsSets e

  abbrev of_select_list : Type 0
  of_select_list = SelectList × Unit {0}

  abbrev of_query : Type 0
  of_query = Query × Unit {0}

  -- in one of some parts
  any_part : (parts : List of_expression) → any_sets (map (evaluation_of tables state) (map (λ e. e.0) parts)) ≡ some_true (map has_set_function (map (λ e. e.0) parts))
  any_part [] = refl
  any_part (part ∷ parts) =
      ap (λ b. b || any_sets (map (evaluation_of tables state) (map (λ e. e.0) parts))) part.1 ∙ ap (λ b. has_set_function part.0 || b) (any_part parts)

  -- an expression, with its parts alone
  abbrev layer_of : Expression-F of_condition of_expression of_select_list of_query → Expression-F Condition Expression SelectList Query
  layer_of = map-Expression of_condition of_expression of_select_list of_query Condition Expression SelectList Query (λ e. e.0) (λ e. e.0) (λ e. e.0) (λ e. e.0)

  -- in an expression by its parts, whatever is said of its queries
  sets_layer : (q : Query → Bool) (y : Expression-F of_condition of_expression of_select_list of_query)
      → (meant.expression_step (map-Expression Condition Expression SelectList Query (References → Truth) Evaluation Evaluation (References → List Answer) (truth tables state) (evaluation_of tables state) (select_list tables state) (answers tables state) (layer_of y))).sets
      ≡ set_function_step (map-Expression Condition Expression SelectList Query Bool Bool Bool Bool (λ c. false) has_set_function (λ l. false) q (layer_of y))
  sets_layer q (Expression-F.Number n) = refl
  sets_layer q (Expression-F.Text t) = refl
  sets_layer q (Expression-F.Column column) = refl
  sets_layer q Expression-F.CountRows = refl
  sets_layer q (Expression-F.Aggregate function argument) = refl
  sets_layer q (Expression-F.Subquery query) = refl
  sets_layer q (Expression-F.Negation part) = part.1
  sets_layer q (Expression-F.Sum parts) = any_part parts
  sets_layer q (Expression-F.Product parts) = any_part parts

  expression_at : (x : Expression-F Condition Expression SelectList Query) (y : Expression-F of_condition of_expression of_select_list of_query) → layer_of y ≡ x → HasItsSets (roll-Expression x)
  expression_at x y is =
      subst (λ x. HasItsSets (roll-Expression x)) is (
      ap (λ (v : Evaluation). v.sets) (fold-roll-Expression (References → Truth) Evaluation Evaluation (References → List Answer) meant.condition_step meant.expression_step meant.select_list_step (meant.query_step tables state) (layer_of y))
      ∙ sets_layer _ y
      ∙ sym (fold-roll-Expression Bool Bool Bool Bool (λ condition. false) set_function_step (λ select_list. false) (λ query. false) (layer_of y)))

  has_its_sets : (e : Expression) → HasItsSets e
  has_its_sets = ind-Expression (λ c. Unit {0}) HasItsSets (λ l. Unit {0}) (λ q. Unit {0}) (λ x y is. tt) expression_at (λ x y is. tt) (λ x y is. tt)

  -- in one of the derived columns
  any_column : (columns : List DerivedColumn) → lists_sets tables state (Some columns) ≡ have_set_functions columns
  any_column [] = refl
  any_column (column ∷ columns) =
      ap (λ b. b || lists_sets tables state (Some columns)) (has_its_sets column.value) ∙ ap (λ b. has_set_function column.value || b) (any_column columns)

-- ---- groups of rows

-- one of the columns of GROUP BY is a column of the table
among_is : (grouping : List ℕ) (o : Option ℕ) (c : ℕ) → among grouping o ≡ Some c → o ≡ Some c
among_is grouping None c e = e
among_is grouping (Some column) c e = by (list_any (λ d. d == column) grouping) e
  where
    by : (b : Bool) → (if b then Some column else None) ≡ Some c → Some column ≡ Some c
    by true e = e
    by false e = cc

-- the value in a column of the first row at hand
first_in : (c : ℕ) (rows : List RowValues) → first_value (map (value_in c) rows) ≡ value_in c (first_row rows)
first_in c [] = refl
first_in c (row ∷ rows) = refl

-- a column of GROUP BY means the value in the first row of a group
grouped_value : (scope : Scope) (grouping : List ℕ) (rows : List RowValues) (column : ColumnName) (c : ℕ) → grouped_column scope grouping column ≡ Some c
    → first_value (column_values column (reference_to scope rows ∷ [])) ≡ value_in c (first_row rows)
grouped_value scope grouping rows column c e = ap first_value (own_values scope rows [] column c (among_is grouping (own_column scope column) c e)) ∙ first_in c rows

module _ (tables : Tables) (state : State) (scope : Scope) (grouping : List ℕ) (rows : List RowValues) where
  -- what stands in the slots of what is over a group
  fits : (leaves : Leaves) (aggregates : List Aggregate) → each (aggregate_of scope) leaves ≡ Ok aggregates
      → map (λ a. aggregate a rows) aggregates ≡ map (leaf_value tables state (reference_to scope rows ∷ [])) leaves ++ []
  fits leaves aggregates are =
      each_gives (aggregate_of scope) (leaf_value tables state (reference_to scope rows ∷ [])) (λ a. aggregate a rows) (aggregate_leaf tables state scope rows) leaves aggregates are
      ∙ sym (append-nil (map (leaf_value tables state (reference_to scope rows ∷ [])) leaves))

  -- an expression over a group has the written value
  summary_means : (expression : Expression) (summary : Summary) → summary_of scope grouping expression ≡ Ok summary
      → (evaluation_of tables state expression).value (reference_to scope rows ∷ []) ≡ summary_value rows summary
  summary_means expression summary e =
      let make : Expr → List Aggregate → Summary = λ value aggregates. record { aggregates = aggregates; value = value } in
      let (m, (is, more)) = and_then_ok (numbered_expression (at_place (grouped_column scope grouping)) expression []) (λ m. and_then (each (aggregate_of scope) m.1) (λ aggregates. let r : Result Summary Refusal = Ok (make m.0 aggregates) in r)) summary e in
      let (aggregates, (are, makes)) = and_then_ok (each (aggregate_of scope) m.1) (λ aggregates. let r : Result Summary Refusal = Ok (make m.0 aggregates) in r) summary more in
      let scopes : References = reference_to scope rows ∷ [] in
      let slots = map (λ a. aggregate a rows) aggregates in
      (expression_faithful tables state scopes (first_row rows) slots (at_place (grouped_column scope grouping)) (at_place_means tables state scopes (first_row rows) slots (grouped_column scope grouping) (grouped_value scope grouping rows)) expression [] m.0 m.1 is ([], fits m.1 aggregates are)).0
      ∙ ap (summary_value rows) (ok_same (make m.0 aggregates) summary makes)

  -- a condition over a group is true, false or unknown as it is written
  condition_means : (condition : Condition) (made : GroupCondition) → group_condition_of scope grouping condition ≡ Ok made
      → truth tables state condition (reference_to scope rows ∷ []) ≡ resolved.truth (first_row rows) (map (λ a. aggregate a rows) made.aggregates) made.condition
  condition_means condition made e =
      let make : Cond → List Aggregate → GroupCondition = λ condition aggregates. record { aggregates = aggregates; condition = condition } in
      let (m, (is, more)) = and_then_ok (numbered (at_place (grouped_column scope grouping)) condition []) (λ m. and_then (each (aggregate_of scope) m.1) (λ aggregates. let r : Result GroupCondition Refusal = Ok (make m.0 aggregates) in r)) made e in
      let (aggregates, (are, makes)) = and_then_ok (each (aggregate_of scope) m.1) (λ aggregates. let r : Result GroupCondition Refusal = Ok (make m.0 aggregates) in r) made more in
      let scopes : References = reference_to scope rows ∷ [] in
      let slots = map (λ a. aggregate a rows) aggregates in
      (condition_faithful tables state scopes (first_row rows) slots (at_place (grouped_column scope grouping)) (at_place_means tables state scopes (first_row rows) slots (grouped_column scope grouping) (grouped_value scope grouping rows)) condition [] m.0 m.1 is ([], fits m.1 aggregates are)).0
      ∙ ap (λ (h : GroupCondition). resolved.truth (first_row rows) (map (λ a. aggregate a rows) h.aggregates) h.condition) (ok_same (make m.0 aggregates) made makes)

  -- HAVING keeps a group where it is written to
  having_means : (written : Option Condition) (having : Option GroupCondition) → having_of scope grouping written ≡ Ok having
      → passes (option_map (truth tables state) written) (reference_to scope rows ∷ []) ≡ is_kept having rows
  having_means None having e = let none : Option GroupCondition = None in ap (λ (h : Option GroupCondition). is_kept h rows) (ok_same none having e)
  having_means (Some condition) having e =
      let make : GroupCondition → Result (Option GroupCondition) Refusal = λ made. Ok (Some made) in
      let (made, (is, makes)) = and_then_ok (group_condition_of scope grouping condition) make having e in
      ap (λ t. is_of t True) (condition_means condition made is) ∙ ap (λ (h : Option GroupCondition). is_kept h rows) (ok_same (Some made) having makes)

  -- a column of * in a group
  own_means : (place : ℕ) (summary : Summary) → own_summary grouping place ≡ Ok summary → first_value (map (value_in place) rows) ≡ summary_value rows summary
  own_means place summary e =
      let make : ℕ → Summary = λ column. record { aggregates = []; value = expr.Column column } in
      let (column, (found, makes)) = in_class_ok (among grouping (Some place)) (λ column. let r : Result Summary Refusal = Ok (make column) in r) summary e in
      let same : place ≡ column = same_Some place column (among_is grouping (Some place) column found) in
      let around : References = [] in
      first_in place rows ∙ ap (λ c. value_in c (first_row rows)) same ∙ sym (answer-Column tables state around (first_row rows) [] column)
      ∙ ap (summary_value rows) (ok_same (make column) summary makes)

  -- what is listed of a group is what is written
  summaries_mean : (columns : Option (List DerivedColumn)) (values : List Summary) (others : List RowValues) → summaries_of scope grouping columns ≡ Ok values
      → written_columns tables state (reference_to scope others) columns rows ≡ map (summary_value rows) values
  summaries_mean None values others are =
      sym (each_gives (own_summary grouping) (λ place. first_value (map (value_in place) rows)) (summary_value rows) own_means (places_from 0 scope.layout.columns) values are)
  summaries_mean (Some columns) values others are =
      sym (each_gives (λ (column : DerivedColumn). summary_of scope grouping column.value) (λ column. (evaluation_of tables state column.value).value (reference_to scope rows ∷ [])) (summary_value rows) (λ column. summary_means column.value) columns values are)

-- the groups of columns are those of names, where these have the same values
groups_same : (table : Reference) (names : List ColumnName) (columns : List ℕ) (sets : Bool) (rows : List RowValues) → ((row : RowValues) → grouping_values table names row ≡ map (λ c. value_in c row) columns)
    → written_groups table (Some names) sets rows ≡ groups_of columns rows
groups_same table [] [] sets rows same = refl
groups_same table [] (column ∷ columns) sets rows same = let no = same [] in cc
groups_same table (name ∷ names) [] sets rows same = let no = same [] in cc
groups_same table (name ∷ names) (column ∷ columns) sets rows same = ap (λ (values : RowValues → List Value). groups_by values rows) (λ i row. same row i)

-- GROUP BY makes the groups that are written
groups_mean : (scope : Scope) (others : List RowValues) (names : Option (List ColumnName)) (columns : List ℕ) (sets : Bool) (rows : List RowValues) → grouped_by scope names ≡ Ok columns → is_some names || sets ≡ true
    → written_groups (reference_to scope others) names sets rows ≡ groups_of columns rows
groups_mean scope others None columns false rows are grouped = cc
groups_mean scope others None columns true rows are grouped = let none : List ℕ = [] in ap (λ columns. groups_of columns rows) (ok_same none columns are)
groups_mean scope others (Some names) columns sets rows are grouped =
    groups_same (reference_to scope others) names columns sets rows (λ row.
    sym (each_gives (λ (name : ColumnName). in_class (own_column scope name) (λ c. let r : Result ℕ Refusal = Ok c in r)) (λ name. first_value (column_values name (reference_to scope (row ∷ []) ∷ []))) (λ c. value_in c row)
    (λ name c e.
    let (own, (is, makes)) = in_class_ok (own_column scope name) (λ c. let r : Result ℕ Refusal = Ok c in r) c e in
    own_value scope row [] name own is ∙ ap (λ c. value_in c row) (ok_same own c makes)) names columns are))

-- ---- what is listed

-- the columns of * in a row
all_columns : (tables : Tables) (state : State) (row : RowValues) (places : List ℕ) → map (λ place. first_value (values_at (Some place) (row ∷ []))) places ≡ map (resolved.answer row []) (map expr.Column places)
all_columns tables state row places =
    let around : References = [] in
    map_agree (λ place. first_value (values_at (Some place) (row ∷ []))) (λ place. resolved.answer row [] (expr.Column place)) (λ place. sym (answer-Column tables state around row [] place)) places
    ∙ sym (map_twice expr.Column (resolved.answer row []) places)

-- what is listed of each row on its own
each_alone : (list : List RowValues → RowValues) (values : List Expr) → ((row : RowValues) → list (row ∷ []) ≡ map (resolved.answer row []) values)
    → (kept : List RowValues) → map list (map (λ row. row ∷ []) kept) ≡ listed_rows (EachRow values) kept
each_alone list values same kept =
    map_twice (λ row. row ∷ []) list kept ∙ map_agree (λ row. list (row ∷ [])) (λ row. map (resolved.answer row []) values) same kept

-- nothing is left out
all_pass : (groups : List (List RowValues)) → filter (λ (rows : List RowValues). true) groups ≡ groups
all_pass [] = refl
all_pass (rows ∷ groups) = ap (λ l. rows ∷ l) (all_pass groups)

-- two tests of which neither holds
neither : (a b : Bool) → a || b ≡ false → (a ≡ false) × (b ≡ false)
neither false b e = (refl, e)
neither true b e = cc

or_assoc : (a b c : Bool) → (a || b) || c ≡ a || (b || c)
or_assoc true b c = refl
or_assoc false b c = refl

none_there : {A : Type 0} (o : Option A) → is_some o ≡ false → o ≡ None
none_there None e = refl
none_there (Some a) e = cc

module _ (tables : Tables) (state : State) (scope : Scope) (rows kept : List RowValues) where
  -- the list of each row
  each_row_means : (columns : Option (List DerivedColumn)) (values : List Expr) → each_row_of scope columns ≡ Ok values
      → map (written_columns tables state (reference_to scope rows) columns) (map (λ row. row ∷ []) kept) ≡ listed_rows (EachRow values) kept
  each_row_means None values e =
      let places = places_from 0 scope.layout.columns in
      each_alone (written_columns tables state (reference_to scope rows) None) (map expr.Column places) (λ row. all_columns tables state row places) kept
      ∙ ap (λ values. listed_rows (EachRow values) kept) (ok_same (map expr.Column places) values e)
  each_row_means (Some columns) values e =
      each_alone (written_columns tables state (reference_to scope rows) (Some columns)) values
      (λ row. sym (each_gives (λ (column : DerivedColumn). row_expression scope column.value) (λ column. (evaluation_of tables state column.value).value (reference_to scope (row ∷ []) ∷ [])) (resolved.answer row []) (λ column made is. row_expression_value scope column.value made is tables state row []) columns values e)) kept

  -- a set function stands in the list where one stands in its text
  lists_its_sets : (columns : Option (List DerivedColumn)) → lists_sets tables state columns ≡ lists_set_functions columns
  lists_its_sets None = refl
  lists_its_sets (Some columns) = any_column tables state columns

  -- the rows of a SELECT by its clauses, with whether a set function stands in its list
  abbrev gives : Option (List DerivedColumn) → Option Condition → Option (List ColumnName) → Bool → List RowValues
  gives columns having group_by sets =
      map (written_columns tables state (reference_to scope rows) columns) (
      filter (λ rows. passes (option_map (truth tables state) having) (reference_to scope rows ∷ [])) (
      written_groups (reference_to scope rows) group_by (is_some having || sets) kept))

  -- of groups
  grouping_gives : (written : Written) (grouping : Grouping) → is_grouped written ≡ true → grouping_of scope written ≡ Ok grouping
      → gives written.columns written.having written.group_by (lists_set_functions written.columns) ≡ listed_rows (EachGroup grouping) kept
  grouping_gives written grouping grouped e =
      let make : List ℕ → List Summary → Option GroupCondition → Grouping = λ columns values having. record { columns = columns; having = having; values = values } in
      let (columns, (by, more)) = and_then_ok (grouped_by scope written.group_by) (λ columns. and_then (summaries_of scope columns written.columns) (λ values. and_then (having_of scope columns written.having) (λ having. let r : Result Grouping Refusal = Ok (make columns values having) in r))) grouping e in
      let (values, (are, rest)) = and_then_ok (summaries_of scope columns written.columns) (λ values. and_then (having_of scope columns written.having) (λ having. let r : Result Grouping Refusal = Ok (make columns values having) in r)) grouping more in
      let (having, (has, makes)) = and_then_ok (having_of scope columns written.having) (λ having. let r : Result Grouping Refusal = Ok (make columns values having) in r) grouping rest in
      let list = written_columns tables state (reference_to scope rows) written.columns in
      let passing = λ (rows : List RowValues). passes (option_map (truth tables state) written.having) (reference_to scope rows ∷ []) in
      ap (λ groups. map list (filter passing groups)) (groups_mean scope rows written.group_by columns (is_some written.having || lists_set_functions written.columns) kept by (sym (or_assoc (is_some written.group_by) (is_some written.having) (lists_set_functions written.columns)) ∙ grouped))
      ∙ ap (map list) (filter_agree passing (is_kept having) (λ group. having_means tables state scope columns group written.having having has) (groups_of columns kept))
      ∙ map_agree list (λ group. map (summary_value group) values) (λ group. summaries_mean tables state scope columns group written.columns values rows are) (filter (is_kept having) (groups_of columns kept))
      ∙ ap (λ (g : Grouping). listed_rows (EachGroup g) kept) (ok_same (make columns values having) grouping makes)

  -- or of each row
  rows_give : (written : Written) (values : List Expr) → is_grouped written ≡ false → each_row_of scope written.columns ≡ Ok values
      → gives written.columns written.having written.group_by (lists_set_functions written.columns) ≡ listed_rows (EachRow values) kept
  rows_give written values alone e =
      let (no_group, more) = neither (is_some written.group_by) (is_some written.having || lists_set_functions written.columns) (sym (or_assoc (is_some written.group_by) (is_some written.having) (lists_set_functions written.columns)) ∙ alone) in
      let (no_having, no_sets) = neither (is_some written.having) (lists_set_functions written.columns) more in
      let list = written_columns tables state (reference_to scope rows) written.columns in
      let no_condition : Option Condition = None in
      let no_names : Option (List ColumnName) = None in
      ap (λ g. gives written.columns written.having g (lists_set_functions written.columns)) (none_there written.group_by no_group)
      ∙ ap (λ h. gives written.columns h no_names (lists_set_functions written.columns)) (none_there written.having no_having)
      ∙ ap (λ sets. gives written.columns no_condition no_names sets) no_sets
      ∙ ap (map list) (all_pass (map (λ row. row ∷ []) kept))
      ∙ each_row_means written.columns values e

  listing_by_gives : (written : Written) (b : Bool) (listing : Listing) → is_grouped written ≡ b → listing_by scope written b ≡ Ok listing
      → gives written.columns written.having written.group_by (lists_set_functions written.columns) ≡ listed_rows listing kept
  listing_by_gives written true listing is e =
      let make : Grouping → Result Listing Refusal = λ grouping. Ok (EachGroup grouping) in
      let (grouping, (are, makes)) = and_then_ok (grouping_of scope written) make listing e in
      grouping_gives written grouping is are ∙ ap (λ listing. listed_rows listing kept) (ok_same (EachGroup grouping) listing makes)
  listing_by_gives written false listing is e =
      let make : List Expr → Result Listing Refusal = λ values. Ok (EachRow values) in
      let (values, (are, makes)) = and_then_ok (each_row_of scope written.columns) make listing e in
      rows_give written values is are ∙ ap (λ listing. listed_rows listing kept) (ok_same (EachRow values) listing makes)

  -- what a SELECT lists of the rows that its WHERE keeps is what is written
  listing_gives : (written : Written) (listing : Listing) → listing_of scope written ≡ Ok listing
      → gives written.columns written.having written.group_by (lists_sets tables state written.columns) ≡ listed_rows listing kept
  listing_gives written listing e =
      ap (gives written.columns written.having written.group_by) (lists_its_sets written.columns) ∙ listing_by_gives written (is_grouped written) listing refl e

-- ---- SELECT

-- the parts of a SELECT that is taken
pub record Selects (tables : Tables) (written : Written) (select : Select) : Type 0 where
  pub target : Source
  pub found : source_of tables written.table written.correlation_name ≡ Some target
  pub listing : Listing
  pub lists : listing_of target.scope written ≡ Ok listing
  pub restriction : Cond
  pub keeps : row_filter target.scope written.keeps ≡ Ok restriction
  pub made : ◌≡◌ {A = Select} (record { table = target.table; listing = listing; filter = restriction }) select

pub selects : (tables : Tables) (written : Written) (select : Select) → select_of tables written ≡ Ok select → Selects tables written select
selects tables written select e =
    let make : Source → Listing → Cond → Select = λ target listing restriction. record { table = target.table; listing = listing; filter = restriction } in
    let (target, (is, more)) = and_then_ok (selected_source tables written) (λ target. unless (selected_fault tables target.scope written) (select_over target written)) select e in
    let columns = target.scope.layout.columns in
    let over = unless_ok (selected_fault tables target.scope written) (select_over target written) select more in
    let (listing, (lists, rest)) = and_then_ok (listing_of target.scope written) (λ listing. and_then (row_filter target.scope written.keeps) (λ restriction. sound_select columns (make target listing restriction))) select over in
    let (restriction, (keeps, sound)) = and_then_ok (row_filter target.scope written.keeps) (λ restriction. sound_select columns (make target listing restriction)) select rest in
    let made = make target listing restriction in
    let bounded : Result Select Refusal = if_holds (is_bounded_listing listing && is_bounded [] restriction) TooWide (Ok made) in
    let same = provided_ok (is_bounded_listing listing && is_bounded [] restriction) TooWide (Ok made) select (provided_ok (is_typed_listing columns listing && is_typed_condition columns [] restriction) TypeMismatch bounded select sound) in
    record { target = target; found = found_ok written.table (source_of tables written.table written.correlation_name) target is; listing = listing; lists = lists; restriction = restriction; keeps = keeps; made = ok_same made select same }

pub SelectsWritten-law : law.SelectsWritten
SelectsWritten-law tables written select e state =
    let s = selects tables written select e in
    let rows = rows_of s.target.table state in
    let kept = filtered_rows s.restriction rows in
    let list : Reference → List RowValues → List RowValues = λ table kept.
    map (written_columns tables state table written.columns) (filter (λ rows. passes (option_map (truth tables state) written.having) (with_rows table rows [])) (written_groups table written.group_by (is_some written.having || lists_sets tables state written.columns) kept)) in
    ap (list (table_of tables state written.table written.correlation_name)) (filtered_of tables state written.table written.correlation_name written.keeps s.target s.restriction s.found s.keeps)
    ∙ ap (λ table. list table kept) (source_seen tables state written.table written.correlation_name s.target s.found)
    ∙ listing_gives tables state s.target.scope rows kept written s.listing s.lists
    ∙ ap (λ (s : Select). listed_rows s.listing (filtered_rows s.filter (rows_of s.table state))) s.made
