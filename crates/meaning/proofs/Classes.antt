-- The class: a condition has a form exactly where it is in it.
use Rattle.std.proofs.Common.{◌≡◌, ℕ, suc, ◌+◌, Bool, true, false, cond, map, length, nat_eq, Option, Some, None, Result, Ok, List, [], ◌∷◌, ◌++◌, refl, ap, sym, ◌∙◌, subst, ⊎_elim, inl, inr}
use Rattle.std.specs.List.{position_or_len}
use Rattle.std.specs.Cmp.Lexicographic.{pointwise}
use Rattle.std.specs.Prelude.{◌⊎◌, IsNone, IsSome, not, nat_lt, option_map, unwrap_or, is_some, ◌==◌, find, if◌then◌else◌}
use Rattle.std.specs.Option.{option_and_then}
use Rattle.table.specs.declared.exprs.Expr.{Expr}
use Rattle.table.specs.declared.exprs.Expr.TheVariants as expr
use Rattle.value.specs.declared.refusals.Refusal.{Refusal}
use Rattle.value.specs.declared.comparisons.Comparison.{Comparison}
use Rattle.value.specs.declared.comparisons.Comparison.TheVariants.{Equal, NotEqual, Less, AtMost, Greater, AtLeast}
use Rattle.table.specs.Rows.{Layout, Tables, layout_of, names_of, position_of}
use Rattle.table.specs.declared.aggregates.Aggregate.{Aggregate}
use Rattle.table.specs.declared.aggregates.Aggregate.TheVariants.{CountRows}
use Rattle.table.specs.declared.conds.Cond.{Cond}
use Rattle.table.specs.declared.conds.Cond.TheViews as cond_of
use Rattle.assertion.specs.declared.queries.Query.{Query as Subquery}
use Rattle.assertion.specs.declared.queries.Link.{Link}
use Rattle.assertion.specs.declared.queries.Whole.{Whole}
use Rattle.assertion.specs.declared.forms.Form.{Form}
use Rattle.assertion.specs.declared.forms.Form.TheVariants.{ByRow, ByGroup, Single}
use Rattle.syntax.specs.declared.trees.ColumnName.{ColumnName}
use Rattle.syntax.specs.declared.trees.Condition.{Condition, out-Condition, roll-out-Condition}
use Rattle.syntax.specs.declared.trees.Condition.TheOpen.{Condition-F, Expression-F, SelectList-F}
use Rattle.syntax.specs.declared.trees.Expression.{Expression, out-Expression, roll-out-Expression}
use Rattle.syntax.specs.declared.trees.SelectList.{SelectList, out-SelectList}
use Rattle.syntax.specs.declared.trees.Query.{Query, out-Query}
use Rattle.form_check.specs.Scopes.{Scope, named_in, is_name_of, own_column}
use Rattle.value.specs.Results.{and_then, each}
use Rattle.form_check.specs.Results.{in_class, only_if}
use Rattle.form_check.specs.Columns.{no_column, in_group, grouping_column, at_place, outer_column, in_both, of_both}
use Rattle.form_check.specs.Leaves.{Leaf, Leaves, numbered}
use Rattle.form_check.specs.Queries.{Source, source_named, source_of, alone, aggregate_in, aggregate_selected, expression_may_stand, selection_may_stand, row_condition, joint_condition, row_filter, of_column, selected_aggregate, may_be_selected}
use Rattle.form_check.specs.Forms.{Clauses, plain, plain_by, plain_value, aggregate_of, row_where, by_row, having_over, by_group, by_clauses, not_exists, single, form_of_negation, form_in, form_of, slot_query_of}
use Rattle.meaning.specs.Class as class
use Rattle.meaning.specs.Class.{Piece, Pieces, Each, IfWritten, columns_in, pieces_in, read_by, named_as, IsColumnAt, IsSimple, IsSimpleList, IsSet, IsSetList, condition_pieces, expression_pieces, condition_columns, expression_columns, IsOwn, IsOverRows, IsPlainQuery, IsPlainPiece, IsSingle, IsSetFunction, IsGroupQuery, IsOfEither, IsOverBoth, IsLink, JoinsRow, JoinsKey, IsFirstLink, IsLinkedWhere, IsLinkedPiece, IsRowWhere, IsRowQuery, IsDenied, IsByRows, IsByGroups, IsInClass}
use Rattle.form_check.specs.Links.{top_parts, name_in, link_by, link_of_names, either, link_between, link_in, link_of, is_by, is_link, key_linked, may_link, first_link, beside, filter_parts}
use Rattle.form_check.specs.Forms.{linked_filter}
use Rattle.syntax.specs.declared.trees.Condition.TheFolds.{map-Condition, map-Expression, fold_out-Condition, fold_out-Expression}
use Rattle.std.proofs.Common.{arith}
use Rattle.std.proofs.lemmas.Bool.Decides.{nat_tests}
use Rattle.std.proofs.lemmas.Option.{same_Some}
use Rattle.meaning.proofs.Links.{one_test, link_names_are, either_is, first_link_is, linked_where_ok}
use Rattle.meaning.specs.Keys.{HasOneLink}
use Rattle.meaning.specs.Laws as law
use Rattle.meaning.specs.Laws.{Pairs}
use Rattle.form_check.proofs.Steps.{alone_ok, and_then_ok, in_class_ok, only_if_ok, ok_same}
use Rattle.meaning.proofs.Rows.{outer_column_is, both_cases}
use Rattle.meaning.proofs.Queries.{plain_by_ok}
use Rattle.meaning.proofs.Groups.{in_group_is}
use Rattle.meaning.proofs.Made.{single_made, row_made, group_made}
use Rattle.meaning.proofs.Whole.{by_clauses_ok}
use Rattle.meaning.proofs.Parts.{Fail, fail_none, none_fail, none_found, none_finds, split, joined, some_found, beside_each}
use Rattle.meaning.proofs.Standing.{leaf_of, MayStand, each_other, condition_numbers, some_is, columns_of, pieces_at, each_append, condition_pieces_rolled, expression_pieces_rolled}

-- it is answered
abbrev pub Answers : {A : Type 0} → Result A Refusal → Type 0
Answers {A} r = (a : A) × (r ≡ Ok a)

pub none_is : {A : Type 0} (o : Option A) → IsNone o → o ≡ None
none_is None h = refl
none_is (Some a) h = cc

-- ---- conditions of one table

equal_numbers : (m n : ℕ) → m == n ≡ true → m ≡ n
equal_numbers m n e = grind (arith, nat_tests)

numbers_equal : (m n : ℕ) → m ≡ n → m == n ≡ true
numbers_equal m n e = grind (arith, nat_tests)

no_pieces : (ps : Pieces) → map leaf_of ps ≡ [] → ps ≡ []
no_pieces [] e = refl
no_pieces (p ∷ ps) e = cc

some_mapped : {A B : Type 0} (f : A → B) (o : Option A) → is_some (option_map f o) ≡ is_some o
some_mapped f None = refl
some_mapped f (Some a) = refl

-- a column of the row at hand may stand there, where it has a place
at_stands : (place : ColumnName → Option ℕ) (c : ColumnName) → IsSome (at_place place c) → IsSome (place c)
at_stands place c h = sym (some_mapped expr.Column (place c)) ∙ h

stands_at : (place : ColumnName → Option ℕ) (c : ColumnName) → IsSome (place c) → IsSome (at_place place c)
stands_at place c h = some_mapped expr.Column (place c) ∙ h

-- conditions in which columns alone stand
module _ (place : ColumnName → Option Expr) (P : ColumnName → Type 0) (of_place : (c : ColumnName) → IsSome (place c) → P c) (to_place : (c : ColumnName) → P c → IsSome (place c)) where
  alone_over : (c : Condition) → Answers (and_then (numbered place c []) (λ m. alone m.0 m.1)) → Each P (columns_in c) × (pieces_in c ≡ [])
  alone_over c (made, e) =
      let (m, (is, rest)) = and_then_ok (numbered place c []) (λ m. alone m.0 m.1) made e in
      let (same, none) = alone_ok m.0 m.1 made rest in
      let (columns, leaves) = (condition_numbers place c).says [] m.0 m.1 is in
      (each_other (MayStand place) P of_place (columns_in c) columns, no_pieces (pieces_in c) (sym leaves ∙ none))

  over_alone : (c : Condition) → Each P (columns_in c) → pieces_in c ≡ [] → Answers (and_then (numbered place c []) (λ m. alone m.0 m.1))
  over_alone c columns none =
      let (made, is) = (condition_numbers place c).finds [] (each_other P (MayStand place) to_place (columns_in c) columns) in
      (made, ap (λ r. and_then r (λ m. alone m.0 m.1)) is ∙ ap (λ ps. alone made (map leaf_of ps)) none)

over_rows : (scope : Scope) (c : Condition) → Answers (row_condition scope c) → IsOverRows scope c
over_rows scope c h =
    let (columns, none) = alone_over (at_place (own_column scope)) (IsOwn scope) (at_stands (own_column scope)) (stands_at (own_column scope)) c h in
    record { columns = columns; alone = none }

rows_over : (scope : Scope) (c : Condition) → IsOverRows scope c → Answers (row_condition scope c)
rows_over scope c over = over_alone (at_place (own_column scope)) (IsOwn scope) (at_stands (own_column scope)) (stands_at (own_column scope)) c over.columns over.alone

pub over_filter : (scope : Scope) (c : Option Condition) → Answers (row_filter scope c) → IfWritten (IsOverRows scope) c
over_filter scope None h = tt
over_filter scope (Some c) h = over_rows scope c h

filter_over : (scope : Scope) (c : Option Condition) → IfWritten (IsOverRows scope) c → Answers (row_filter scope c)
filter_over scope None h = (cond_of.And [], refl)
filter_over scope (Some c) h = rows_over scope c h

-- ---- slots one after the other

each_of : {X A : Type 0} (make : X → Result A Refusal) (P : X → Type 0) → ((x : X) → Answers (make x) → P x) → (xs : List X) → Answers (each make xs) → Each P xs
each_of make P one [] h = tt
each_of {A = A} make P one (x ∷ xs) (made, e) =
    let (a, (is, more)) = and_then_ok (make x) (λ a. and_then (each make xs) (λ others. let r : Result (List A) Refusal = Ok (a ∷ others) in r)) made e in
    let (others, (are, makes)) = and_then_ok (each make xs) (λ others. let r : Result (List A) Refusal = Ok (a ∷ others) in r) made more in
    (one x (a, is), each_of make P one xs (others, are))

of_each : {X A : Type 0} (make : X → Result A Refusal) (P : X → Type 0) → ((x : X) → P x → Answers (make x)) → (xs : List X) → Each P xs → Answers (each make xs)
of_each {A = A} make P one [] h = let none : List A = [] in (none, refl)
of_each {A = A} make P one (x ∷ xs) h =
    let (a, is) = one x h.0 in
    let (others, are) = of_each make P one xs h.1 in
    (a ∷ others, ap (λ r. and_then r (λ a. and_then (each make xs) (λ others. let r : Result (List A) Refusal = Ok (a ∷ others) in r))) is ∙ ap (λ r. and_then r (λ others. let r : Result (List A) Refusal = Ok (a ∷ others) in r)) are)

pub each_mapped : {X Y A : Type 0} (make : Y → Result A Refusal) (f : X → Y) (xs : List X) → each make (map f xs) ≡ each (λ x. make (f x)) xs
each_mapped make f [] = refl
each_mapped {A = A} make f (x ∷ xs) = ap (λ r. and_then (make (f x)) (λ a. and_then r (λ others. let r : Result (List A) Refusal = Ok (a ∷ others) in r))) (each_mapped make f xs)

-- each of a list, one by one
pub each_pairs : {X A : Type 0} (make : X → Result A Refusal) (P : X → A → Type 0) → ((x : X) (a : A) → make x ≡ Ok a → P x a) → (xs : List X) (made : List A) → each make xs ≡ Ok made → Pairs P xs made
each_pairs {A = A} make P one [] made e = let none : List A = [] in subst (Pairs P []) (ok_same none made e) tt
each_pairs {A = A} make P one (x ∷ xs) made e =
    let (a, (is, more)) = and_then_ok (make x) (λ a. and_then (each make xs) (λ others. let r : Result (List A) Refusal = Ok (a ∷ others) in r)) made e in
    let (others, (are, makes)) = and_then_ok (each make xs) (λ others. let r : Result (List A) Refusal = Ok (a ∷ others) in r) made more in
    subst (Pairs P (x ∷ xs)) (ok_same (a ∷ others) made makes) (one x a is, each_pairs make P one xs others are)

-- what stands in the slots of pieces
pieces_of : {A : Type 0} (make : Leaf → Result A Refusal) (P : Piece → Type 0) → ((p : Piece) → Answers (make (leaf_of p)) → P p) → (leaves : Leaves) (ps : Pieces) → leaves ≡ map leaf_of ps → Answers (each make leaves) → Each P ps
pieces_of make P one leaves ps same (made, e) = each_of (λ p. make (leaf_of p)) P one ps (made, sym (each_mapped make leaf_of ps) ∙ ap (each make) (sym same) ∙ e)

of_pieces : {A : Type 0} (make : Leaf → Result A Refusal) (P : Piece → Type 0) → ((p : Piece) → P p → Answers (make (leaf_of p))) → (ps : Pieces) → Each P ps → Answers (each make (map leaf_of ps))
of_pieces make P one ps h = let (made, is) = of_each (λ p. make (leaf_of p)) P one ps h in (made, each_mapped make leaf_of ps ∙ is)

-- ---- the table that a query reads

pub source_read : (name : List ℕ) (p : Option ℕ) (l : Option Layout) (source : Source) → source_named name p l ≡ Some source → option_map (named_as name) l ≡ Some source.scope
source_read name None l source e = cc
source_read name (Some t) None source e = cc
source_read name (Some t) (Some l) source e =
    let found : Source = record { table = t; scope = named_as name l } in ap (λ (s : Source). let o : Option Scope = Some s.scope in o) (same_Some found source e)

reads_scope : (tables : Tables) (query : Query) (source : Source) → source_of tables (out-Query query).table (out-Query query).correlation_name ≡ Some source → read_by tables (out-Query query).table (out-Query query).correlation_name ≡ Some source.scope
reads_scope tables query source e =
    let q = out-Query query in source_read (unwrap_or q.correlation_name q.table) (position_of q.table tables) (layout_of q.table tables) source e

within_next : (b : Bool) (first l : Layout) (o : Option Layout) (n k : ℕ) → ◌≡◌ {A = Option Layout} (cond b (Some first) o) (Some l) → (o ≡ Some l → nat_lt n k ≡ true) → nat_lt (cond (not b) (1 + n) 0) (suc k) ≡ true
within_next true first l o n k e more = grind (arith, nat_tests)
within_next false first l o n k e more = let less = more e in grind (arith, nat_tests)

within : (name : List ℕ) (tables : Tables) (l : Layout) → layout_of name tables ≡ Some l → nat_lt (position_or_len (pointwise nat_eq name) (names_of tables)) (length (names_of tables)) ≡ true
within name [] l e = cc
within name (table ∷ tables) l e =
    within_next (pointwise nat_eq name table.0) table.1 l (layout_of name tables) (position_or_len (pointwise nat_eq name) (names_of tables)) (length (names_of tables)) e (within name tables l)

pub placed_at : (name : List ℕ) (tables : Tables) (l : Layout) → layout_of name tables ≡ Some l → position_of name tables ≡ Some (position_or_len (pointwise nat_eq name) (names_of tables))
placed_at name tables l e = ap (λ b. let o : Option ℕ = cond b (Some (position_or_len (pointwise nat_eq name) (names_of tables))) None in o) (within name tables l e)

scope_layout : (name : List ℕ) (o : Option Layout) (scope : Scope) → option_map (named_as name) o ≡ Some scope → (l : Layout) × ((o ≡ Some l) × (named_as name l ≡ scope))
scope_layout name None scope e = cc
scope_layout name (Some l) scope e = (l, (refl, same_Some (named_as name l) scope e))

-- and so it has a place
scope_reads : (tables : Tables) (query : Query) (scope : Scope) → read_by tables (out-Query query).table (out-Query query).correlation_name ≡ Some scope → (t : ℕ) × (source_of tables (out-Query query).table (out-Query query).correlation_name ≡ Some (record { table = t; scope = scope }))
scope_reads tables query scope e =
    let q = out-Query query in
    let name = unwrap_or q.correlation_name q.table in
    let (l, (is, same)) = scope_layout name (layout_of q.table tables) scope e in
    let t = position_or_len (pointwise nat_eq q.table) (names_of tables) in
    (t, ap (λ p. source_named name p (layout_of q.table tables)) (placed_at q.table tables l is) ∙ ap (source_named name (Some t)) is ∙ ap (λ (scope : Scope). let o : Option Source = Some (record { table = t; scope = scope }) in o) same)

-- ---- select lists

module _ (place : ColumnName → Option ℕ) (P : ColumnName → Type 0) (of_place : (c : ColumnName) → IsSome (place c) → P c) (to_place : (c : ColumnName) → P c → IsSome (place c)) where
  simple_layer : (layer : Expression-F Condition Expression SelectList Query) → expression_may_stand place layer ≡ true → IsSimple P layer
  simple_layer (Expression-F.Number n) e = tt
  simple_layer (Expression-F.Text t) e = tt
  simple_layer (Expression-F.Column c) e = of_place c e
  simple_layer Expression-F.CountRows e = cc
  simple_layer (Expression-F.Aggregate f c) e = cc
  simple_layer (Expression-F.Subquery query) e = cc
  simple_layer (Expression-F.Negation part) e = cc
  simple_layer (Expression-F.Sum parts) e = cc
  simple_layer (Expression-F.Product parts) e = cc

  layer_simple : (layer : Expression-F Condition Expression SelectList Query) → IsSimple P layer → expression_may_stand place layer ≡ true
  layer_simple (Expression-F.Number n) h = refl
  layer_simple (Expression-F.Text t) h = refl
  layer_simple (Expression-F.Column c) h = to_place c h
  layer_simple Expression-F.CountRows h = absurd h
  layer_simple (Expression-F.Aggregate f c) h = absurd h
  layer_simple (Expression-F.Subquery query) h = absurd h
  layer_simple (Expression-F.Negation part) h = absurd h
  layer_simple (Expression-F.Sum parts) h = absurd h
  layer_simple (Expression-F.Product parts) h = absurd h

  list_layer : (layer : SelectList-F Condition Expression SelectList Query) → selection_may_stand place layer ≡ true → IsSimpleList P layer
  list_layer SelectList-F.Star e = tt
  list_layer (SelectList-F.One x) e = simple_layer (out-Expression x) e

  layer_list : (layer : SelectList-F Condition Expression SelectList Query) → IsSimpleList P layer → selection_may_stand place layer ≡ true
  layer_list SelectList-F.Star h = refl
  layer_list (SelectList-F.One x) h = layer_simple (out-Expression x) h

  simple_list : (list : SelectList) → may_be_selected place list ≡ true → IsSimpleList P (out-SelectList list)
  simple_list list e = list_layer (out-SelectList list) e

  list_simple : (list : SelectList) → IsSimpleList P (out-SelectList list) → may_be_selected place list ≡ true
  list_simple list h = layer_list (out-SelectList list) h

own_list : (scope : Scope) (list : SelectList) → may_be_selected (own_column scope) list ≡ true → IsSimpleList (IsOwn scope) (out-SelectList list)
own_list scope list e = simple_list (own_column scope) (IsOwn scope) (λ c h. h) (λ c h. h) list e

list_own : (scope : Scope) (list : SelectList) → IsSimpleList (IsOwn scope) (out-SelectList list) → may_be_selected (own_column scope) list ≡ true
list_own scope list h = list_simple (own_column scope) (IsOwn scope) (λ c h. h) (λ c h. h) list h

-- the grouping column
grouped_at : (group : ℕ) (o : Option ℕ) → IsSome (in_group group o) → o ≡ Some group
grouped_at group o h = let (c, is) = some_is (in_group group o) h in (in_group_is group o c is).0

at_group : (group : ℕ) (o : Option ℕ) → o ≡ Some group → IsSome (in_group group o)
at_group group o e = ap (λ o. is_some (in_group group o)) e ∙ ap (λ b. let o : Option ℕ = cond b (Some 0) None in is_some o) (numbers_equal group group refl)

group_list : (scope : Scope) (group : ℕ) (list : SelectList) → may_be_selected (grouping_column scope group) list ≡ true → IsSimpleList (IsColumnAt scope group) (out-SelectList list)
group_list scope group list e = simple_list (grouping_column scope group) (IsColumnAt scope group) (λ c h. grouped_at group (own_column scope c) h) (λ c h. at_group group (own_column scope c) h) list e

list_group : (scope : Scope) (group : ℕ) (list : SelectList) → IsSimpleList (IsColumnAt scope group) (out-SelectList list) → may_be_selected (grouping_column scope group) list ≡ true
list_group scope group list h = list_simple (grouping_column scope group) (IsColumnAt scope group) (λ c h. grouped_at group (own_column scope c) h) (λ c h. at_group group (own_column scope c) h) list h

-- one set function
set_layer : (scope : Scope) (layer : Expression-F Condition Expression SelectList Query) → is_some (aggregate_in scope layer) ≡ true → IsSet scope layer
set_layer scope (Expression-F.Number n) e = cc
set_layer scope (Expression-F.Text t) e = cc
set_layer scope (Expression-F.Column c) e = cc
set_layer scope Expression-F.CountRows e = tt
set_layer scope (Expression-F.Aggregate f a) e = sym (some_mapped (of_column f a.quantifier) (own_column scope a.column)) ∙ e
set_layer scope (Expression-F.Subquery query) e = cc
set_layer scope (Expression-F.Negation part) e = cc
set_layer scope (Expression-F.Sum parts) e = cc
set_layer scope (Expression-F.Product parts) e = cc

layer_set : (scope : Scope) (layer : Expression-F Condition Expression SelectList Query) → IsSet scope layer → is_some (aggregate_in scope layer) ≡ true
layer_set scope (Expression-F.Number n) h = absurd h
layer_set scope (Expression-F.Text t) h = absurd h
layer_set scope (Expression-F.Column c) h = absurd h
layer_set scope Expression-F.CountRows h = refl
layer_set scope (Expression-F.Aggregate f a) h = some_mapped (of_column f a.quantifier) (own_column scope a.column) ∙ h
layer_set scope (Expression-F.Subquery query) h = absurd h
layer_set scope (Expression-F.Negation part) h = absurd h
layer_set scope (Expression-F.Sum parts) h = absurd h
layer_set scope (Expression-F.Product parts) h = absurd h

set_list_layer : (scope : Scope) (layer : SelectList-F Condition Expression SelectList Query) → is_some (aggregate_selected scope layer) ≡ true → IsSetList scope layer
set_list_layer scope SelectList-F.Star e = cc
set_list_layer scope (SelectList-F.One x) e = set_layer scope (out-Expression x) e

layer_set_list : (scope : Scope) (layer : SelectList-F Condition Expression SelectList Query) → IsSetList scope layer → is_some (aggregate_selected scope layer) ≡ true
layer_set_list scope SelectList-F.Star h = absurd h
layer_set_list scope (SelectList-F.One x) h = layer_set scope (out-Expression x) h

set_list : (scope : Scope) (list : SelectList) → IsSome (selected_aggregate scope list) → IsSetList scope (out-SelectList list)
set_list scope list e = set_list_layer scope (out-SelectList list) e

list_set : (scope : Scope) (list : SelectList) → IsSetList scope (out-SelectList list) → IsSome (selected_aggregate scope list)
list_set scope list h = layer_set_list scope (out-SelectList list) h

-- ---- single conditions

plain_query : (tables : Tables) (query : Query) → Answers (plain_value tables (out-Query query)) → IsPlainQuery tables query
plain_query tables query (p, e) =
    let q = out-Query query in
    let (source, (found, more)) = in_class_ok (source_of tables q.table q.correlation_name) (λ source. plain_by source (selected_aggregate source.scope q.select_list) q.keeps q.group q.having) p e in
    let (no_group, (no_having, (function, (lists, (restriction, (filters, makes)))))) = plain_by_ok source (selected_aggregate source.scope q.select_list) q.keeps q.group q.having p more in
    record { scope = source.scope; reads = reads_scope tables query source found; lists = set_list source.scope q.select_list (ap is_some lists); filter = over_filter source.scope q.keeps (restriction, filters); ungrouped = ap is_some no_group; whole = ap is_some no_having }

query_plain : (tables : Tables) (query : Query) → IsPlainQuery tables query → Answers (plain_value tables (out-Query query))
query_plain tables query is =
    let q = out-Query query in
    let scope = is.scope in
    let (t, reads) = scope_reads tables query scope is.reads in
    let source : Source = record { table = t; scope = scope } in
    let (a, lists) = some_is (selected_aggregate scope q.select_list) (list_set scope q.select_list is.lists) in
    let (restriction, filters) = filter_over scope q.keeps is.filter in
    let make : Aggregate → Cond → Subquery Whole = λ a restriction. record { table = t; filter = restriction; grouping = record {}; aggregate = a } in (
      make a restriction,
      ap (λ o. in_class o (λ source. plain_by source (selected_aggregate source.scope q.select_list) q.keeps q.group q.having)) reads
          ∙ ap (λ g. plain_by source (selected_aggregate scope q.select_list) q.keeps g q.having) (none_is q.group is.ungrouped)
          ∙ ap (λ h. plain_by source (selected_aggregate scope q.select_list) q.keeps None h) (none_is q.having is.whole)
          ∙ ap (λ o. plain_by source o q.keeps None None) lists
          ∙ ap (λ r. and_then r (λ restriction. let r : Result (Subquery Whole) Refusal = Ok (make a restriction) in r)) filters,
    )

plain_leaf_is : (tables : Tables) (p : Piece) → Answers (plain tables (leaf_of p)) → IsPlainPiece tables p
plain_leaf_is tables class.Rows (p, e) = cc
plain_leaf_is tables (class.Of f c) (p, e) = cc
plain_leaf_is tables (class.Exists query) (p, e) = cc
plain_leaf_is tables (class.Value query) h = plain_query tables query h

leaf_is_plain : (tables : Tables) (p : Piece) → IsPlainPiece tables p → Answers (plain tables (leaf_of p))
leaf_is_plain tables class.Rows h = absurd h
leaf_is_plain tables (class.Of f c) h = absurd h
leaf_is_plain tables (class.Exists query) h = absurd h
leaf_is_plain tables (class.Value query) h = query_plain tables query h

no_columns : (cs : List ColumnName) → Each (MayStand (at_place no_column)) cs → cs ≡ []
no_columns [] h = refl
no_columns (c ∷ cs) h = let k : false ≡ true = h.0 in cc

pub single_class : (tables : Tables) (c : Condition) → Answers (single tables c) → IsSingle tables c
single_class tables c (form, e) =
    let m = single_made tables c form e in
    let (columns, leaves) = (condition_numbers (at_place no_column) c).says [] m.made m.leaves m.numbers in
    record { columns = no_columns (columns_in c) columns; queries = pieces_of (plain tables) (IsPlainPiece tables) (plain_leaf_is tables) m.leaves (pieces_in c) leaves (m.queries, m.are) }

pub class_single : (tables : Tables) (c : Condition) → IsSingle tables c → Answers (single tables c)
class_single tables c h =
    let (made, is) = (condition_numbers (at_place no_column) c).finds [] (subst (Each (MayStand (at_place no_column))) (sym h.columns) tt) in
    let (queries, are) = of_pieces (plain tables) (IsPlainPiece tables) (leaf_is_plain tables) (pieces_in c) h.queries in (
      Single made queries,
      ap (λ r. and_then r (λ m. and_then (each (plain tables) m.1) (λ queries. let r : Result Form Refusal = Ok (Single m.0 queries) in r))) is
          ∙ ap (λ r. and_then r (λ queries. let r : Result Form Refusal = Ok (Single made queries) in r)) are,
    )

-- ---- by groups

set_leaf : (scope : Scope) (p : Piece) → Answers (aggregate_of scope (leaf_of p)) → IsSetFunction scope p
set_leaf scope class.Rows h = tt
set_leaf scope (class.Of f argument) (a, e) =
    let (c, (is, makes)) = in_class_ok (own_column scope argument.column) (λ c. let r : Result Aggregate Refusal = Ok (of_column f argument.quantifier c) in r) a e in ap is_some is
set_leaf scope (class.Exists query) (a, e) = cc
set_leaf scope (class.Value query) (a, e) = cc

leaf_set : (scope : Scope) (p : Piece) → IsSetFunction scope p → Answers (aggregate_of scope (leaf_of p))
leaf_set scope class.Rows h = (CountRows, refl)
leaf_set scope (class.Of f argument) h =
    let q = argument.quantifier in
    let (c, is) = some_is (own_column scope argument.column) h in
    (of_column f q c, ap (λ o. in_class o (λ c. let r : Result Aggregate Refusal = Ok (of_column f q c) in r)) is)
leaf_set scope (class.Exists query) h = absurd h
leaf_set scope (class.Value query) h = absurd h

group_class : (source : Source) (query : Clauses) (column : ColumnName) (having : Condition) → Answers (by_group source query column having)
    → (group : ℕ) × ((own_column source.scope column ≡ Some group) × (IsSimpleList (IsColumnAt source.scope group) (out-SelectList query.select_list) × (IfWritten (IsOverRows source.scope) query.keeps × (Each (IsColumnAt source.scope group) (columns_in having) × Each (IsSetFunction source.scope) (pieces_in having)))))
group_class source query column having (form, e) =
    let scope = source.scope in
    let m = group_made source query column having form e in
    let group = m.group in
    let (columns, leaves) = (condition_numbers (at_place (grouping_column scope group)) having).says [] m.made m.leaves m.numbers in
    (group, (m.own, (group_list scope group query.select_list m.lists, (over_filter scope query.keeps (m.restriction, m.keeps), (each_other (MayStand (at_place (grouping_column scope group))) (IsColumnAt scope group) (λ c h. grouped_at group (own_column scope c) (at_stands (grouping_column scope group) c h)) (columns_in having) columns, pieces_of (aggregate_of scope) (IsSetFunction scope) (set_leaf scope) m.leaves (pieces_in having) leaves (m.aggregates, m.are))))))

class_group : (source : Source) (query : Clauses) (column : ColumnName) (having : Condition) (group : ℕ) → own_column source.scope column ≡ Some group → IsSimpleList (IsColumnAt source.scope group) (out-SelectList query.select_list) → IfWritten (IsOverRows source.scope) query.keeps
    → Each (IsColumnAt source.scope group) (columns_in having) → Each (IsSetFunction source.scope) (pieces_in having) → Answers (by_group source query column having)
class_group source query column having group own lists keeps columns leaves =
    let scope = source.scope in
    let (restriction, filters) = filter_over scope query.keeps keeps in
    let (made, is) = (condition_numbers (at_place (grouping_column scope group)) having).finds [] (each_other (IsColumnAt scope group) (MayStand (at_place (grouping_column scope group))) (λ c h. stands_at (grouping_column scope group) c (at_group group (own_column scope c) h)) (columns_in having) columns) in
    let (aggregates, are) = of_pieces (aggregate_of scope) (IsSetFunction scope) (leaf_set scope) (pieces_in having) leaves in (
      ByGroup source.table restriction group made aggregates,
      ap (λ o. in_class o (λ group. only_if (may_be_selected (grouping_column scope group) query.select_list) (and_then (row_filter scope query.keeps) (λ restriction. having_over source group restriction having)))) own
          ∙ ap (λ b. only_if b (and_then (row_filter scope query.keeps) (λ restriction. having_over source group restriction having))) (list_group scope group query.select_list lists)
          ∙ ap (λ r. and_then r (λ restriction. having_over source group restriction having)) filters
          ∙ ap (λ r. and_then r (λ made. and_then (each (aggregate_of scope) made.1) (λ aggregates. let r : Result Form Refusal = Ok (ByGroup source.table restriction group made.0 aggregates) in r))) is
          ∙ ap (λ r. and_then r (λ aggregates. let r : Result Form Refusal = Ok (ByGroup source.table restriction group made aggregates) in r)) are,
    )

-- ---- conditions over both rows

-- a name may stand over both rows where it is of the child, or else of the row around
both_stands : (child root : Scope) (column : ColumnName) → IsSome (of_both child root column) → IsOfEither child root column
both_stands child root column h =
    let (e, is) = some_is (of_both child root column) h in
    ⊎_elim (λ own. inl (ap is_some own.1.0)) (λ around. inr (around.0, outer_column_is child root column around.0 around.1.0)) (both_cases child root column e is)

stands_both : (child root : Scope) (column : ColumnName) → IsOfEither child root column → IsSome (of_both child root column)
stands_both child root column h =
    ⊎_elim
    (λ own. let (c, is) = some_is (own_column child column) own in ap (λ o. is_some (in_both o (outer_column child root column))) is)
    (λ around.
    ap (λ b. is_some (in_both (if b then named_in column.name child else None) (if b then None else own_column root column))) around.1.0
    ∙ ap (λ o. is_some (in_both None o)) around.1.1)
    h

over_both : (child root : Scope) (c : Condition) → Answers (joint_condition child root c) → IsOverBoth child root c
over_both child root c h =
    let (columns, none) = alone_over (of_both child root) (IsOfEither child root) (both_stands child root) (stands_both child root) c h in
    record { columns = columns; alone = none }

both_over : (child root : Scope) (c : Condition) → IsOverBoth child root c → Answers (joint_condition child root c)
both_over child root c over = over_alone (of_both child root) (IsOfEither child root) (both_stands child root) (stands_both child root) c over.columns over.alone

-- ---- what stands in a node

leaves_out : (c : Condition) → pieces_in c ≡ condition_pieces (map-Condition Condition Expression SelectList Query (Condition × Pieces) (Expression × Pieces) (SelectList × Unit {0}) (Query × Unit {0}) (λ c. (c, pieces_in c)) (λ e. (e, pieces_at e)) (λ l. (l, tt)) (λ q. (q, tt)) (out-Condition c))
leaves_out c = ap pieces_in (sym (roll-out-Condition c)) ∙ condition_pieces_rolled (out-Condition c)

leaves_layer : (c : Condition) (layer : Condition-F Condition Expression SelectList Query) → out-Condition c ≡ layer → pieces_in c ≡ condition_pieces (map-Condition Condition Expression SelectList Query (Condition × Pieces) (Expression × Pieces) (SelectList × Unit {0}) (Query × Unit {0}) (λ c. (c, pieces_in c)) (λ e. (e, pieces_at e)) (λ l. (l, tt)) (λ q. (q, tt)) layer)
leaves_layer c layer e = leaves_out c ∙ ap (λ layer. condition_pieces (map-Condition Condition Expression SelectList Query (Condition × Pieces) (Expression × Pieces) (SelectList × Unit {0}) (Query × Unit {0}) (λ c. (c, pieces_in c)) (λ e. (e, pieces_at e)) (λ l. (l, tt)) (λ q. (q, tt)) layer)) e

pieces_layer : (x : Expression) (layer : Expression-F Condition Expression SelectList Query) → out-Expression x ≡ layer → pieces_at x ≡ expression_pieces (map-Expression Condition Expression SelectList Query (Condition × Pieces) (Expression × Pieces) (SelectList × Unit {0}) (Query × Unit {0}) (λ c. (c, pieces_in c)) (λ e. (e, pieces_at e)) (λ l. (l, tt)) (λ q. (q, tt)) layer)
pieces_layer x layer e =
    ap pieces_at (sym (roll-out-Expression x)) ∙ expression_pieces_rolled (out-Expression x)
    ∙ ap (λ layer. expression_pieces (map-Expression Condition Expression SelectList Query (Condition × Pieces) (Expression × Pieces) (SelectList × Unit {0}) (Query × Unit {0}) (λ c. (c, pieces_in c)) (λ e. (e, pieces_at e)) (λ l. (l, tt)) (λ q. (q, tt)) layer)) e

name_columns : (x : Expression) (name : ColumnName) → out-Expression x ≡ Expression-F.Column name → columns_of x ≡ name ∷ []
name_columns x name e =
    fold_out-Expression (List ColumnName) (List ColumnName) (Unit {0}) (Unit {0}) condition_columns expression_columns (λ l. tt) (λ q. tt) x
    ∙ ap (λ layer. expression_columns (map-Expression Condition Expression SelectList Query (List ColumnName) (List ColumnName) (Unit {0}) (Unit {0}) columns_in columns_of (λ l. tt) (λ q. tt) layer)) e

sides_columns : (part : Condition) (left right : Expression) (c : Comparison) → out-Condition part ≡ Condition-F.Compare left c right → columns_in part ≡ columns_of left ++ columns_of right
sides_columns part left right c e =
    fold_out-Condition (List ColumnName) (List ColumnName) (Unit {0}) (Unit {0}) condition_columns expression_columns (λ l. tt) (λ q. tt) part
    ∙ ap (λ layer. condition_columns (map-Condition Condition Expression SelectList Query (List ColumnName) (List ColumnName) (Unit {0}) (Unit {0}) columns_in columns_of (λ l. tt) (λ q. tt) layer)) e

-- a comparison of two columns
pub compares_columns : (child root : Scope) (part : Condition) (left right : Expression) (c : Comparison) (l r : ColumnName) → out-Condition part ≡ Condition-F.Compare left c right → out-Expression left ≡ Expression-F.Column l → out-Expression right ≡ Expression-F.Column r
    → IsOfEither child root l → IsOfEither child root r → IsOverBoth child root part
compares_columns child root part left right c l r out is_left is_right on_left on_right =
    let columns : columns_in part ≡ l ∷ r ∷ [] = sides_columns part left right c out ∙ ap (λ cs. cs ++ columns_of right) (name_columns left l is_left) ∙ ap (λ cs. l ∷ cs) (name_columns right r is_right) in
    record {
      columns = subst (Each (IsOfEither child root)) (sym columns) (on_left, (on_right, tt));
      alone =
          leaves_layer part (Condition-F.Compare left c right) out
          ∙ ap (λ ps. ps ++ pieces_at right) (pieces_layer left (Expression-F.Column l) is_left)
          ∙ pieces_layer right (Expression-F.Column r) is_right;
    }

-- ---- links

named : (layer : Expression-F Condition Expression SelectList Query) (column : ColumnName) → name_in layer ≡ Some column → layer ≡ Expression-F.Column column
named (Expression-F.Number n) column e = cc
named (Expression-F.Text t) column e = cc
named (Expression-F.Column c) column e = ap (λ c. let l : Expression-F Condition Expression SelectList Query = Expression-F.Column c in l) (ap (λ o. elim o [ None ↦ c | Some x ↦ x ]) e)
named Expression-F.CountRows column e = cc
named (Expression-F.Aggregate f c) column e = cc
named (Expression-F.Subquery query) column e = cc
named (Expression-F.Negation part) column e = cc
named (Expression-F.Sum parts) column e = cc
named (Expression-F.Product parts) column e = cc

module _ (child root : Scope) where
  link_names : (part : Condition) (left right : Expression) → out-Condition part ≡ Condition-F.Compare left Equal right → (l r : Option ColumnName) → name_in (out-Expression left) ≡ l → name_in (out-Expression right) ≡ r → (c : Link) → link_between child root l r ≡ Some c → IsLink child root c part
  link_names part left right out None r e f c is = cc
  link_names part left right out (Some l) None e f c is = cc
  link_names part left right out (Some l) (Some r) e f c is = record {
    left = left;
    right = right;
    equality = out;
    sides =
        ⊎_elim
        (λ one. let (none, (key, own)) = link_names_are child root l r c one in inl ((l, named (out-Expression left) l e, own), (r, named (out-Expression right) r f, (none, key))))
        (λ two. let (none, (key, own)) = link_names_are child root r l c two in inr ((r, named (out-Expression right) r f, own), (l, named (out-Expression left) l e, (none, key))))
        (either_is (link_of_names child root l r) (link_of_names child root r l) c is);
  }

  link_layer : (part : Condition) (layer : Condition-F Condition Expression SelectList Query) → out-Condition part ≡ layer → (c : Link) → link_in child root layer ≡ Some c → IsLink child root c part
  link_layer part (Condition-F.Or parts) out c e = cc
  link_layer part (Condition-F.And parts) out c e = cc
  link_layer part (Condition-F.Not inner) out c e = cc
  link_layer part (Condition-F.Is inner wanted) out c e = cc
  link_layer part (Condition-F.Exists query) out c e = cc
  link_layer part (Condition-F.Compare left Equal right) out c e = link_names part left right out (name_in (out-Expression left)) (name_in (out-Expression right)) refl refl c e
  link_layer part (Condition-F.Compare left NotEqual right) out c e = cc
  link_layer part (Condition-F.Compare left Less right) out c e = cc
  link_layer part (Condition-F.Compare left AtMost right) out c e = cc
  link_layer part (Condition-F.Compare left Greater right) out c e = cc
  link_layer part (Condition-F.Compare left AtLeast right) out c e = cc
  link_layer part (Condition-F.IsNull x) out c e = cc
  link_layer part (Condition-F.Between x low high) out c e = cc
  link_layer part (Condition-F.In x list) out c e = cc

  link_is : (part : Condition) (c : Link) → link_of child root part ≡ Some c → IsLink child root c part
  link_is part c e = link_layer part (out-Condition part) refl c e

  inner_first : (l r : ColumnName) (c : Link) → own_column child l ≡ Some c.inner → is_name_of r.qualifier r.name child ≡ false → own_column root r ≡ Some c.outer → link_of_names child root l r ≡ Some c
  inner_first l r c own none around =
      ap (λ o. link_by o (if is_name_of r.qualifier r.name child then None else own_column root r)) own
      ∙ ap (λ b. link_by (Some c.inner) (if b then None else own_column root r)) none ∙ ap (link_by (Some c.inner)) around

  no_outer : (o : Option ℕ) → link_by o None ≡ None
  no_outer None = refl
  no_outer (Some inner) = refl

  inner_hidden : (l r : ColumnName) (c : ℕ) → own_column child r ≡ Some c → link_of_names child root l r ≡ None
  inner_hidden l r c own =
      ap (λ b. link_by (own_column child l) (if b then None else own_column root r)) (one_test (is_name_of r.qualifier r.name child) (named_in r.name child) c own).0 ∙ no_outer (own_column child l)

  pub of_link : (part : Condition) (c : Link) → IsLink child root c part → link_of child root part ≡ Some c
  of_link part c h =
      ⊎_elim
      (λ one.
      let l = one.0.0 in let r = one.1.0 in
      ap (link_in child root) h.equality ∙ ap (λ x. link_between child root (name_in x) (name_in (out-Expression h.right))) one.0.1 ∙ ap (λ x. link_between child root (Some l) (name_in x)) one.1.1
      ∙ ap (λ o. either o (link_of_names child root r l)) (inner_first l r c one.0.2 one.1.2.0 one.1.2.1))
      (λ two.
      let r = two.0.0 in let l = two.1.0 in
      ap (link_in child root) h.equality ∙ ap (λ x. link_between child root (name_in x) (name_in (out-Expression h.right))) two.1.1 ∙ ap (λ x. link_between child root (Some l) (name_in x)) two.0.1
      ∙ ap (λ o. either o (link_of_names child root r l)) (inner_hidden l r c.inner two.0.2) ∙ inner_first r l c two.0.2 two.1.2.0 two.1.2.1)
      h.sides

  -- ---- which part is the link

  abbrev by_key : Condition → Bool
  by_key = is_link child root (Some child.layout.key)

  abbrev by_any : Condition → Bool
  by_any = is_link child root None

  key_joined : (part : Condition) → by_key part ≡ true → JoinsKey child root part
  key_joined part e = go (link_of child root part) refl e
    where
      go : (o : Option Link) → link_of child root part ≡ o → is_by (Some child.layout.key) o ≡ true → JoinsKey child root part
      go None is e = cc
      go (Some c) is e = (c, link_is part c is, equal_numbers c.inner child.layout.key e)

  joins_key : (part : Condition) → JoinsKey child root part → by_key part ≡ true
  joins_key part h = ap (is_by (Some child.layout.key)) (of_link part h.0 h.1) ∙ numbers_equal h.0.inner child.layout.key h.2

  any_joined : (part : Condition) → by_any part ≡ true → JoinsRow child root part
  any_joined part e = go (link_of child root part) refl e
    where
      go : (o : Option Link) → link_of child root part ≡ o → is_by None o ≡ true → JoinsRow child root part
      go None is e = cc
      go (Some c) is e = (c, link_is part c is)

  joins_any : (part : Condition) → JoinsRow child root part → by_any part ≡ true
  joins_any part h = ap (is_by None) (of_link part h.0 h.1)

  -- the first part that may be the link
  first_is : (parts before : List Condition) (link : Condition) (c : Link) → link_of child root link ≡ Some c → may_link child root parts link ≡ true → Fail (may_link child root parts) before → IsFirstLink child root c before parts
  first_is parts before link c is may none = go (find by_key parts) refl may none
    where
      go : (o : Option Condition) → find by_key parts ≡ o → is_link child root (if is_some o then Some child.layout.key else None) link ≡ true → Fail (is_link child root (if is_some o then Some child.layout.key else None)) before → IsFirstLink child root c before parts
      go (Some first) found may none = inl (equal_numbers c.inner child.layout.key (sym (ap (is_by (Some child.layout.key)) is) ∙ may), fail_none by_key (JoinsKey child root) joins_key before none)
      go None found may none = inr (fail_none by_key (JoinsKey child root) joins_key parts (none_found by_key parts found), fail_none by_any (JoinsRow child root) joins_any before none)

  pub where_class : (condition : Condition) (c : Link) → first_link child root (top_parts condition) ≡ Some c → Answers (filter_parts child root (top_parts condition)) → IsLinkedWhere child root c condition
  where_class condition c first restriction =
      let parts = top_parts condition in
      let (link, (found, is)) = first_link_is child root parts c first in
      let (before, (behind, (are, (may, (none, left))))) = split (may_link child root parts) parts link found in record {
        before = before;
        link = link;
        behind = behind;
        parts = are;
        links = link_is link c is;
        others = subst (Each (IsOverBoth child root)) left (each_of (joint_condition child root) (IsOverBoth child root) (over_both child root) (beside (may_link child root parts) parts) restriction);
        first = subst (IsFirstLink child root c before) are (first_is parts before link c is may none);
      }

  abbrev Linked : Link → List Condition → Type 0
  Linked c parts = (first_link child root parts ≡ Some c) × Answers (filter_parts child root parts)

  first_found : (parts : List Condition) (link : Condition) (c : Link) (column : Option ℕ) → key_linked child root parts ≡ column → find (is_link child root column) parts ≡ Some link → link_of child root link ≡ Some c → first_link child root parts ≡ Some c
  first_found parts link c column keyed found is = ap (λ k. option_and_then (link_of child root) (find (is_link child root k) parts)) keyed ∙ ap (option_and_then (link_of child root)) found ∙ is

  linked_parts : (before behind : List Condition) (link : Condition) (c : Link) (column : Option ℕ) → link_of child root link ≡ Some c → Each (IsOverBoth child root) (before ++ behind)
      → key_linked child root (before ++ link ∷ behind) ≡ column → Fail (is_link child root column) before → is_link child root column link ≡ true → Linked c (before ++ link ∷ behind)
  linked_parts before behind link c column is others keyed none may =
      let parts = before ++ link ∷ behind in
      let (found, left) = joined (is_link child root column) before behind link none may in
      let (made, are) = of_each (joint_condition child root) (IsOverBoth child root) (both_over child root) (before ++ behind) others in (
        first_found parts link c column keyed found is,
        (made, ap (λ k. each (joint_condition child root) (beside (is_link child root k) parts)) keyed ∙ ap (each (joint_condition child root)) left ∙ are),
      )

  first_parts : (before behind : List Condition) (link : Condition) (c : Link) → link_of child root link ≡ Some c → Each (IsOverBoth child root) (before ++ behind) → IsFirstLink child root c before (before ++ link ∷ behind) → Linked c (before ++ link ∷ behind)
  first_parts before behind link c is others first =
      let parts = before ++ link ∷ behind in
      let key = child.layout.key in
      ⊎_elim
      (λ by.
      let none = none_fail by_key (JoinsKey child root) key_joined before by.1 in
      let may = ap (is_by (Some key)) is ∙ numbers_equal c.inner key by.0 in
      let keyed = ap (λ o. if is_some o then Some key else None) (joined by_key before behind link none may).0 in
      linked_parts before behind link c (Some key) is others keyed none may)
      (λ by.
      let keyed = ap (λ o. if is_some o then Some key else None) (none_finds by_key parts (none_fail by_key (JoinsKey child root) key_joined parts by.0)) in
      linked_parts before behind link c None is others keyed (none_fail by_any (JoinsRow child root) any_joined before by.1) (ap (is_by None) is))
      first

  class_where : (condition : Condition) (c : Link) → IsLinkedWhere child root c condition → (first_link child root (top_parts condition) ≡ Some c) × Answers (filter_parts child root (top_parts condition))
  class_where condition c h = subst (Linked c) (sym h.parts) (first_parts h.before h.behind h.link c (of_link h.link c h.links) h.others h.first)

-- a link is over both rows too
pub link_over : (child root : Scope) (part : Condition) → JoinsRow child root part → IsOverBoth child root part
link_over child root part (c, h) =
    ⊎_elim
    (λ one. compares_columns child root part h.left h.right Equal one.0.0 one.1.0 h.equality one.0.1 one.1.1 (inl (ap is_some one.0.2)) (inr (c.outer, one.1.2)))
    (λ two. compares_columns child root part h.left h.right Equal two.1.0 two.0.0 h.equality two.1.1 two.0.1 (inr (c.outer, two.1.2)) (inl (ap is_some two.0.2)))
    h.sides

pub HasALink-law : law.HasALink
HasALink-law child root condition part before behind are joins others =
    let parts = before ++ part ∷ behind in
    let (first, last) = (each_append (IsOverBoth child root) before behind).0 others in
    let over = (each_append (IsOverBoth child root) before (part ∷ behind)).1 (first, (link_over child root part joins, last)) in
    let (made, filters) = of_each (joint_condition child root) (IsOverBoth child root) (both_over child root) (beside (may_link child root parts) parts) (beside_each (IsOverBoth child root) (may_link child root parts) parts over) in
    let linked : (link : Link) → first_link child root parts ≡ Some link → (link : Link) × IsLinkedWhere child root link condition
    = λ link e. (link, where_class child root condition link (ap (first_link child root) are ∙ e) (subst (λ ps. Answers (filter_parts child root ps)) (sym are) (made, filters))) in
    let go : (o : Option Condition) → find (by_key child root) parts ≡ o → (link : Link) × IsLinkedWhere child root link condition
    = λ o. elim o as (λ o. find (by_key child root) parts ≡ o → (link : Link) × IsLinkedWhere child root link condition) [
      | Some link ↦ λ e.
          let (x, (y, (is, (may, (none, left))))) = split (by_key child root) parts link e in
          let by = key_joined child root link may in
          linked by.0 (first_found child root parts link by.0 (Some child.layout.key) (ap (λ o. if is_some o then Some child.layout.key else None) e) e (of_link child root link by.0 by.1))
      | None ↦ λ e.
          let (link, found) = some_found (by_any child root) before behind part (joins_any child root part joins) in
          let (x, (y, (is, (may, (none, left))))) = split (by_any child root) parts link found in
          let by = any_joined child root link may in
          linked by.0 (first_found child root parts link by.0 None (ap (λ o. if is_some o then Some child.layout.key else None) e) found (of_link child root link by.0 by.1))
    ] in go (find (by_key child root) parts) refl

-- the link of a WHERE is the first
pub HasOneLink-law : HasOneLink
HasOneLink-law child root condition link other is are =
    same_Some link other (sym (class_where child root condition link is).0 ∙ (class_where child root condition other are).0)

-- ---- by rows

abbrev Made : Source → Scope → Option Condition → Option ColumnName → Option Condition → Type 0
Made child root keeps g h = (condition : Condition) × ((keeps ≡ Some condition) × ((link : Link) × (IsLinkedWhere child.scope root link condition × (IsNone g × IsNone h))))

linked_where_class : (child : Source) (root : Scope) (a : Aggregate) (keeps : Option Condition) (g : Option ColumnName) (h : Option Condition) → Answers (linked_filter child root a keeps g h) → Made child root keeps g h
linked_where_class child root a keeps g h (q, e) =
    let (no_group, (no_having, (condition, (is, (link, (first, (restriction, (are, makes)))))))) = linked_where_ok child root a keeps g h q e in
    (condition, (is, (link, (where_class child.scope root condition link first (restriction, are), (ap is_some no_group, ap is_some no_having)))))

class_linked_where : (child : Source) (root : Scope) (a : Aggregate) (keeps : Option Condition) (g : Option ColumnName) (h : Option Condition) → Made child root keeps g h → Answers (linked_filter child root a keeps g h)
class_linked_where child root a keeps g h (condition, (is, (link, (linked, (no_group, no_having))))) =
    let (first, (restriction, are)) = class_where child.scope root condition link linked in
    let make : Link → List Cond → Subquery Link = λ link restriction. record { table = child.table; filter = cond_of.And restriction; grouping = link; aggregate = a } in (
      make link restriction,
      ap (λ k. linked_filter child root a k g h) is ∙ ap (λ g. linked_filter child root a (Some condition) g h) (none_is g no_group) ∙ ap (λ h. linked_filter child root a (Some condition) None h) (none_is h no_having)
          ∙ ap (λ o. in_class o (λ link. and_then (filter_parts child.scope root (top_parts condition)) (λ restriction. let r : Result (Subquery Link) Refusal = Ok (make link restriction) in r))) first
          ∙ ap (λ r. and_then r (λ restriction. let r : Result (Subquery Link) Refusal = Ok (make link restriction) in r)) are,
    )

linked_leaf_class : (tables : Tables) (root : Scope) (p : Piece) → Answers (slot_query_of tables root (leaf_of p)) → IsLinkedPiece tables root p
linked_leaf_class tables root class.Rows (q, e) = cc
linked_leaf_class tables root (class.Of f c) (q, e) = cc
linked_leaf_class tables root (class.Exists query) (q, e) =
    let c = out-Query query in
    let (child, (found, more)) = in_class_ok (source_of tables c.table c.correlation_name) (λ child. only_if (may_be_selected (own_column child.scope) c.select_list) (linked_filter child root CountRows c.keeps c.group c.having)) q e in
    let (lists, rest) = only_if_ok (may_be_selected (own_column child.scope) c.select_list) (linked_filter child root CountRows c.keeps c.group c.having) q more in
    let (condition, (is, (link, (where_is, (g, h))))) = linked_where_class child root CountRows c.keeps c.group c.having (q, rest) in
    record { scope = child.scope; condition = condition; reads = reads_scope tables query child found; lists = own_list child.scope c.select_list lists; filter = is; link = link; linked = where_is; ungrouped = g; whole = h }
linked_leaf_class tables root (class.Value query) (q, e) =
    let c = out-Query query in
    let (child, (found, more)) = in_class_ok (source_of tables c.table c.correlation_name) (λ child. in_class (selected_aggregate child.scope c.select_list) (λ a. linked_filter child root a c.keeps c.group c.having)) q e in
    let (a, (lists, rest)) = in_class_ok (selected_aggregate child.scope c.select_list) (λ a. linked_filter child root a c.keeps c.group c.having) q more in
    let (condition, (is, (link, (where_is, (g, h))))) = linked_where_class child root a c.keeps c.group c.having (q, rest) in
    record { scope = child.scope; condition = condition; reads = reads_scope tables query child found; lists = set_list child.scope c.select_list (ap is_some lists); filter = is; link = link; linked = where_is; ungrouped = g; whole = h }

class_linked_leaf : (tables : Tables) (root : Scope) (p : Piece) → IsLinkedPiece tables root p → Answers (slot_query_of tables root (leaf_of p))
class_linked_leaf tables root class.Rows h = absurd h
class_linked_leaf tables root (class.Of f c) h = absurd h
class_linked_leaf tables root (class.Exists query) h =
    let c = out-Query query in
    let (t, reads) = scope_reads tables query h.scope h.reads in
    let child : Source = record { table = t; scope = h.scope } in
    let (q, is) = class_linked_where child root CountRows c.keeps c.group c.having (h.condition, (h.filter, (h.link, (h.linked, (h.ungrouped, h.whole))))) in (
      q,
      ap (λ o. in_class o (λ child. only_if (may_be_selected (own_column child.scope) c.select_list) (linked_filter child root CountRows c.keeps c.group c.having))) reads
          ∙ ap (λ b. only_if b (linked_filter child root CountRows c.keeps c.group c.having)) (list_own h.scope c.select_list h.lists) ∙ is,
    )
class_linked_leaf tables root (class.Value query) h =
    let c = out-Query query in
    let (t, reads) = scope_reads tables query h.scope h.reads in
    let child : Source = record { table = t; scope = h.scope } in
    let (a, lists) = some_is (selected_aggregate h.scope c.select_list) (list_set h.scope c.select_list h.lists) in
    let (q, is) = class_linked_where child root a c.keeps c.group c.having (h.condition, (h.filter, (h.link, (h.linked, (h.ungrouped, h.whole))))) in (
      q,
      ap (λ o. in_class o (λ child. in_class (selected_aggregate child.scope c.select_list) (λ a. linked_filter child root a c.keeps c.group c.having))) reads
          ∙ ap (λ o. in_class o (λ a. linked_filter child root a c.keeps c.group c.having)) lists ∙ is,
    )

row_where_class : (tables : Tables) (root : Scope) (keeps : Option Condition) (made : Cond) (leaves : Leaves) → row_where root keeps ≡ Ok (made, leaves) → Answers (each (slot_query_of tables root) leaves) → IfWritten (IsRowWhere tables root) keeps
row_where_class tables root None made leaves e h = tt
row_where_class tables root (Some c) made leaves e h =
    let (columns, are) = (condition_numbers (at_place (own_column root)) c).says [] made leaves e in
    record { columns = each_other (MayStand (at_place (own_column root))) (IsOwn root) (at_stands (own_column root)) (columns_in c) columns; queries = pieces_of (slot_query_of tables root) (IsLinkedPiece tables root) (linked_leaf_class tables root) leaves (pieces_in c) are h }

class_row_where : (tables : Tables) (root : Scope) (keeps : Option Condition) → IfWritten (IsRowWhere tables root) keeps → (made : Cond) × ((leaves : Leaves) × ((row_where root keeps ≡ Ok (made, leaves)) × Answers (each (slot_query_of tables root) leaves)))
class_row_where tables root None h = let none : Leaves = [] in let no_queries : List (Subquery Link) = [] in (cond_of.And [], (none, (refl, (no_queries, refl))))
class_row_where tables root (Some c) h =
    let (made, is) = (condition_numbers (at_place (own_column root)) c).finds [] (each_other (IsOwn root) (MayStand (at_place (own_column root))) (stands_at (own_column root)) (columns_in c) h.columns) in
    (made, (map leaf_of (pieces_in c), (is, of_pieces (slot_query_of tables root) (IsLinkedPiece tables root) (class_linked_leaf tables root) (pieces_in c) h.queries)))

row_class : (tables : Tables) (source : Source) (query : Clauses) → Answers (by_row tables source query) → IsSimpleList (IsOwn source.scope) (out-SelectList query.select_list) × IfWritten (IsRowWhere tables source.scope) query.keeps
row_class tables source query (form, e) =
    let m = row_made tables source query form e in
    (own_list source.scope query.select_list m.lists, row_where_class tables source.scope query.keeps m.made m.leaves m.keeps (m.queries, m.are))

class_row : (tables : Tables) (source : Source) (query : Clauses) → IsSimpleList (IsOwn source.scope) (out-SelectList query.select_list) → IfWritten (IsRowWhere tables source.scope) query.keeps → Answers (by_row tables source query)
class_row tables source query lists keeps =
    let scope = source.scope in
    let (made, (leaves, (is, (queries, are)))) = class_row_where tables scope query.keeps keeps in (
      ByRow source.table made queries,
      ap (λ b. only_if b (and_then (row_where scope query.keeps) (λ made. and_then (each (slot_query_of tables scope) made.1) (λ queries. let r : Result Form Refusal = Ok (ByRow source.table made.0 queries) in r)))) (list_own scope query.select_list lists)
          ∙ ap (λ r. and_then r (λ made. and_then (each (slot_query_of tables scope) made.1) (λ queries. let r : Result Form Refusal = Ok (ByRow source.table made.0 queries) in r))) is
          ∙ ap (λ r. and_then r (λ queries. let r : Result Form Refusal = Ok (ByRow source.table made queries) in r)) are,
    )

-- ---- NOT EXISTS

exists_class : (tables : Tables) (query : Query) → Answers (not_exists tables (out-Query query)) → IsRowQuery tables query ⊎ IsGroupQuery tables query
exists_class tables query (form, e) =
    let q = out-Query query in
    let (source, (found, more)) = in_class_ok (source_of tables q.table q.correlation_name) (λ source. by_clauses tables source q q.group q.having) form e in
    ⊎_elim
    (λ rows. let (lists, keeps) = row_class tables source q (form, rows.1.1) in inl (record { scope = source.scope; reads = reads_scope tables query source found; lists = lists; filter = keeps; ungrouped = ap is_some rows.0; whole = ap is_some rows.1.0 }))
    (λ groups.
    let (group, (own, (lists, (keeps, (columns, sets))))) = group_class source q groups.0 groups.1.0 (form, groups.1.1.1.1) in
    inr (record { scope = source.scope; column = groups.0; group = group; having = groups.1.0; reads = reads_scope tables query source found; grouped = groups.1.1.0; is_own = own; lists = lists; filter = keeps; filtered = groups.1.1.1.0; columns = columns; sets = sets }))
    (by_clauses_ok tables source q q.group q.having form more)

class_rows : (tables : Tables) (query : Query) → IsRowQuery tables query → Answers (not_exists tables (out-Query query))
class_rows tables query h =
    let q = out-Query query in
    let (t, reads) = scope_reads tables query h.scope h.reads in
    let source : Source = record { table = t; scope = h.scope } in
    let (form, is) = class_row tables source q h.lists h.filter in
    (form, ap (λ o. in_class o (λ source. by_clauses tables source q q.group q.having)) reads ∙ ap (λ g. by_clauses tables source q g q.having) (none_is q.group h.ungrouped) ∙ ap (λ o. by_clauses tables source q None o) (none_is q.having h.whole) ∙ is)

class_groups : (tables : Tables) (query : Query) → IsGroupQuery tables query → Answers (not_exists tables (out-Query query))
class_groups tables query h =
    let q = out-Query query in
    let (t, reads) = scope_reads tables query h.scope h.reads in
    let source : Source = record { table = t; scope = h.scope } in
    let (form, is) = class_group source q h.column h.having h.group h.is_own h.lists h.filter h.columns h.sets in
    (form, ap (λ o. in_class o (λ source. by_clauses tables source q q.group q.having)) reads ∙ ap (λ g. by_clauses tables source q g q.having) h.grouped ∙ ap (λ o. by_clauses tables source q (Some h.column) o) h.filtered ∙ is)

-- ---- all

-- a form is that of a query under NOT EXISTS, or a single one
abbrev pub Cases : Tables → Condition → Form → Type 0
Cases tables c form = ((query : Query) × IsDenied c query × (not_exists tables (out-Query query) ≡ Ok form)) ⊎ (single tables c ≡ Ok form)

denied_cases : (tables : Tables) (c part : Condition) (layer : Condition-F Condition Expression SelectList Query) → out-Condition c ≡ Condition-F.Not part → out-Condition part ≡ layer → (form : Form) → form_of_negation tables c layer ≡ Ok form → Cases tables c form
denied_cases tables c part (Condition-F.Or parts) n p form e = inr e
denied_cases tables c part (Condition-F.And parts) n p form e = inr e
denied_cases tables c part (Condition-F.Not inner) n p form e = inr e
denied_cases tables c part (Condition-F.Is inner wanted) n p form e = inr e
denied_cases tables c part (Condition-F.Exists query) n p form e = inl (query, record { part = part; denies = n; exists = p }, e)
denied_cases tables c part (Condition-F.Compare left comparison right) n p form e = inr e
denied_cases tables c part (Condition-F.IsNull x) n p form e = inr e
denied_cases tables c part (Condition-F.Between x low high) n p form e = inr e
denied_cases tables c part (Condition-F.In x list) n p form e = inr e

whole_cases : (tables : Tables) (c : Condition) (layer : Condition-F Condition Expression SelectList Query) → out-Condition c ≡ layer → (form : Form) → form_in tables c layer ≡ Ok form → Cases tables c form
whole_cases tables c (Condition-F.Or parts) out form e = inr e
whole_cases tables c (Condition-F.And parts) out form e = inr e
whole_cases tables c (Condition-F.Not part) out form e = denied_cases tables c part (out-Condition part) out refl form e
whole_cases tables c (Condition-F.Is inner wanted) out form e = inr e
whole_cases tables c (Condition-F.Exists query) out form e = inr e
whole_cases tables c (Condition-F.Compare left comparison right) out form e = inr e
whole_cases tables c (Condition-F.IsNull x) out form e = inr e
whole_cases tables c (Condition-F.Between x low high) out form e = inr e
whole_cases tables c (Condition-F.In x list) out form e = inr e

pub form_cases : (tables : Tables) (c : Condition) (form : Form) → form_of tables c ≡ Ok form → Cases tables c form
form_cases tables c form e = whole_cases tables c (out-Condition c) refl form e

-- a condition that has a form is in the class
pub form_class : (tables : Tables) (c : Condition) → Answers (form_of tables c) → IsInClass tables c
form_class tables c (form, e) =
    ⊎_elim
    (λ d. ⊎_elim (λ rows. inl (d.0, d.1, rows)) (λ groups. inr (inl (d.0, d.1, groups))) (exists_class tables d.0 (form, d.2)))
    (λ is. inr (inr (single_class tables c (form, is))))
    (form_cases tables c form e)

-- NOT EXISTS of a query has the form that its query has
denied_form : (tables : Tables) (c : Condition) (query : Query) → IsDenied c query → Answers (not_exists tables (out-Query query)) → Answers (form_of tables c)
denied_form tables c query d (form, is) = (form, ap (form_in tables c) d.denies ∙ ap (form_of_negation tables c) d.exists ∙ is)

pub rows_form : (tables : Tables) (c : Condition) → IsByRows tables c → Answers (form_of tables c)
rows_form tables c h = denied_form tables c h.0 h.1 (class_rows tables h.0 h.2)

pub groups_form : (tables : Tables) (c : Condition) → IsByGroups tables c → Answers (form_of tables c)
groups_form tables c h = denied_form tables c h.0 h.1 (class_groups tables h.0 h.2)

-- a single condition is no NOT EXISTS
denied_single : (tables : Tables) (c part : Condition) (layer : Condition-F Condition Expression SelectList Query) → out-Condition c ≡ Condition-F.Not part → out-Condition part ≡ layer → IsSingle tables c → Answers (form_of_negation tables c layer)
denied_single tables c part (Condition-F.Or parts) n p h = class_single tables c h
denied_single tables c part (Condition-F.And parts) n p h = class_single tables c h
denied_single tables c part (Condition-F.Not inner) n p h = class_single tables c h
denied_single tables c part (Condition-F.Is inner wanted) n p h = class_single tables c h
denied_single tables c part (Condition-F.Exists query) n p h =
    let is : pieces_in c ≡ class.Exists query ∷ [] = leaves_layer c (Condition-F.Not part) n ∙ leaves_layer part (Condition-F.Exists query) p in
    absurd (subst (Each (IsPlainPiece tables)) is h.queries).0
denied_single tables c part (Condition-F.Compare left comparison right) n p h = class_single tables c h
denied_single tables c part (Condition-F.IsNull x) n p h = class_single tables c h
denied_single tables c part (Condition-F.Between x low high) n p h = class_single tables c h
denied_single tables c part (Condition-F.In x list) n p h = class_single tables c h

whole_single : (tables : Tables) (c : Condition) (layer : Condition-F Condition Expression SelectList Query) → out-Condition c ≡ layer → IsSingle tables c → Answers (form_in tables c layer)
whole_single tables c (Condition-F.Or parts) e h = class_single tables c h
whole_single tables c (Condition-F.And parts) e h = class_single tables c h
whole_single tables c (Condition-F.Not part) e h = denied_single tables c part (out-Condition part) e refl h
whole_single tables c (Condition-F.Is inner wanted) e h = class_single tables c h
whole_single tables c (Condition-F.Exists query) e h = class_single tables c h
whole_single tables c (Condition-F.Compare left comparison right) e h = class_single tables c h
whole_single tables c (Condition-F.IsNull x) e h = class_single tables c h
whole_single tables c (Condition-F.Between x low high) e h = class_single tables c h
whole_single tables c (Condition-F.In x list) e h = class_single tables c h

-- a condition of the class has a form
pub class_form : (tables : Tables) (c : Condition) → IsInClass tables c → Answers (form_of tables c)
class_form tables c h = ⊎_elim (rows_form tables c) (λ more. ⊎_elim (groups_form tables c) (whole_single tables c (out-Condition c) refl) more) h

pub HasFormInClass-law : law.HasFormInClass
HasFormInClass-law tables c = (form_class tables c, class_form tables c)
