-- A condition keeps its form, and so its meaning, where more tables come after those that it was checked over.
use Rattle.std.proofs.Common.{◌≡◌, ℕ, ◌+◌, Bool, true, false, cond, nat_eq, Option, Some, None, Result, Ok, List, [], ◌∷◌, ◌++◌, refl, ap, sym, ◌∙◌}
use Rattle.std.specs.List.{position_or_len}
use Rattle.std.specs.Cmp.Lexicographic.{pointwise}
use Rattle.std.specs.Prelude.{not, unwrap_or}
use Rattle.value.specs.declared.refusals.Refusal.{Refusal}
use Rattle.value.specs.Results.{and_then, each}
use Rattle.table.specs.Rows.{Layout, Tables, layout_of, names_of, position_of}
use Rattle.table.specs.declared.aggregates.Aggregate.TheVariants.{CountRows}
use Rattle.assertion.specs.declared.forms.Form.{Form}
use Rattle.assertion.specs.declared.forms.Form.TheVariants.{ByRow, Single}
use Rattle.assertion.specs.declared.queries.Query.{Query as Subquery}
use Rattle.assertion.specs.declared.queries.Link.{Link}
use Rattle.assertion.specs.declared.queries.Whole.{Whole}
use Rattle.syntax.specs.declared.trees.ColumnName.{ColumnName}
use Rattle.syntax.specs.declared.trees.Condition.{Condition, out-Condition}
use Rattle.syntax.specs.declared.trees.Condition.TheOpen.{Condition-F}
use Rattle.syntax.specs.declared.trees.Expression.{Expression}
use Rattle.syntax.specs.declared.trees.SelectList.{SelectList}
use Rattle.syntax.specs.declared.trees.Query.{Query, out-Query}
use Rattle.form_check.specs.Scopes.{Scope, own_column}
use Rattle.form_check.specs.Results.{in_class, only_if}
use Rattle.form_check.specs.Columns.{no_column, at_place}
use Rattle.form_check.specs.Leaves.{Leaf, Rows, Of, Exists, Value, numbered}
use Rattle.form_check.specs.Queries.{Source, source_named, source_of, selected_aggregate, may_be_selected}
use Rattle.form_check.specs.Forms.{Clauses, linked_filter, slot_query_of, plain_by, plain, row_where, by_row, by_clauses, not_exists, single, form_of_negation, form_in}
use Rattle.meaning.specs.Laws as law
use Rattle.form_check.proofs.Steps.{and_then_ok, in_class_ok, only_if_ok}
use Rattle.meaning.proofs.Rooted.{sourced_parts}
use Rattle.meaning.proofs.Classes.{placed_at}

-- ---- tables by name

next_layout : (b : Bool) (first l : Layout) (o p : Option Layout) → ◌≡◌ {A = Option Layout} (cond b (Some first) o) (Some l) → (o ≡ Some l → p ≡ Some l) → ◌≡◌ {A = Option Layout} (cond b (Some first) p) (Some l)
next_layout true first l o p e more = e
next_layout false first l o p e more = more e

pub layout_grown : (name : List ℕ) (tables more : Tables) (l : Layout) → layout_of name tables ≡ Some l → layout_of name (tables ++ more) ≡ Some l
layout_grown name [] more l e = cc
layout_grown name (table ∷ tables) more l e = next_layout (pointwise nat_eq name table.0) table.1 l (layout_of name tables) (layout_of name (tables ++ more)) e (layout_grown name tables more l)

next_place : (b : Bool) (first l : Layout) (o : Option Layout) (n m : ℕ) → ◌≡◌ {A = Option Layout} (cond b (Some first) o) (Some l) → (o ≡ Some l → n ≡ m) → cond (not b) (1 + n) 0 ≡ cond (not b) (1 + m) 0
next_place true first l o n m e more = refl
next_place false first l o n m e more = ap (λ k. 1 + k) (more e)

place_grown : (name : List ℕ) (tables more : Tables) (l : Layout) → layout_of name tables ≡ Some l → position_or_len (pointwise nat_eq name) (names_of (tables ++ more)) ≡ position_or_len (pointwise nat_eq name) (names_of tables)
place_grown name [] more l e = cc
place_grown name (table ∷ tables) more l e =
    next_place (pointwise nat_eq name table.0) table.1 l (layout_of name tables) (position_or_len (pointwise nat_eq name) (names_of (tables ++ more))) (position_or_len (pointwise nat_eq name) (names_of tables)) e (place_grown name tables more l)

position_grown : (name : List ℕ) (tables more : Tables) (l : Layout) → layout_of name tables ≡ Some l → position_of name (tables ++ more) ≡ position_of name tables
position_grown name tables more l e =
    placed_at name (tables ++ more) l (layout_grown name tables more l e) ∙ ap (λ (n : ℕ). let o : Option ℕ = Some n in o) (place_grown name tables more l e) ∙ sym (placed_at name tables l e)

source_grown : (tables more : Tables) (table : List ℕ) (correlation_name : Option (List ℕ)) (source : Source) → source_of tables table correlation_name ≡ Some source → source_of (tables ++ more) table correlation_name ≡ Some source
source_grown tables more table correlation_name source e =
    let name = unwrap_or correlation_name table in
    let (place, layout) = sourced_parts name (position_of table tables) (layout_of table tables) source e in
    ap (λ p. source_named name p (layout_of table (tables ++ more))) (position_grown table tables more source.scope.layout layout)
    ∙ ap (source_named name (position_of table tables)) (layout_grown table tables more source.scope.layout layout ∙ sym layout) ∙ e

-- ---- queries

each_grown : {X A : Type 0} (make make' : X → Result A Refusal) → ((x : X) (a : A) → make x ≡ Ok a → make' x ≡ Ok a) → (xs : List X) (made : List A) → each make xs ≡ Ok made → each make' xs ≡ Ok made
each_grown make make' one [] made e = e
each_grown {A = A} make make' one (x ∷ xs) made e =
    let (a, (is, more)) = and_then_ok (make x) (λ a. and_then (each make xs) (λ others. let r : Result (List A) Refusal = Ok (a ∷ others) in r)) made e in
    let (others, (are, makes)) = and_then_ok (each make xs) (λ others. let r : Result (List A) Refusal = Ok (a ∷ others) in r) made more in
    ap (λ r. and_then r (λ a. and_then (each make' xs) (λ others. let r : Result (List A) Refusal = Ok (a ∷ others) in r))) (one x a is)
    ∙ ap (λ r. and_then r (λ others. let r : Result (List A) Refusal = Ok (a ∷ others) in r)) (each_grown make make' one xs others are) ∙ makes

module _ (tables more : Tables) where
  -- a query whose table is found, and which then goes on alike
  goes_on : {A : Type 0} (query : Query) (next : Source → Result A Refusal) (a : A) → in_class (source_of tables (out-Query query).table (out-Query query).correlation_name) next ≡ Ok a → in_class (source_of (tables ++ more) (out-Query query).table (out-Query query).correlation_name) next ≡ Ok a
  goes_on query next a e =
      let q = out-Query query in
      let (source, (found, rest)) = in_class_ok (source_of tables q.table q.correlation_name) next a e in
      ap (λ o. in_class o next) (source_grown tables more q.table q.correlation_name source found) ∙ rest

  linked_grown : (root : Scope) (leaf : Leaf) (q : Subquery Link) → slot_query_of tables root leaf ≡ Ok q → slot_query_of (tables ++ more) root leaf ≡ Ok q
  linked_grown root Rows q e = cc
  linked_grown root (Of f c) q e = cc
  linked_grown root (Exists query) q e =
      let c = out-Query query in goes_on query (λ child. only_if (may_be_selected (own_column child.scope) c.select_list) (linked_filter child root CountRows c.keeps c.group c.having)) q e
  linked_grown root (Value query) q e =
      let c = out-Query query in goes_on query (λ child. in_class (selected_aggregate child.scope c.select_list) (λ a. linked_filter child root a c.keeps c.group c.having)) q e

  plain_grown : (leaf : Leaf) (p : Subquery Whole) → plain tables leaf ≡ Ok p → plain (tables ++ more) leaf ≡ Ok p
  plain_grown Rows p e = cc
  plain_grown (Of f c) p e = cc
  plain_grown (Exists query) p e = cc
  plain_grown (Value query) p e = let c = out-Query query in goes_on query (λ source. plain_by source (selected_aggregate source.scope c.select_list) c.keeps c.group c.having) p e

  -- ---- forms

  by_row_grown : (source : Source) (query : Clauses) (form : Form) → by_row tables source query ≡ Ok form → by_row (tables ++ more) source query ≡ Ok form
  by_row_grown source query form e =
      let scope = source.scope in
      let make : Tables → Result Form Refusal = λ ts. and_then (row_where scope query.keeps) (λ made. and_then (each (slot_query_of ts scope) made.1) (λ queries. let r : Result Form Refusal = Ok (ByRow source.table made.0 queries) in r)) in
      let (lists, rest) = only_if_ok (may_be_selected (own_column scope) query.select_list) (make tables) form e in
      let (m, (is, next)) = and_then_ok (row_where scope query.keeps) (λ made. and_then (each (slot_query_of tables scope) made.1) (λ queries. let r : Result Form Refusal = Ok (ByRow source.table made.0 queries) in r)) form rest in
      let (queries, (are, makes)) = and_then_ok (each (slot_query_of tables scope) m.1) (λ queries. let r : Result Form Refusal = Ok (ByRow source.table m.0 queries) in r) form next in
      ap (λ b. only_if b (make (tables ++ more))) lists
      ∙ ap (λ r. and_then r (λ made. and_then (each (slot_query_of (tables ++ more) scope) made.1) (λ queries. let r : Result Form Refusal = Ok (ByRow source.table made.0 queries) in r))) is
      ∙ ap (λ r. and_then r (λ queries. let r : Result Form Refusal = Ok (ByRow source.table m.0 queries) in r)) (each_grown (slot_query_of tables scope) (slot_query_of (tables ++ more) scope) (linked_grown scope) m.1 queries are) ∙ makes

  by_clauses_grown : (source : Source) (query : Clauses) (g : Option ColumnName) (h : Option Condition) (form : Form) → by_clauses tables source query g h ≡ Ok form → by_clauses (tables ++ more) source query g h ≡ Ok form
  by_clauses_grown source query None None form e = by_row_grown source query form e
  by_clauses_grown source query (Some column) (Some having) form e = e
  by_clauses_grown source query None (Some having) form e = cc
  by_clauses_grown source query (Some column) None form e = cc

  not_exists_grown : (query : Query) (form : Form) → not_exists tables (out-Query query) ≡ Ok form → not_exists (tables ++ more) (out-Query query) ≡ Ok form
  not_exists_grown query form e =
      let q = out-Query query in
      let (source, (found, rest)) = in_class_ok (source_of tables q.table q.correlation_name) (λ source. by_clauses tables source q q.group q.having) form e in
      ap (λ o. in_class o (λ source. by_clauses (tables ++ more) source q q.group q.having)) (source_grown tables more q.table q.correlation_name source found) ∙ by_clauses_grown source q q.group q.having form rest

  single_grown : (c : Condition) (form : Form) → single tables c ≡ Ok form → single (tables ++ more) c ≡ Ok form
  single_grown c form e =
      let (m, (is, next)) = and_then_ok (numbered (at_place no_column) c []) (λ m. and_then (each (plain tables) m.1) (λ queries. let r : Result Form Refusal = Ok (Single m.0 queries) in r)) form e in
      let (queries, (are, makes)) = and_then_ok (each (plain tables) m.1) (λ queries. let r : Result Form Refusal = Ok (Single m.0 queries) in r) form next in
      ap (λ r. and_then r (λ m. and_then (each (plain (tables ++ more)) m.1) (λ queries. let r : Result Form Refusal = Ok (Single m.0 queries) in r))) is
      ∙ ap (λ r. and_then r (λ queries. let r : Result Form Refusal = Ok (Single m.0 queries) in r)) (each_grown (plain tables) (plain (tables ++ more)) plain_grown m.1 queries are) ∙ makes

  denied_grown : (c : Condition) (layer : Condition-F Condition Expression SelectList Query) (form : Form) → form_of_negation tables c layer ≡ Ok form → form_of_negation (tables ++ more) c layer ≡ Ok form
  denied_grown c (Condition-F.Or parts) form e = single_grown c form e
  denied_grown c (Condition-F.And parts) form e = single_grown c form e
  denied_grown c (Condition-F.Not part) form e = single_grown c form e
  denied_grown c (Condition-F.Is part wanted) form e = single_grown c form e
  denied_grown c (Condition-F.Exists query) form e = not_exists_grown query form e
  denied_grown c (Condition-F.Compare left comparison right) form e = single_grown c form e
  denied_grown c (Condition-F.IsNull x) form e = single_grown c form e
  denied_grown c (Condition-F.Between x low high) form e = single_grown c form e
  denied_grown c (Condition-F.In x list) form e = single_grown c form e

  form_grown : (c : Condition) (layer : Condition-F Condition Expression SelectList Query) (form : Form) → form_in tables c layer ≡ Ok form → form_in (tables ++ more) c layer ≡ Ok form
  form_grown c (Condition-F.Or parts) form e = single_grown c form e
  form_grown c (Condition-F.And parts) form e = single_grown c form e
  form_grown c (Condition-F.Not part) form e = denied_grown c (out-Condition part) form e
  form_grown c (Condition-F.Is part wanted) form e = single_grown c form e
  form_grown c (Condition-F.Exists query) form e = single_grown c form e
  form_grown c (Condition-F.Compare left comparison right) form e = single_grown c form e
  form_grown c (Condition-F.IsNull x) form e = single_grown c form e
  form_grown c (Condition-F.Between x low high) form e = single_grown c form e
  form_grown c (Condition-F.In x list) form e = single_grown c form e

pub KeepsForm-law : law.KeepsForm
KeepsForm-law tables more condition form e = form_grown tables more condition (out-Condition condition) form e
