-- Queries that are linked to the row around them.
use Rattle.std.proofs.Common.{◌≡◌, ℕ, Bool, true, false, cond, pos, Option, Some, None, Result, Ok, List, [], ◌∷◌, map, filter, length, suc, refl, ap, sym, ◌∙◌, ⊎_elim, inl, inr}
use Rattle.std.specs.Prelude.{◌⊎◌, ◌&&◌, find, option_map, if◌then◌else◌}
use Rattle.std.specs.Option.{option_and_then}
use Rattle.std.specs.List.{list_all}
use Rattle.std.proofs.lemmas.List.Elements.{filter_agree}
use Rattle.std.specs.Ordering.{eq_by_cmp}
use Rattle.std.proofs.lemmas.Option.{same_Some}
use Rattle.value.specs.declared.values.Value.{Value}
use Rattle.value.specs.declared.values.Value.TheVariants.{Null, Int, Text}
use Rattle.value.specs.declared.refusals.Refusal.{Refusal}
use Rattle.value.specs.declared.comparisons.Comparison.TheVariants.{Equal, NotEqual, Less, AtMost, Greater, AtLeast}
use Rattle.value.specs.ValueOrder.{value_cmp}
use Rattle.value.specs.declared.truths.Truth.{Truth}
use Rattle.value.specs.declared.truths.Truth.TheVariants.{True, False, Unknown}
use Rattle.value.specs.Truths.{and_of, is_of, truth_of_bool}
use Rattle.table.specs.Rows.{RowValues, Tables, value_in}
use Rattle.table.specs.Aggregates.{aggregate}
use Rattle.table.specs.declared.aggregates.Aggregate.{Aggregate}
use Rattle.table.specs.declared.aggregates.Aggregate.TheVariants.{CountRows}
use Rattle.table.specs.declared.conds.Cond.{Cond}
use Rattle.table.specs.declared.conds.Cond.TheViews as cond_of
use Rattle.table.specs.Values as sql
use Rattle.table.specs.Eval as resolved
use Rattle.assertion.specs.declared.queries.Query.{Query as Subquery}
use Rattle.assertion.specs.declared.queries.Link.{Link}
use Rattle.assertion.specs.Meaning.{State, rows_of, links, linked_answer}
use Rattle.syntax.specs.declared.trees.ColumnName.{ColumnName}
use Rattle.syntax.specs.declared.trees.Condition.{Condition, out-Condition}
use Rattle.syntax.specs.declared.trees.Condition.TheOpen.{Condition-F, Expression-F, SelectList-F}
use Rattle.syntax.specs.declared.trees.Condition.TheFolds.{map-Condition, map-Expression, map-SelectList, fold_out-Condition, fold_out-Expression, fold_out-SelectList}
use Rattle.syntax.specs.declared.trees.Expression.{Expression, out-Expression}
use Rattle.syntax.specs.declared.trees.SelectList.{SelectList, out-SelectList}
use Rattle.syntax.specs.declared.trees.Query.{Query, out-Query}
use Rattle.form_check.specs.Scopes as names
use Rattle.form_check.specs.Scopes.{is_name_of, own_column}
use Rattle.value.specs.Results.{and_then, each}
use Rattle.form_check.specs.Results.{in_class, only_if}
use Rattle.form_check.specs.Leaves.{Leaf, Rows, Of, Exists, Value as Worth}
use Rattle.form_check.specs.Columns.{outer_column}
use Rattle.form_check.specs.Queries.{Source, source_of, joint_condition, selected_aggregate, may_be_selected, selection_may_stand, expression_may_stand}
use Rattle.form_check.specs.Links.{parts_in, top_parts, name_in, link_by, link_of_names, either, link_between, link_in, link_of, may_link, first_link, beside, filter_parts}
use Rattle.form_check.specs.Forms.{linked_filter, linked_exists, linked_value, slot_query_of}
use Rattle.meaning.specs.Meaning as written
use Rattle.meaning.specs.Meaning.{References, Evaluation, Answer, column_values, first_value, only_value, with_rows, passes, truth, evaluation_of, select_list, answers}
use Rattle.meaning.specs.Laws.{reference_to}
use Rattle.form_check.proofs.Steps.{and_then_ok, in_class_ok, only_if_ok, ok_same}
use Rattle.meaning.proofs.Numbering.{leaf_value, truth-And}
use Rattle.meaning.proofs.Rows.{own_value, outer_column_is, outer_value, joint_condition_truth}
use Rattle.meaning.proofs.Queries.{answers_by, answers_at, list_set, only_set}
use Rattle.table.proofs.DistinctLemmas.{same_value, itself}
use Rattle.meaning.proofs.Groups.{map_twice}

-- ---- lists of truths

and_true : (t : Truth) → t ≡ and_of t True
and_true True = refl
and_true False = refl
and_true Unknown = refl

both_true : (a b : Truth) → is_of (and_of a b) True ≡ is_of a True && is_of b True
both_true True True = refl
both_true True False = refl
both_true True Unknown = refl
both_true False b = refl
both_true Unknown True = refl
both_true Unknown False = refl
both_true Unknown Unknown = refl

all_true : {X : Type 0} (f : X → Truth) (xs : List X) → is_of (sql.all_of (map f xs)) True ≡ list_all (λ x. is_of (f x) True) xs
all_true f [] = refl
all_true f (x ∷ xs) = both_true (f x) (sql.all_of (map f xs)) ∙ ap (λ b. is_of (f x) True && b) (all_true f xs)

-- ---- the equality of a link, either way round

equal_back : (v w : Value) (b : Bool) → eq_by_cmp value_cmp v w ≡ b → (c : Bool) → eq_by_cmp value_cmp w v ≡ c → b ≡ c
equal_back v w true e true f = refl
equal_back v w true e false f = let k : true ≡ false = sym (itself w) ∙ ap (eq_by_cmp value_cmp w) (sym (same_value v w e)) ∙ f in cc
equal_back v w false e true f = let k : true ≡ false = sym (itself v) ∙ ap (eq_by_cmp value_cmp v) (sym (same_value w v f)) ∙ e in cc
equal_back v w false e false f = refl

equal_either : (v w : Value) → sql.comparison_truth Equal v w ≡ sql.comparison_truth Equal w v
equal_either Null Null = refl
equal_either Null (Int n) = refl
equal_either Null (Text t) = refl
equal_either (Int m) Null = refl
equal_either (Text s) Null = refl
equal_either (Int m) (Int n) = ap truth_of_bool (equal_back (Int m) (Int n) (eq_by_cmp value_cmp (Int m) (Int n)) refl (eq_by_cmp value_cmp (Int n) (Int m)) refl)
equal_either (Int m) (Text t) = refl
equal_either (Text s) (Int n) = refl
equal_either (Text s) (Text t) = ap truth_of_bool (equal_back (Text s) (Text t) (eq_by_cmp value_cmp (Text s) (Text t)) refl (eq_by_cmp value_cmp (Text t) (Text s)) refl)

-- ---- what a link's names are

pub one_test : (a : Bool) (o : Option ℕ) (c : ℕ) → (if a then o else None) ≡ Some c → (a ≡ true) × (o ≡ Some c)
one_test true o c e = (refl, e)
one_test false o c e = cc

link_by_is : (inner outer : Option ℕ) (link : Link) → link_by inner outer ≡ Some link → (inner ≡ Some link.inner) × (outer ≡ Some link.outer)
link_by_is None outer link e = cc
link_by_is (Some i) None link e = cc
link_by_is (Some i) (Some o) link e =
    let made : Link = record { inner = i; outer = o } in
    let same : made ≡ link = same_Some made link e in
    (ap (λ (l : Link). let p : Option ℕ = Some l.inner in p) same, ap (λ (l : Link). let p : Option ℕ = Some l.outer in p) same)

pub link_names_are : (child root : names.Scope) (inner outer : ColumnName) (link : Link) → link_of_names child root inner outer ≡ Some link
    → (is_name_of outer.qualifier outer.name child ≡ false) × ((own_column root outer ≡ Some link.outer) × (own_column child inner ≡ Some link.inner))
link_names_are child root inner outer link e =
    let (own, around) = link_by_is (own_column child inner) (outer_column child root outer) link e in
    let (none, is) = outer_column_is child root outer link.outer around in
    (none, (is, own))

pub either_is : (a b : Option Link) (link : Link) → either a b ≡ Some link → (a ≡ Some link) ⊎ (b ≡ Some link)
either_is None b link e = inr e
either_is (Some x) b link e = inl e

-- ---- a query's WHERE

-- the link is that of the first part that may be it
pub first_link_is : (child root : names.Scope) (parts : List Condition) (link : Link) → first_link child root parts ≡ Some link → (part : Condition) × ((find (may_link child root parts) parts ≡ Some part) × (link_of child root part ≡ Some link))
first_link_is child root parts link e = go (find (may_link child root parts) parts) e
  where
    go : (o : Option Condition) → option_and_then (link_of child root) o ≡ Some link → (part : Condition) × ((o ≡ Some part) × (link_of child root part ≡ Some link))
    go None e = cc
    go (Some part) e = (part, (refl, e))

module _ (tables : Tables) (state : State) where
  pub condition_out : (c : Condition) → truth tables state c ≡ written.condition_step (map-Condition Condition Expression SelectList Query (References → Truth) Evaluation Evaluation (References → List Answer) (truth tables state) (evaluation_of tables state) (select_list tables state) (answers tables state) (out-Condition c))
  condition_out c = fold_out-Condition (References → Truth) Evaluation Evaluation (References → List Answer) written.condition_step written.expression_step written.select_list_step (written.query_step tables state) c

  -- a name's value
  name_layer : (layer : Expression-F Condition Expression SelectList Query) (column : ColumnName) (scopes : References) → name_in layer ≡ Some column
      → (written.expression_step (map-Expression Condition Expression SelectList Query (References → Truth) Evaluation Evaluation (References → List Answer) (truth tables state) (evaluation_of tables state) (select_list tables state) (answers tables state) layer)).value scopes ≡ first_value (column_values column scopes)
  name_layer (Expression-F.Number n) column scopes e = cc
  name_layer (Expression-F.Text t) column scopes e = cc
  name_layer (Expression-F.Column c) column scopes e = ap (λ c. first_value (column_values c scopes)) (same_Some c column e)
  name_layer Expression-F.CountRows column scopes e = cc
  name_layer (Expression-F.Aggregate f c) column scopes e = cc
  name_layer (Expression-F.Subquery query) column scopes e = cc
  name_layer (Expression-F.Negation part) column scopes e = cc
  name_layer (Expression-F.Sum parts) column scopes e = cc
  name_layer (Expression-F.Product parts) column scopes e = cc

  name_value : (x : Expression) (column : ColumnName) (scopes : References) → name_in (out-Expression x) ≡ Some column → (evaluation_of tables state x).value scopes ≡ first_value (column_values column scopes)
  name_value x column scopes e =
      ap (λ v. v.value scopes) (fold_out-Expression (References → Truth) Evaluation Evaluation (References → List Answer) written.condition_step written.expression_step written.select_list_step (written.query_step tables state) x) ∙ name_layer (out-Expression x) column scopes e

  -- the parts that AND joins at the top
  parts_layer : (c : Condition) (scopes : References) (layer : Condition-F Condition Expression SelectList Query) → out-Condition c ≡ layer → truth tables state c scopes ≡ sql.all_of (map (λ part. truth tables state part scopes) (parts_in c layer))
  parts_layer c scopes (Condition-F.Or parts) e = and_true (truth tables state c scopes)
  parts_layer c scopes (Condition-F.And parts) e =
      ap (λ t. t scopes) (condition_out c) ∙ ap (λ layer. written.condition_step (map-Condition Condition Expression SelectList Query (References → Truth) Evaluation Evaluation (References → List Answer) (truth tables state) (evaluation_of tables state) (select_list tables state) (answers tables state) layer) scopes) e
      ∙ ap sql.all_of (map_twice (truth tables state) (λ t. t scopes) parts)
  parts_layer c scopes (Condition-F.Not part) e = and_true (truth tables state c scopes)
  parts_layer c scopes (Condition-F.Is part wanted) e = and_true (truth tables state c scopes)
  parts_layer c scopes (Condition-F.Exists query) e = and_true (truth tables state c scopes)
  parts_layer c scopes (Condition-F.Compare left comparison right) e = and_true (truth tables state c scopes)
  parts_layer c scopes (Condition-F.IsNull part) e = and_true (truth tables state c scopes)
  parts_layer c scopes (Condition-F.Between x low high) e = and_true (truth tables state c scopes)
  parts_layer c scopes (Condition-F.In x list) e = and_true (truth tables state c scopes)

  module _ (child root : names.Scope) (drow row : RowValues) where
    abbrev around : References
    around = reference_to child (drow ∷ []) ∷ reference_to root (row ∷ []) ∷ []

    -- the two sides of a link
    sides : (inner outer : ColumnName) (c : Link) → link_of_names child root inner outer ≡ Some c → (first_value (column_values inner around) ≡ value_in c.inner drow) × (first_value (column_values outer around) ≡ value_in c.outer row)
    sides inner outer c e =
        let (own, is) = link_by_is (own_column child inner) (outer_column child root outer) c e in
        (own_value child drow (reference_to root (row ∷ []) ∷ []) inner c.inner own, outer_value child root drow row [] outer c.outer is)

    link_names : (left right : Expression) (l r : Option ColumnName) → name_in (out-Expression left) ≡ l → name_in (out-Expression right) ≡ r → (c : Link) → link_between child root l r ≡ Some c
        → sql.comparison_truth Equal ((evaluation_of tables state left).value around) ((evaluation_of tables state right).value around) ≡ sql.comparison_truth Equal (value_in c.outer row) (value_in c.inner drow)
    link_names left right None r e f c is = cc
    link_names left right (Some l) None e f c is = cc
    link_names left right (Some l) (Some r) e f c is =
        let lv = name_value left l around e in
        let rv = name_value right r around f in
        ap (λ v. sql.comparison_truth Equal v ((evaluation_of tables state right).value around)) lv ∙ ap (sql.comparison_truth Equal (first_value (column_values l around))) rv
        ∙ ⊎_elim
        (λ one. let (inner, outer) = sides l r c one in equal_either (first_value (column_values l around)) (first_value (column_values r around)) ∙ ap (λ v. sql.comparison_truth Equal v (first_value (column_values l around))) outer ∙ ap (sql.comparison_truth Equal (value_in c.outer row)) inner)
        (λ two. let (inner, outer) = sides r l c two in ap (λ v. sql.comparison_truth Equal v (first_value (column_values r around))) outer ∙ ap (sql.comparison_truth Equal (value_in c.outer row)) inner)
        (either_is (link_of_names child root l r) (link_of_names child root r l) c is)

    link_layer : (layer : Condition-F Condition Expression SelectList Query) (c : Link) → link_in child root layer ≡ Some c
        → written.condition_step (map-Condition Condition Expression SelectList Query (References → Truth) Evaluation Evaluation (References → List Answer) (truth tables state) (evaluation_of tables state) (select_list tables state) (answers tables state) layer) around ≡ sql.comparison_truth Equal (value_in c.outer row) (value_in c.inner drow)
    link_layer (Condition-F.Or parts) c e = cc
    link_layer (Condition-F.And parts) c e = cc
    link_layer (Condition-F.Not part) c e = cc
    link_layer (Condition-F.Is part wanted) c e = cc
    link_layer (Condition-F.Exists query) c e = cc
    link_layer (Condition-F.Compare left Equal right) c e = link_names left right (name_in (out-Expression left)) (name_in (out-Expression right)) refl refl c e
    link_layer (Condition-F.Compare left NotEqual right) c e = cc
    link_layer (Condition-F.Compare left Less right) c e = cc
    link_layer (Condition-F.Compare left AtMost right) c e = cc
    link_layer (Condition-F.Compare left Greater right) c e = cc
    link_layer (Condition-F.Compare left AtLeast right) c e = cc
    link_layer (Condition-F.IsNull part) c e = cc
    link_layer (Condition-F.Between x low high) c e = cc
    link_layer (Condition-F.In x list) c e = cc

    link_true : (part : Condition) (c : Link) → link_of child root part ≡ Some c → is_of (truth tables state part around) True ≡ links c row drow
    link_true part c e = ap (λ t. is_of t True) (ap (λ t. t around) (condition_out part) ∙ link_layer (out-Condition part) c e)

    abbrev is_true : Condition → Bool
    is_true part = is_of (truth tables state part around) True

    and_swap : (a b c : Bool) → a && (b && c) ≡ b && (a && c)
    and_swap true true c = refl
    and_swap true false c = refl
    and_swap false true c = refl
    and_swap false false c = refl

    -- the parts beside the link are true where what is made of them keeps the row
    others_true : (parts : List Condition) (restriction : List Cond) → each (joint_condition child root) parts ≡ Ok restriction → list_all is_true parts ≡ list_all (resolved.keeps drow row) restriction
    others_true [] restriction e = let none : List Cond = [] in ap (list_all (resolved.keeps drow row)) (ok_same none restriction e)
    others_true (part ∷ parts) restriction e =
        let (made, (is, more)) = and_then_ok (joint_condition child root part) (λ made. and_then (each (joint_condition child root) parts) (λ others. let r : Result (List Cond) Refusal = Ok (made ∷ others) in r)) restriction e in
        let (others, (are, makes)) = and_then_ok (each (joint_condition child root) parts) (λ others. let r : Result (List Cond) Refusal = Ok (made ∷ others) in r) restriction more in
        ap (λ t. is_of t True && list_all is_true parts) (joint_condition_truth child root part made is tables state drow row [])
        ∙ ap (λ b. resolved.keeps drow row made && b) (others_true parts others are)
        ∙ ap (list_all (resolved.keeps drow row)) (ok_same (made ∷ others) restriction makes)

    -- and all parts where the link is true as well
    parts_true : (passes : Condition → Bool) (parts : List Condition) (link : Condition) (c : Link) (restriction : List Cond) → find passes parts ≡ Some link → link_of child root link ≡ Some c → each (joint_condition child root) (beside passes parts) ≡ Ok restriction
        → list_all is_true parts ≡ links c row drow && list_all (resolved.keeps drow row) restriction
    parts_true passes [] link c restriction found is e = cc
    parts_true passes (part ∷ parts) link c restriction found is e =
        let case : (b : Bool) → cond b (Some part) (find passes parts) ≡ Some link → each (joint_condition child root) (cond b parts (part ∷ beside passes parts)) ≡ Ok restriction → is_true part && list_all is_true parts ≡ links c row drow && list_all (resolved.keeps drow row) restriction
        = λ b. elim b as (λ b. cond b (Some part) (find passes parts) ≡ Some link → each (joint_condition child root) (cond b parts (part ∷ beside passes parts)) ≡ Ok restriction → is_true part && list_all is_true parts ≡ links c row drow && list_all (resolved.keeps drow row) restriction) [
          | true ↦ λ found e.
              ap (λ b. b && list_all is_true parts) (link_true part c (ap (link_of child root) (same_Some part link found) ∙ is))
              ∙ ap (λ b. links c row drow && b) (others_true parts restriction e)
          | false ↦ λ found e.
              let (made, (makes, more)) = and_then_ok (joint_condition child root part) (λ made. and_then (each (joint_condition child root) (beside passes parts)) (λ others. let r : Result (List Cond) Refusal = Ok (made ∷ others) in r)) restriction e in
              let (others, (are, joined)) = and_then_ok (each (joint_condition child root) (beside passes parts)) (λ others. let r : Result (List Cond) Refusal = Ok (made ∷ others) in r) restriction more in
              ap (λ t. is_of t True && list_all is_true parts) (joint_condition_truth child root part made makes tables state drow row [])
              ∙ ap (λ b. resolved.keeps drow row made && b) (parts_true passes parts link c others found is are)
              ∙ and_swap (resolved.keeps drow row made) (links c row drow) (list_all (resolved.keeps drow row) others)
              ∙ ap (λ ks. links c row drow && list_all (resolved.keeps drow row) ks) (ok_same (made ∷ others) restriction joined)
        ] in case (passes part) found e

    -- WHERE is true of a row where the link is, and what is made of the other parts
    where_true : (condition : Condition) (link : Link) (restriction : List Cond) → first_link child root (top_parts condition) ≡ Some link → filter_parts child root (top_parts condition) ≡ Ok restriction
        → is_true condition ≡ links link row drow && resolved.keeps drow row (cond_of.And restriction)
    where_true condition link restriction first are =
        let parts = top_parts condition in
        let (part, (found, is)) = first_link_is child root parts link first in
        ap (λ t. is_of t True) (parts_layer condition around (out-Condition condition) refl)
        ∙ all_true (λ part. truth tables state part around) parts
        ∙ parts_true (may_link child root parts) parts part link restriction found is are
        ∙ ap (λ b. links link row drow && b) (sym (all_true (resolved.truth drow row) restriction) ∙ sym (ap (λ t. is_of t True) (truth-And tables state around drow row restriction)))

-- ---- what a row's queries give

ones : (f : List RowValues → Answer) (rows : List RowValues) → length (map f (filter (λ rows. true) (map (λ row. row ∷ []) rows))) ≡ length rows
ones f [] = refl
ones f (row ∷ rows) = ap suc (ones f rows)

pub is_plain : (table : written.Reference) (list : Evaluation) (keeps : Option (References → Truth)) (outer : References) → list.sets ≡ false
    → answers_by table list keeps None None outer ≡ map (λ rows. record { rows = rows; value = list.value (with_rows table rows outer) }) (filter (λ rows. true) (map (λ row. row ∷ []) (filter (λ row. passes keeps (with_rows table (row ∷ []) outer)) table.rows)))
is_plain table list keeps outer none = rw none refl

-- what may be listed under EXISTS has no set function
plain_layer : (tables : Tables) (state : State) (place : ColumnName → Option ℕ) (layer : Expression-F Condition Expression SelectList Query) → expression_may_stand place layer ≡ true
    → (written.expression_step (map-Expression Condition Expression SelectList Query (References → Truth) Evaluation Evaluation (References → List Answer) (truth tables state) (evaluation_of tables state) (select_list tables state) (answers tables state) layer)).sets ≡ false
plain_layer tables state place (Expression-F.Number n) e = refl
plain_layer tables state place (Expression-F.Text t) e = refl
plain_layer tables state place (Expression-F.Column column) e = refl
plain_layer tables state place Expression-F.CountRows e = cc
plain_layer tables state place (Expression-F.Aggregate f column) e = cc
plain_layer tables state place (Expression-F.Subquery query) e = refl
plain_layer tables state place (Expression-F.Negation part) e = cc
plain_layer tables state place (Expression-F.Sum parts) e = cc
plain_layer tables state place (Expression-F.Product parts) e = cc

plain_list_layer : (tables : Tables) (state : State) (place : ColumnName → Option ℕ) (layer : SelectList-F Condition Expression SelectList Query) → selection_may_stand place layer ≡ true
    → (written.select_list_step (map-SelectList Condition Expression SelectList Query (References → Truth) Evaluation Evaluation (References → List Answer) (truth tables state) (evaluation_of tables state) (select_list tables state) (answers tables state) layer)).sets ≡ false
plain_list_layer tables state place SelectList-F.Star e = refl
plain_list_layer tables state place (SelectList-F.One x) e =
    ap (λ v. v.sets) (fold_out-Expression (References → Truth) Evaluation Evaluation (References → List Answer) written.condition_step written.expression_step written.select_list_step (written.query_step tables state) x) ∙ plain_layer tables state place (out-Expression x) e

pub plain_list : (tables : Tables) (state : State) (place : ColumnName → Option ℕ) (list : SelectList) → may_be_selected place list ≡ true → (select_list tables state list).sets ≡ false
plain_list tables state place list e =
    ap (λ v. v.sets) (fold_out-SelectList (References → Truth) Evaluation Evaluation (References → List Answer) written.condition_step written.expression_step written.select_list_step (written.query_step tables state) list) ∙ plain_list_layer tables state place (out-SelectList list) e

-- what a linked query is made of
pub linked_where_ok : (child : Source) (root : names.Scope) (a : Aggregate) (keeps : Option Condition) (g : Option ColumnName) (h : Option Condition) (q : Subquery Link) → linked_filter child root a keeps g h ≡ Ok q
    → (g ≡ None) × ((h ≡ None) × ((condition : Condition) × ((keeps ≡ Some condition) × ((link : Link) × ((first_link child.scope root (top_parts condition) ≡ Some link) × ((restriction : List Cond) × ((filter_parts child.scope root (top_parts condition) ≡ Ok restriction)
    × (◌≡◌ {A = Subquery Link} (record { table = child.table; filter = cond_of.And restriction; grouping = link; aggregate = a }) q))))))))
linked_where_ok child root a (Some condition) None None q e =
    let make : Link → List Cond → Subquery Link = λ link restriction. record { table = child.table; filter = cond_of.And restriction; grouping = link; aggregate = a } in
    let (link, (first, more)) = in_class_ok (first_link child.scope root (top_parts condition)) (λ link. and_then (filter_parts child.scope root (top_parts condition)) (λ restriction. let r : Result (Subquery Link) Refusal = Ok (make link restriction) in r)) q e in
    let (restriction, (are, makes)) = and_then_ok (filter_parts child.scope root (top_parts condition)) (λ restriction. let r : Result (Subquery Link) Refusal = Ok (make link restriction) in r) q more in
    (refl, (refl, (condition, (refl, (link, (first, (restriction, (are, ok_same (make link restriction) q makes))))))))
linked_where_ok child root a None g h q e = cc
linked_where_ok child root a (Some condition) (Some g) h q e = cc
linked_where_ok child root a (Some condition) None (Some h) q e = cc

module _ (tables : Tables) (state : State) (root : names.Scope) (row : RowValues) where
  abbrev outer_row : References
  outer_row = reference_to root (row ∷ []) ∷ []

  -- the rows that a linked query keeps
  filtered_rows_are : (child : Source) (condition : Condition) (link : Link) (restriction : List Cond) → first_link child.scope root (top_parts condition) ≡ Some link → filter_parts child.scope root (top_parts condition) ≡ Ok restriction
      → filter (λ drow. passes (Some (truth tables state condition)) (with_rows (reference_to child.scope (rows_of child.table state)) (drow ∷ []) outer_row)) (rows_of child.table state)
      ≡ filter (λ drow. links link row drow && resolved.keeps drow row (cond_of.And restriction)) (rows_of child.table state)
  filtered_rows_are child condition link restriction first are =
      filter_agree (λ drow. passes (Some (truth tables state condition)) (with_rows (reference_to child.scope (rows_of child.table state)) (drow ∷ []) outer_row)) (λ drow. links link row drow && resolved.keeps drow row (cond_of.And restriction)) (λ drow. where_true tables state child.scope root drow row condition link restriction first are) (rows_of child.table state)

  -- a query of these clauses, without GROUP BY and HAVING
  clauses_are : (query : Query) (child : Source) (condition : Condition) → source_of tables (out-Query query).table (out-Query query).correlation_name ≡ Some child → (out-Query query).group ≡ None → (out-Query query).having ≡ None → (out-Query query).keeps ≡ Some condition
      → answers tables state query outer_row ≡ answers_by (reference_to child.scope (rows_of child.table state)) (select_list tables state (out-Query query).select_list) (Some (truth tables state condition)) None None outer_row
  clauses_are query child condition found no_group no_having keeps =
      let q = out-Query query in
      let table = reference_to child.scope (rows_of child.table state) in
      let list = select_list tables state q.select_list in
      answers_at tables state query child outer_row found
      ∙ ap (λ g. answers_by table list (option_map (truth tables state) q.keeps) g (option_map (truth tables state) q.having) outer_row) no_group
      ∙ ap (λ h. answers_by table list (option_map (truth tables state) q.keeps) None (option_map (truth tables state) h) outer_row) no_having
      ∙ ap (λ k. answers_by table list (option_map (truth tables state) k) None None outer_row) keeps

  exists_is : (query : Query) (q : Subquery Link) → linked_exists tables root (out-Query query) ≡ Ok q → ◌≡◌ {A = Value} (Int (pos (length (answers tables state query outer_row)))) (linked_answer state row q)
  exists_is query q e =
      let c = out-Query query in
      let (child, (found, more)) = in_class_ok (source_of tables c.table c.correlation_name) (λ child. only_if (may_be_selected (own_column child.scope) c.select_list) (linked_filter child root CountRows c.keeps c.group c.having)) q e in
      let (lists, rest) = only_if_ok (may_be_selected (own_column child.scope) c.select_list) (linked_filter child root CountRows c.keeps c.group c.having) q more in
      let (no_group, (no_having, (condition, (keeps, (link, (first, (restriction, (are, makes)))))))) = linked_where_ok child root CountRows c.keeps c.group c.having q rest in
      let table = reference_to child.scope (rows_of child.table state) in
      let list = select_list tables state c.select_list in
      let f : List RowValues → Answer = λ rows. record { rows = rows; value = list.value (with_rows table rows outer_row) } in
      ap (λ (n : ℕ). Int (pos n)) (
      ap length (clauses_are query child condition found no_group no_having keeps ∙ is_plain table list (Some (truth tables state condition)) outer_row (plain_list tables state (own_column child.scope) c.select_list lists))
      ∙ ones f (filter (λ drow. passes (Some (truth tables state condition)) (with_rows table (drow ∷ []) outer_row)) (rows_of child.table state))
      ∙ ap length (filtered_rows_are child condition link restriction first are))
      ∙ ap (linked_answer state row) makes

  value_is : (query : Query) (q : Subquery Link) → linked_value tables root (out-Query query) ≡ Ok q → only_value (answers tables state query outer_row) ≡ linked_answer state row q
  value_is query q e =
      let c = out-Query query in
      let (child, (found, more)) = in_class_ok (source_of tables c.table c.correlation_name) (λ child. in_class (selected_aggregate child.scope c.select_list) (λ a. linked_filter child root a c.keeps c.group c.having)) q e in
      let (a, (lists, rest)) = in_class_ok (selected_aggregate child.scope c.select_list) (λ a. linked_filter child root a c.keeps c.group c.having) q more in
      let (no_group, (no_having, (condition, (keeps, (link, (first, (restriction, (are, makes)))))))) = linked_where_ok child root a c.keeps c.group c.having q rest in
      let table = reference_to child.scope (rows_of child.table state) in
      let list = select_list tables state c.select_list in
      let (sets, gives) = list_set tables state child.scope a c.select_list lists in
      ap only_value (clauses_are query child condition found no_group no_having keeps)
      ∙ only_set table list (Some (truth tables state condition)) outer_row sets
      ∙ gives (filter (λ drow. passes (Some (truth tables state condition)) (with_rows table (drow ∷ []) outer_row)) (rows_of child.table state)) outer_row
      ∙ ap (aggregate a) (filtered_rows_are child condition link restriction first are)
      ∙ ap (linked_answer state row) makes

  -- what stands in a slot of a condition over a row
  pub linked_leaf : (leaf : Leaf) (q : Subquery Link) → slot_query_of tables root leaf ≡ Ok q → leaf_value tables state outer_row leaf ≡ linked_answer state row q
  linked_leaf Rows q e = cc
  linked_leaf (Of f column) q e = cc
  linked_leaf (Exists query) q e = exists_is query q e
  linked_leaf (Worth query) q e = value_is query q e
