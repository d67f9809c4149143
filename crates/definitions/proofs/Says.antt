-- What the assertions of constraints say over plain rows.
use Rattle.std.proofs.Common.{◌≡◌, ℕ, pos, ◌≤◌, Bool, true, false, cond, List, [], ◌∷◌, ◌++◌, Option, Some, None, length, filter, map, refl, sym, ◌∙◌, ap, subst, arith, ⊎_elim}
use Rattle.std.specs.Prelude.{◌≢◌, ◌↔◌, ◌&&◌, nat_lt, unwrap_or}
use Rattle.std.specs.List.{list_all, zip}
use Rattle.std.specs.Ordering.{eq_by_cmp, is_gt}
use Rattle.std.specs.declared.cmp.Ordering.TheVariants as order
use Rattle.std.proofs.lemmas.Bool.{false≢true}
use Rattle.std.proofs.lemmas.Bool.Decides.{nat_tests}
use Rattle.std.proofs.lemmas.List.Folds.{list_all-append, list_all-map}
use Rattle.value.specs.declared.values.Value.{Value}
use Rattle.value.specs.declared.values.Value.TheVariants as value
use Rattle.value.specs.declared.comparisons.Comparison.{Comparison}
use Rattle.value.specs.declared.comparisons.Comparison.TheVariants.{Equal, Greater}
use Rattle.value.specs.declared.truths.Truth.{Truth}
use Rattle.value.specs.declared.truths.Truth.TheVariants.{True, False, Unknown}
use Rattle.value.specs.Truths.{and_of, not_of, is_of, truth_of_bool}
use Rattle.value.specs.ValueOrder.{value_cmp}
use Rattle.table.specs.Rows.{Layout, RowValues, Tables, column_of, position_of, value_in}
use Rattle.table.specs.Aggregates.{is_there, distinct}
use Rattle.table.specs.Values.{all_of, comparison_truth, is_null}
use Rattle.table.proofs.DistinctLemmas.{has_distinct, itself, same_value}
use Rattle.syntax.specs.declared.trees.ColumnName.{ColumnName}
use Rattle.syntax.specs.declared.trees.Condition.{Condition, roll-Condition}
use Rattle.syntax.specs.declared.trees.Condition.TheVariants as c
use Rattle.syntax.specs.declared.trees.Condition.TheOpen.{Condition-F}
use Rattle.syntax.specs.declared.trees.Condition.TheFolds.{map-Condition, fold-roll-Condition, fold_out-Query}
use Rattle.syntax.specs.declared.trees.Expression.{Expression}
use Rattle.syntax.specs.declared.trees.Expression.TheVariants as e
use Rattle.syntax.specs.declared.trees.SelectList.{SelectList}
use Rattle.syntax.specs.declared.trees.SelectList.TheVariants as list
use Rattle.syntax.specs.declared.trees.Query.{Query}
use Rattle.form_check.specs.Scopes.{Scope}
use Rattle.assertion.specs.Meaning.{State, rows_of}
use Rattle.meaning.specs.Meaning as written
use Rattle.meaning.specs.Meaning.{Reference, References, Evaluation, Answer, answers, column_values, evaluation_of, first_value, is_any, no_layout, passes, rows_at, rows_with, select_list, table_of, truth, with_rows, written_truth}
use Rattle.meaning.specs.Laws.{reference_to}
use Rattle.meaning.proofs.Nodes.{column_is, count_is, number_is, star_is}
use Rattle.meaning.proofs.Queries.{answers_by}
use Rattle.meaning.proofs.Rows.{own_value, outer_values}
use Rattle.definitions.specs.Constraints as spec
use Rattle.definitions.specs.Constraints.{column_of_row, each_is_there, no_row, no_two_agree, other_row, own_row}
use Rattle.definitions.specs.Sentences.{CheckSays, ForeignKeySays, NoTwoAgree, Stands, UniqueSays, at_hand, is_whole, values_in_all}
use Rattle.definitions.proofs.Kept.{Found, at_most_one, at_place, each_group, filter_twice, has_kept, kept_none, kept_or_none, no_group, no_more, none_kept, one_place, place_of}

-- ---- truths

none_given : (given : List Answer) → (not_of (truth_of_bool (is_any given)) ≢ False) ↔ (given ≡ [])
none_given [] = (λ n. refl, λ e f. cc)
none_given (a ∷ rest) = (λ n. absurd (n refl), λ e f. cc)

not_true : (t : Truth) → is_of (not_of t) True ≡ false → t ≢ False
not_true True h f = cc
not_true False h f = cc
not_true Unknown h f = cc

true_not : (t : Truth) → t ≢ False → is_of (not_of t) True ≡ false
true_not True h = refl
true_not False h = absurd (h refl)
true_not Unknown h = refl

there : (v : Value) → is_of (not_of (is_null v)) True ≡ is_there v
there value.Null = refl
there (value.Int n) = refl
there (value.Text t) = refl

and_known : (t u : Truth) → is_of (and_of t u) True ≡ (is_of t True && is_of u True)
and_known True u = refl
and_known False u = refl
and_known Unknown True = refl
and_known Unknown False = refl
and_known Unknown Unknown = refl

all_known : (ts : List Truth) → is_of (all_of ts) True ≡ list_all (λ t. is_of t True) ts
all_known [] = refl
all_known (t ∷ ts) = and_known t (all_of ts) ∙ ap (λ b. is_of t True && b) (all_known ts)

-- ---- what a group says of how many rows it has

abbrev many : ℕ → Bool
many n = is_of (comparison_truth Greater (value.Int (pos n)) (value.Int (pos 1))) True

few_by : (a b : Bool) → b ≡ false → is_of (truth_of_bool (is_gt (cond a order.Less (cond b order.Greater order.Equal)))) True ≡ false
few_by true b e = refl
few_by false true e = cc
few_by false false e = refl

few : (n : ℕ) → n ≤ 1 → many n ≡ false
few n h = few_by (nat_lt n 1) (nat_lt 1 n) (grind (arith, nat_tests))

few_from : (n : ℕ) (a b : Bool) → nat_lt n 1 ≡ a → nat_lt 1 n ≡ b → is_of (truth_of_bool (is_gt (cond a order.Less (cond b order.Greater order.Equal)))) True ≡ false → n ≤ 1
few_from n true b x y e = grind (arith, nat_tests)
few_from n false true x y e = cc
few_from n false false x y e = grind (arith, nat_tests)

few_of : (n : ℕ) → many n ≡ false → n ≤ 1
few_of n e = few_from n (nat_lt n 1) (nat_lt 1 n) refl refl e

-- ---- trees

module _ (tables : Tables) (state : State) where
  condition_rolls : (layer : Condition-F Condition Expression SelectList Query) → truth tables state (roll-Condition layer)
      ≡ written.condition_step (map-Condition Condition Expression SelectList Query (References → Truth) Evaluation Evaluation (References → List Answer) (truth tables state) (evaluation_of tables state) (select_list tables state) (answers tables state) layer)
  condition_rolls layer = fold-roll-Condition (References → Truth) Evaluation Evaluation (References → List Answer) written.condition_step written.expression_step written.select_list_step (written.query_step tables state) layer

  not_is : (part : Condition) (around : References) → truth tables state (c.Not part) around ≡ not_of (truth tables state part around)
  not_is part around = ap (λ x. truth tables state x around) (sym (c.rolls-Not part)) ∙ ap (λ t. t around) (condition_rolls (Condition-F.Not part))

  exists_is : (query : Query) (around : References) → truth tables state (c.Exists query) around ≡ truth_of_bool (is_any (answers tables state query around))
  exists_is query around = ap (λ x. truth tables state x around) (sym (c.rolls-Exists query)) ∙ ap (λ t. t around) (condition_rolls (Condition-F.Exists query))

  null_is : (part : Expression) (around : References) → truth tables state (c.IsNull part) around ≡ is_null ((evaluation_of tables state part).value around)
  null_is part around = ap (λ x. truth tables state x around) (sym (c.rolls-IsNull part)) ∙ ap (λ t. t around) (condition_rolls (Condition-F.IsNull part))

  compare_is : (left : Expression) (comparison : Comparison) (right : Expression) (around : References) → truth tables state (c.Compare left comparison right) around
      ≡ comparison_truth comparison ((evaluation_of tables state left).value around) ((evaluation_of tables state right).value around)
  compare_is left comparison right around = ap (λ x. truth tables state x around) (sym (c.rolls-Compare left comparison right)) ∙ ap (λ t. t around) (condition_rolls (Condition-F.Compare left comparison right))

  and_is : (around : References) (parts : List Condition) → is_of (truth tables state (c.And parts) around) True ≡ list_all (λ part. is_of (truth tables state part around) True) parts
  and_is around parts =
      ap (λ x. is_of (truth tables state x around) True) (sym (c.rolls-And parts)) ∙ ap (λ t. is_of (t around) True) (condition_rolls (Condition-F.And parts))
      ∙ all_known (map (λ part. part around) (map (truth tables state) parts))
      ∙ list_all-map (λ t. is_of t True) (λ (part : References → Truth). part around) (map (truth tables state) parts)
      ∙ list_all-map (λ (part : References → Truth). is_of (part around) True) (truth tables state) parts

  value_is : (column : ColumnName) (around : References) → (evaluation_of tables state (e.Column column)).value around ≡ first_value (column_values column around)
  value_is column around = ap (λ x. (evaluation_of tables state x).value around) (sym (e.rolls-Column column)) ∙ ap (λ (v : Evaluation). v.value around) (column_is tables state column)

  star_sets : (select_list tables state list.Star).sets ≡ false
  star_sets = ap (λ x. (select_list tables state x).sets) (sym list.rolls-Star) ∙ ap (λ (v : Evaluation). v.sets) (star_is tables state)

  -- NOT EXISTS of a query is false of what gives a row, and of nothing else
  denial : (query : Query) (around : References) → truth tables state (no_row query) around ≡ not_of (truth_of_bool (is_any (answers tables state query around)))
  denial query around = not_is (c.Exists query) around ∙ ap not_of (exists_is query around)

  denied : (query : Query) (around : References) → (truth tables state (no_row query) around ≢ False) ↔ (answers tables state query around ≡ [])
  denied query around =
      let is = denial query around in
      let n = none_given (answers tables state query around) in
      (λ h. n.0 (λ f. h (is ∙ f)), λ f g. n.1 f (sym is ∙ g))

  -- a column of the row at hand is there
  column_there : (row_name column : List ℕ) (around : References) → is_of (truth tables state (spec.is_there row_name column) around) True ≡ is_there (first_value (column_values (column_of_row row_name column) around))
  column_there row_name column around =
      ap (λ t. is_of t True) (not_is (c.IsNull (e.Column (column_of_row row_name column))) around ∙ ap not_of (null_is (e.Column (column_of_row row_name column)) around ∙ ap is_null (value_is (column_of_row row_name column) around)))
      ∙ there (first_value (column_values (column_of_row row_name column) around))

  -- a group has two rows
  group_many : (scope : Scope) (rows : List RowValues) → is_of (truth tables state (c.Compare e.CountRows Greater (e.Number (pos 1))) (reference_to scope rows ∷ [])) True ≡ many (length rows)
  group_many scope rows =
      let around : References = reference_to scope rows ∷ [] in
      ap (λ t. is_of t True) (compare_is e.CountRows Greater (e.Number (pos 1)) around
      ∙ ap (λ v. comparison_truth Greater v ((evaluation_of tables state (e.Number (pos 1))).value around)) (ap (λ x. (evaluation_of tables state x).value around) (sym e.rolls-CountRows) ∙ ap (λ (v : Evaluation). v.value around) (count_is tables state))
      ∙ ap (λ v. comparison_truth Greater (value.Int (pos (length rows))) v) (ap (λ x. (evaluation_of tables state x).value around) (sym (e.rolls-Number (pos 1))) ∙ ap (λ (v : Evaluation). v.value around) (number_is tables state (pos 1))))

-- ---- queries without groups

singles : {Y : Type 0} (f : List RowValues → Y) (rows : List RowValues) (b : Bool) → b ≡ false → (map f (filter (λ r. true) (written.groups_of_rows None b rows)) ≡ []) ↔ (rows ≡ [])
singles f rows true is = absurd (false≢true (sym is))
singles f [] false is = (λ h. refl, λ h. refl)
singles f (row ∷ rows) false is = (λ h. cc, λ h. cc)

-- the table that a query reads
table_seen : (tables : Tables) (state : State) (table : List ℕ) (columns : List (List ℕ)) (name : Option (List ℕ)) (t : Stands tables table columns)
    → table_of tables state table name ≡ reference_to (record { exposed_name = unwrap_or name table; layout = t.layout }) (rows_of t.at state)
table_seen tables state table columns name t =
    ap (λ (o : Option Layout). let r : Reference = record { table = record { exposed_name = unwrap_or name table; layout = unwrap_or o no_layout }; rows = rows_at (position_of table tables) state } in r) t.is
    ∙ ap (λ (o : Option ℕ). let r : Reference = record { table = record { exposed_name = unwrap_or name table; layout = t.layout }; rows = rows_at o state } in r) t.stands

-- a query gives no row exactly where its WHERE keeps none
plain_none : (tables : Tables) (state : State) (table : List ℕ) (columns : List (List ℕ)) (name : Option (List ℕ)) (t : Stands tables table columns) (keeps : Condition) (outer : References)
    → (answers tables state (record { select_list = list.Star; table = table; correlation_name = name; keeps = Some keeps; group = None; having = None }) outer ≡ [])
    ↔ (filter (λ row. is_of (truth tables state keeps (reference_to (record { exposed_name = unwrap_or name table; layout = t.layout }) (row ∷ []) ∷ outer)) True) (rows_of t.at state) ≡ [])
plain_none tables state table columns name t keeps outer =
    let query : Query = record { select_list = list.Star; table = table; correlation_name = name; keeps = Some keeps; group = None; having = None } in
    let star = select_list tables state list.Star in
    let seen : Reference = reference_to (record { exposed_name = unwrap_or name table; layout = t.layout }) (rows_of t.at state) in
    let given : answers tables state query outer ≡ answers_by seen star (Some (truth tables state keeps)) None None outer =
    ap (λ a. a outer) (fold_out-Query (References → Truth) Evaluation Evaluation (References → List Answer) written.condition_step written.expression_step written.select_list_step (written.query_step tables state) query)
    ∙ ap (λ (r : Reference). answers_by r star (Some (truth tables state keeps)) None None outer) (table_seen tables state table columns name t) in
    let one = singles (λ rows. let a : Answer = record { rows = rows; value = star.value (with_rows seen rows outer) } in a) (filter (λ row. passes (Some (truth tables state keeps)) (with_rows seen (row ∷ []) outer)) seen.rows) star.sets (star_sets tables state) in
    (λ h. one.0 (sym given ∙ h), λ h. given ∙ one.1 h)

-- ---- CHECK

pub check_says : CheckSays
check_says tables state table condition t =
    let query : Query = record { select_list = list.Star; table = table; correlation_name = None; keeps = Some (c.Not condition); group = None; having = None } in
    let none = denied tables state query [] in
    let kept = plain_none tables state table [] None t (c.Not condition) [] in
    let keeps : RowValues → Bool = λ row. is_of (truth tables state (c.Not condition) (at_hand table t.layout row ∷ [])) True in
    let rows = rows_of t.at state in
    let here : (row : RowValues) → keeps row ≡ is_of (not_of (truth tables state condition (at_hand table t.layout row ∷ []))) True = λ row. ap (λ x. is_of x True) (not_is tables state condition (at_hand table t.layout row ∷ [])) in (
      λ h row inside. let p = place_of rows row inside in not_true (truth tables state condition (at_hand table t.layout row ∷ [])) (sym (here row) ∙ kept_none keeps rows row (kept.0 (none.0 h)) p.0 p.1),
      λ h. none.1 (kept.1 (none_kept keeps rows (λ j row at. here row ∙ true_not (truth tables state condition (at_hand table t.layout row ∷ [])) (h row (at_place rows j row at))))),
    )

-- ---- UNIQUE

and_first : (a b : Bool) → a && b ≡ true → a ≡ true
and_first true b h = refl
and_first false b h = cc

and_second : (a b : Bool) → a && b ≡ true → b ≡ true
and_second true b h = h
and_second false b h = cc

both : (a b : Bool) → a ≡ true → b ≡ true → a && b ≡ true
both true b h g = g
both false b h g = cc

abbrev head_or : {X : Type 0} → X → List X → X
head_or x [] = x
head_or x (y ∷ ys) = y

-- the one place of one column
one_found : (o : Option ℕ) (places : List ℕ) → o ∷ [] ≡ map (λ n. Some n) places → (p : ℕ) × ((o ≡ Some p) × (p ∷ [] ≡ places))
one_found o [] h = absurd (let l = ap length h in omega arith)
one_found o (p ∷ []) h = (p, (ap (head_or o) h, refl))
one_found o (p ∷ q ∷ rest) h = absurd (let l = ap length h in omega arith)

-- no two rows agree in a column where no group of those with a value there has two
groups_say : {Y : Type 0} (f : List RowValues → Y) (p : ℕ) (rows : List RowValues)
    → (map f (filter (λ rs. many (length rs)) (map (rows_with (value_in p) (filter (λ row. is_there (value_in p row)) rows)) (distinct (map (value_in p) (filter (λ row. is_there (value_in p row)) rows))))) ≡ [])
    ↔ NoTwoAgree (p ∷ []) rows
groups_say f p rows =
    let kept = filter (λ row. is_there (value_in p row)) rows in
    let groups = rows_with (value_in p) kept in
    let h : List RowValues → Bool = λ rs. many (length rs) in
    let vs = distinct (map (value_in p) kept) in
    let test : Value → RowValues → Bool = λ v row. is_there (value_in p row) && eq_by_cmp value_cmp v (value_in p row) in
    let is : (v : Value) → groups v ≡ filter (test v) rows = λ v. filter_twice (λ row. is_there (value_in p row)) (λ row. eq_by_cmp value_cmp v (value_in p row)) rows in (
      λ none i j row other at there whole same.
          let v : Value = value_in p row in
          let is_here : is_there v ≡ true = and_first (is_there v) true whole in
          let known = has_distinct v (map (value_in p) kept) ∙ has_kept (value_in p) (λ r. is_there (value_in p r)) rows i row at is_here in
          let short = few_of (length (groups v)) (each_group groups h vs v (no_more f (filter h (map groups vs)) none) known) in
          let first : test v row ≡ true = both (is_there v) (eq_by_cmp value_cmp v v) is_here (itself v) in
          one_place (test v) rows (subst (λ rs. length rs ≤ 1) (is v) short) i j row other at there first
          (ap (λ u. is_there u && eq_by_cmp value_cmp v u) (sym (ap (head_or v) same)) ∙ first),
      λ apart.
          ap (map f) (no_group groups h vs (λ v. few (length (groups v)) (subst (λ rs. length rs ≤ 1) (sym (is v)) (at_most_one (test v) rows (λ i j row other at there s t.
          let a = same_value v (value_in p row) (and_second (is_there (value_in p row)) (eq_by_cmp value_cmp v (value_in p row)) s) in
          let b = same_value v (value_in p other) (and_second (is_there (value_in p other)) (eq_by_cmp value_cmp v (value_in p other)) t) in
          apart i j row other at there (both (is_there (value_in p row)) true (and_first (is_there (value_in p row)) (eq_by_cmp value_cmp v (value_in p row)) s) refl) (ap (λ u. u ∷ []) (sym a ∙ b))))))),
    )

pub unique_says : UniqueSays
unique_says tables state table column t =
    let found = one_found (column_of column t.layout.columns) t.places t.found in
    let p = found.0 in
    let scope : Scope = record { exposed_name = own_row; layout = t.layout } in
    let name = column_of_row own_row column in
    let rows = rows_of t.at state in
    let keeps = spec.is_there own_row column in
    let having = c.Compare e.CountRows Greater (e.Number (pos 1)) in
    let query : Query = record { select_list = list.Star; table = table; correlation_name = Some own_row; keeps = Some keeps; group = Some name; having = Some having } in
    let star = select_list tables state list.Star in
    let f : List RowValues → Answer = λ rs. record { rows = rs; value = star.value (reference_to scope rs ∷ []) } in
    let value_here : (λ (row : RowValues). first_value (column_values name (reference_to scope (row ∷ []) ∷ []))) ≡ value_in p = λ i row. own_value scope row [] name p found.1.0 i in
    let kept_here : (λ (row : RowValues). is_of (truth tables state keeps (reference_to scope (row ∷ []) ∷ [])) True) ≡ (λ row. is_there (value_in p row)) =
    λ i row. (column_there tables state own_row column (reference_to scope (row ∷ []) ∷ []) ∙ ap is_there (own_value scope row [] name p found.1.0)) i in
    let many_here : (λ (rs : List RowValues). is_of (truth tables state having (reference_to scope rs ∷ [])) True) ≡ (λ rs. many (length rs)) = λ i rs. group_many tables state scope rs i in
    let over : (RowValues → Bool) → (RowValues → Value) → (List RowValues → Bool) → List Answer = λ k v h. map f (filter h (map (rows_with v (filter k rows)) (distinct (map v (filter k rows))))) in
    let given : answers tables state query [] ≡ over (λ row. is_there (value_in p row)) (value_in p) (λ rs. many (length rs)) =
    ap (λ a. a []) (fold_out-Query (References → Truth) Evaluation Evaluation (References → List Answer) written.condition_step written.expression_step written.select_list_step (written.query_step tables state) query)
    ∙ ap (λ (r : Reference). answers_by r star (Some (truth tables state keeps)) (Some name) (Some (truth tables state having)) []) (table_seen tables state table (column ∷ []) (Some own_row) t)
    ∙ ap (λ k. over k (λ row. first_value (column_values name (reference_to scope (row ∷ []) ∷ []))) (λ rs. is_of (truth tables state having (reference_to scope rs ∷ [])) True)) kept_here
    ∙ ap (λ v. over (λ row. is_there (value_in p row)) v (λ rs. is_of (truth tables state having (reference_to scope rs ∷ [])) True)) value_here
    ∙ ap (λ h. over (λ row. is_there (value_in p row)) (value_in p) h) many_here in
    let none = denied tables state query [] in
    let says = groups_say f p rows in (
      λ h. subst (λ places. NoTwoAgree places rows) found.1.1 (says.0 (sym given ∙ none.0 h)),
      λ apart. none.1 (given ∙ says.1 (subst (λ places. NoTwoAgree places rows) (sym found.1.1) apart)),
    )

-- ---- FOREIGN KEY

and_nothing : (a : Bool) → a ≡ (a && true)
and_nothing true = refl
and_nothing false = refl

-- all of some parts are true where each of them is
all_is : (tables : Tables) (state : State) (around : References) (parts : List Condition) → is_of (truth tables state (spec.all_of parts) around) True ≡ list_all (λ part. is_of (truth tables state part around) True) parts
all_is tables state around [] = and_is tables state around []
all_is tables state around (part ∷ []) = and_nothing (is_of (truth tables state part around) True)
all_is tables state around (part ∷ next ∷ rest) = and_is tables state around (part ∷ next ∷ rest)

known_true : (b : Bool) → is_of (truth_of_bool b) True ≡ b
known_true true = refl
known_true false = refl

-- a value that is there is equal to another
equal_is : (v w : Value) → is_there w ≡ true → (is_of (comparison_truth Equal v w) True ≡ true) ↔ (v ≡ w)
equal_is v value.Null h = absurd (false≢true h)
equal_is value.Null (value.Int n) h = (λ f. cc, λ f. absurd (false≢true (ap is_there f)))
equal_is value.Null (value.Text s) h = (λ f. cc, λ f. absurd (false≢true (ap is_there f)))
equal_is (value.Int m) (value.Int n) h = (λ f. same_value (value.Int m) (value.Int n) (sym (known_true (eq_by_cmp value_cmp (value.Int m) (value.Int n))) ∙ f), λ f. known_true (eq_by_cmp value_cmp (value.Int m) (value.Int n)) ∙ ap (eq_by_cmp value_cmp (value.Int m)) (sym f) ∙ itself (value.Int m))
equal_is (value.Int m) (value.Text s) h = (λ f. same_value (value.Int m) (value.Text s) (sym (known_true (eq_by_cmp value_cmp (value.Int m) (value.Text s))) ∙ f), λ f. known_true (eq_by_cmp value_cmp (value.Int m) (value.Text s)) ∙ ap (eq_by_cmp value_cmp (value.Int m)) (sym f) ∙ itself (value.Int m))
equal_is (value.Text t) (value.Int n) h = (λ f. same_value (value.Text t) (value.Int n) (sym (known_true (eq_by_cmp value_cmp (value.Text t) (value.Int n))) ∙ f), λ f. known_true (eq_by_cmp value_cmp (value.Text t) (value.Int n)) ∙ ap (eq_by_cmp value_cmp (value.Text t)) (sym f) ∙ itself (value.Text t))
equal_is (value.Text t) (value.Text s) h = (λ f. same_value (value.Text t) (value.Text s) (sym (known_true (eq_by_cmp value_cmp (value.Text t) (value.Text s))) ∙ f), λ f. known_true (eq_by_cmp value_cmp (value.Text t) (value.Text s)) ∙ ap (eq_by_cmp value_cmp (value.Text t)) (sym f) ∙ itself (value.Text t))

abbrev tail_of : {X : Type 0} → List X → List X
tail_of [] = []
tail_of (x ∷ xs) = xs

abbrev AreAt : Layout → List (List ℕ) → List ℕ → Type 0
AreAt layout columns places = map (λ column. column_of column layout.columns) columns ≡ map (λ n. Some n) places

first_at : (layout : Layout) (column : List ℕ) (columns : List (List ℕ)) (p : ℕ) (places : List ℕ) → AreAt layout (column ∷ columns) (p ∷ places) → column_of column layout.columns ≡ Some p
first_at layout column columns p places h = ap (head_or (Some p)) h

others_at : (layout : Layout) (column : List ℕ) (columns : List (List ℕ)) (p : ℕ) (places : List ℕ) → AreAt layout (column ∷ columns) (p ∷ places) → AreAt layout columns places
others_at layout column columns p places h = ap tail_of h

-- whether a row has a value in each of its columns
whole_is : (tables : Tables) (state : State) (layout : Layout) (row : RowValues) (columns : List (List ℕ)) (places : List ℕ) → AreAt layout columns places
    → list_all (λ column. is_of (truth tables state (spec.is_there own_row column) (reference_to (record { exposed_name = own_row; layout = layout }) (row ∷ []) ∷ [])) True) columns ≡ is_whole places row
whole_is tables state layout row [] [] h = refl
whole_is tables state layout row [] (p ∷ places) h = absurd (let l = ap length h in omega arith)
whole_is tables state layout row (column ∷ columns) [] h = absurd (let l = ap length h in omega arith)
whole_is tables state layout row (column ∷ columns) (p ∷ places) h =
    let scope : Scope = record { exposed_name = own_row; layout = layout } in
    let around : References = reference_to scope (row ∷ []) ∷ [] in
    ap (λ b. b && list_all (λ x. is_of (truth tables state (spec.is_there own_row x) around) True) columns)
    (column_there tables state own_row column around ∙ ap is_there (own_value scope row [] (column_of_row own_row column) p (first_at layout column columns p places h)))
    ∙ ap (λ b. is_there (value_in p row) && b) (whole_is tables state layout row columns places (others_at layout column columns p places h))

module _ (tables : Tables) (state : State) (layout other : Layout) (row o : RowValues) where
  abbrev own_table : Scope
  own_table = record { exposed_name = own_row; layout = layout }

  abbrev other_table : Scope
  other_table = record { exposed_name = other_row; layout = other }

  abbrev beside : References
  beside = reference_to other_table (o ∷ []) ∷ reference_to own_table (row ∷ []) ∷ []

  -- two columns agree
  agree_is : (column referenced : List ℕ) (p q : ℕ) → column_of column layout.columns ≡ Some p → column_of referenced other.columns ≡ Some q
      → is_of (truth tables state (spec.agree own_row (column, referenced)) beside) True ≡ is_of (comparison_truth Equal (value_in q o) (value_in p row)) True
  agree_is column referenced p q own known =
      let here : first_value (column_values (column_of_row own_row column) beside) ≡ value_in p row =
      ap first_value (outer_values other_table (o ∷ []) (reference_to own_table (row ∷ []) ∷ []) (column_of_row own_row column) refl) ∙ own_value own_table row [] (column_of_row own_row column) p own in
      let yonder : first_value (column_values (column_of_row other_row referenced) beside) ≡ value_in q o = own_value other_table o (reference_to own_table (row ∷ []) ∷ []) (column_of_row other_row referenced) q known in
      ap (λ t. is_of t True) (compare_is tables state (e.Column (column_of_row other_row referenced)) Equal (e.Column (column_of_row own_row column)) beside)
      ∙ ap (λ v. is_of (comparison_truth Equal v ((evaluation_of tables state (e.Column (column_of_row own_row column))).value beside)) True) (value_is tables state (column_of_row other_row referenced) beside ∙ yonder)
      ∙ ap (λ v. is_of (comparison_truth Equal (value_in q o) v) True) (value_is tables state (column_of_row own_row column) beside ∙ here)

  abbrev agrees : List ℕ × List ℕ → Bool
  agrees pair = is_of (truth tables state (spec.agree own_row pair) beside) True

  -- all of them agree
  agree_all : (columns referenced : List (List ℕ)) (places others : List ℕ) → AreAt layout columns places → AreAt other referenced others → length referenced ≡ length columns → is_whole places row ≡ true
      → (list_all agrees (zip columns referenced) ≡ true) ↔ (values_in_all others o ≡ values_in_all places row)
  agree_all [] [] [] [] own known long whole = (λ h. refl, λ h. refl)
  agree_all [] [] [] (q ∷ others) own known long whole = absurd (let l = ap length known in omega arith)
  agree_all [] [] (p ∷ places) others own known long whole = absurd (let l = ap length own in omega arith)
  agree_all [] (r ∷ referenced) places others own known long whole = absurd (omega (arith, long))
  agree_all (column ∷ columns) [] places others own known long whole = absurd (omega (arith, long))
  agree_all (column ∷ columns) (r ∷ referenced) [] others own known long whole = absurd (let l = ap length own in omega arith)
  agree_all (column ∷ columns) (r ∷ referenced) (p ∷ places) [] own known long whole = absurd (let l = ap length known in omega arith)
  agree_all (column ∷ columns) (r ∷ referenced) (p ∷ places) (q ∷ others) own known long whole =
      let here = agree_is column r p q (first_at layout column columns p places own) (first_at other r referenced q others known) in
      let one = equal_is (value_in q o) (value_in p row) (and_first (is_there (value_in p row)) (is_whole places row) whole) in
      let rest = agree_all columns referenced places others (others_at layout column columns p places own) (others_at other r referenced q others known) (omega (arith, long)) (and_second (is_there (value_in p row)) (is_whole places row) whole) in
      let more = list_all agrees (zip columns referenced) in (
        λ h. ap (λ v. v ∷ values_in_all others o) (one.0 (sym here ∙ and_first (agrees (column, r)) more h)) ∙ ap (λ vs. value_in p row ∷ vs) (rest.0 (and_second (agrees (column, r)) more h)),
        λ h. both (agrees (column, r)) more (here ∙ one.1 (ap (head_or (value_in p row)) h)) (rest.1 (ap tail_of h)),
      )

none_denied : (given : List Answer) → given ≡ [] → is_of (not_of (truth_of_bool (is_any given))) True ≡ true
none_denied [] h = refl
none_denied (a ∷ rest) h = cc

some_denied : (given : List Answer) → (given ≡ [] → ⊥) → is_of (not_of (truth_of_bool (is_any given))) True ≡ false
some_denied [] h = absurd (h refl)
some_denied (a ∷ rest) h = refl

denied_of : (a b : Bool) → a ≡ true → a && (b && true) ≡ false → b ≡ false
denied_of true true h f = cc
denied_of true false h f = refl
denied_of false b h f = cc

not_whole : (a b : Bool) → (a ≡ true → b ≡ false) → a && (b && true) ≡ false
not_whole true b h = ap (λ x. x && true) (h refl)
not_whole false b h = refl

pub foreign_key_says : ForeignKeySays
foreign_key_says tables state table key referenced t other long =
    let rows = rows_of t.at state in
    let theirs = rows_of other.at state in
    let own : Scope = record { exposed_name = own_row; layout = t.layout } in
    let wanted : Condition = spec.all_of (map (spec.agree own_row) (zip key.columns referenced)) in
    let referred : Query = spec.rows_referred_to own_row key referenced in
    let keeps : Condition = spec.all_of (map (spec.is_there own_row) key.columns ++ no_row referred ∷ []) in
    let query : Query = record { select_list = list.Star; table = table; correlation_name = Some own_row; keeps = Some keeps; group = None; having = None } in
    let around : RowValues → References = λ row. reference_to own (row ∷ []) ∷ [] in
    let given : RowValues → List Answer = λ row. answers tables state referred (around row) in
    let denies : RowValues → Bool = λ row. is_of (not_of (truth_of_bool (is_any (given row)))) True in
    let passing : RowValues → Bool = λ row. is_of (truth tables state keeps (around row)) True in
    let passes_is : (row : RowValues) → passing row ≡ is_whole t.places row && (denies row && true) = λ row.
    let test : Condition → Bool = λ part. is_of (truth tables state part (around row)) True in
    all_is tables state (around row) (map (spec.is_there own_row) key.columns ++ no_row referred ∷ [])
    ∙ list_all-append test (map (spec.is_there own_row) key.columns) (no_row referred ∷ [])
    ∙ ap (λ b. b && (test (no_row referred) && true)) (list_all-map test (spec.is_there own_row) key.columns ∙ whole_is tables state t.layout row key.columns t.places t.found)
    ∙ ap (λ x. is_whole t.places row && (is_of x True && true)) (denial tables state referred (around row)) in
    let matching : RowValues → RowValues → Bool = λ row o. is_of (truth tables state wanted (beside tables state t.layout other.layout row o)) True in
    let matches_is : (row o : RowValues) → matching row o ≡ list_all (agrees tables state t.layout other.layout row o) (zip key.columns referenced) = λ row o.
    all_is tables state (beside tables state t.layout other.layout row o) (map (spec.agree own_row) (zip key.columns referenced))
    ∙ list_all-map (λ part. is_of (truth tables state part (beside tables state t.layout other.layout row o)) True) (spec.agree own_row) (zip key.columns referenced) in
    let alike = λ (row o : RowValues). agree_all tables state t.layout other.layout row o key.columns referenced t.places other.places t.found other.found long in
    let inner = λ (row : RowValues). plain_none tables state key.table referenced (Some other_row) other wanted (around row) in
    let outer = plain_none tables state table key.columns (Some own_row) t keeps [] in
    let none = denied tables state query [] in (
      λ h row inside whole.
          let p = place_of rows row inside in
          let left = kept_none passing rows row (outer.0 (none.0 h)) p.0 p.1 in
          let no = denied_of (is_whole t.places row) (denies row) whole (sym (passes_is row) ∙ left) in
          ⊎_elim
          (λ f. absurd (false≢true (sym no ∙ none_denied (given row) ((inner row).1 f))))
          (λ (f : Found (matching row) theirs). (f.item, at_place theirs f.at f.item f.is, (alike row f.item whole).0 (sym (matches_is row f.item) ∙ f.passes)))
          (kept_or_none (matching row) theirs),
      λ each. none.1 (outer.1 (none_kept passing rows (λ j row at. passes_is row ∙ not_whole (is_whole t.places row) (denies row) (λ whole.
          let (o, inside, same) = each row (at_place rows j row at) whole in
          some_denied (given row) (λ f.
          let p = place_of theirs o inside in
          let no = kept_none (matching row) theirs o ((inner row).0 f) p.0 p.1 in
          let yes = matches_is row o ∙ (alike row o whole).1 same in
          false≢true (sym no ∙ yes)))))),
    )
