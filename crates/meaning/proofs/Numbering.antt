-- A condition whose columns are found and whose set functions and queries are put in slots means what the written one means,
-- where each slot holds what stands in it.
use Rattle.std.proofs.Common.{◌≡◌, ℕ, suc, pos, ◌+ℤ◌, ◌*ℤ◌, Option, Some, Ok, List, [], ◌∷◌, ◌++◌, length, map, filter, refl, ap, sym, ◌∙◌, subst}
use Rattle.std.proofs.lemmas.Bool.Decides.{nat_tests}
use Rattle.std.specs.Prelude.{Bool, true, false, nat_lt, slice_index_or}
use Rattle.std.specs.declared.cmp.Ordering.TheVariants as order
use Rattle.std.proofs.Common.{cond as cond_of_bool, arith}
use Rattle.std.specs.Ordering.{is_gt}
use Rattle.value.specs.declared.values.Value.{Value}
use Rattle.value.specs.declared.values.Value.TheVariants as value
use Rattle.value.specs.declared.comparisons.Comparison.{Comparison}
use Rattle.value.specs.declared.comparisons.Comparison.TheVariants.{Equal, AtMost, AtLeast}
use Rattle.value.specs.declared.truths.Truth.{Truth}
use Rattle.value.specs.declared.truths.Truth.TheVariants.{True, False, Unknown}
use Rattle.value.specs.Truths.{and_of, not_of, is_of, truth_of_bool}
use Rattle.table.specs.Rows.{RowValues, Tables, value_in}
use Rattle.table.specs.Aggregates.{is_there}
use Rattle.table.specs.declared.exprs.Expr.{Expr}
use Rattle.table.specs.declared.exprs.Expr.TheOpen.{Expr-F}
use Rattle.table.specs.declared.exprs.Expr.TheFolds.{fold-roll-Expr}
use Rattle.table.specs.declared.exprs.Expr.TheVariants as expr
use Rattle.table.specs.declared.exprs.Expr.TheViews as expr_of
use Rattle.table.specs.declared.conds.Cond.{Cond}
use Rattle.table.specs.declared.conds.Cond.TheOpen.{Cond-F}
use Rattle.table.specs.declared.conds.Cond.TheFolds.{fold-roll-Cond}
use Rattle.table.specs.declared.conds.Cond.TheVariants as cond
use Rattle.table.specs.declared.conds.Cond.TheViews as cond_of
use Rattle.table.specs.Conditions.{between_of, in_of}
use Rattle.table.specs.Values as sql
use Rattle.table.specs.Eval as resolved
use Rattle.assertion.specs.Meaning.{State}
use Rattle.syntax.specs.declared.trees.ColumnName.{ColumnName}
use Rattle.syntax.specs.declared.trees.Condition.{Condition, roll-Condition}
use Rattle.syntax.specs.declared.trees.Condition.TheOpen.{Condition-F, Expression-F}
use Rattle.syntax.specs.declared.trees.Condition.TheFolds.{map-Condition, map-Expression, fold-roll-Condition, fold-roll-Expression, ind-Condition, ind-Expression}
use Rattle.syntax.specs.declared.trees.Expression.{Expression, roll-Expression}
use Rattle.syntax.specs.declared.trees.SelectList.{SelectList}
use Rattle.syntax.specs.declared.trees.Query.{Query}
use Rattle.value.specs.Results.{and_then}
use Rattle.form_check.specs.Columns.{at_place}
use Rattle.form_check.specs.Leaves.{Leaf, Leaves, Numbering, Rows, Of, Exists, Value as Worth, expression_of_column, slot, then_made, both, all, numbered, numbered_expression}
use Rattle.form_check.specs.Leaves as leaves_of
use Rattle.meaning.specs.Meaning as written
use Rattle.meaning.specs.Meaning.{References, Evaluation, Answer, column_values, first_value, rows_at_hand, quantified, set_function, only_value, is_any, truth, evaluation_of, answers}
use Rattle.form_check.proofs.Equations.{condition_rolled, expression_rolled}
use Rattle.form_check.proofs.Steps.{and_then_ok, in_class_ok, then_ok, ok_pair, mapped_some}

-- ---- slots that hold what stands in them

module _ (tables : Tables) (state : State) (scopes : References) where
  -- what stands in a slot, as it is written
  abbrev pub leaf_value : Leaf → Value
  leaf_value Rows = value.Int (pos (length (rows_at_hand scopes)))
  leaf_value (Of function argument) = set_function function (quantified argument.quantifier (filter is_there (column_values argument.column scopes)))
  leaf_value (Exists query) = value.Int (pos (length (answers tables state query scopes)))
  leaf_value (Worth query) = only_value (answers tables state query scopes)

  module _ (row : RowValues) (slots : List Value) where
    -- the slots begin with what stands in these
    abbrev pub Fits : Leaves → Type 0
    Fits leaves = (rest : List Value) × (slots ≡ map leaf_value leaves ++ rest)

    -- what is made means x, and so do the slots that were found before it
    abbrev pub Faithful : {A X : Type 0} → (A → X) → X → Numbering A → Type 0
    Faithful {A} ask x make = (before : Leaves) (made : A) (after : Leaves) → make before ≡ Ok (made, after) → Fits after → (x ≡ ask made) × Fits before

    then_faithful : {A B X Y : Type 0} (ask : A → X) (ask' : B → Y) (make : A → B) (f : X → Y) → ((a : A) → f (ask a) ≡ ask' (make a)) → (x : X) (n : Numbering A) → Faithful ask x n → Faithful ask' (f x) (λ leaves. then_made make (n leaves))
    then_faithful ask ask' make f same x n good before made after e fits =
        let (a, (is, makes)) = then_ok make (n before) made after e in
        let (means, held) = good before a after is fits in
        (ap f means ∙ same a ∙ ap ask' makes, held)

    both_faithful : {A B C X Y Z : Type 0} (ask_a : A → X) (ask_b : B → Y) (ask_c : C → Z) (make : A → B → C) (f : X → Y → Z) → ((a : A) (b : B) → f (ask_a a) (ask_b b) ≡ ask_c (make a b)) → (x : X) (y : Y) (m : Numbering A) (n : Numbering B)
        → Faithful ask_a x m → Faithful ask_b y n → Faithful ask_c (f x y) (both make m n)
    both_faithful ask_a ask_b ask_c make f same x y m n good_m good_n before made after e fits =
        let (l, (is, more)) = and_then_ok (m before) (λ l. then_made (make l.0) (n l.1)) (made, after) e in
        let (b, (is_b, makes)) = then_ok (make l.0) (n l.1) made after more in
        let (means_b, held_b) = good_n l.1 b after is_b fits in
        let (means_a, held) = good_m before l.0 l.1 is held_b in
        (ap (λ u. f u y) means_a ∙ ap (f (ask_a l.0)) means_b ∙ same l.0 b ∙ ap ask_c makes, held)

    -- parts from the left, seen through one of their sides
    all_faithful : {X A M Y : Type 0} (ask : A → Y) (mean : X → M) (pick : M → Y) (make : X → Numbering A) (parts : List ((x : X) × Faithful ask (pick (mean x)) (make x)))
        → Faithful (map ask) (map pick (map mean (map (λ e. e.0) parts))) (all (map (λ x. (x, make x)) (map (λ e. e.0) parts)))
    all_faithful {A = A} ask mean pick make [] before made after e fits =
        let none : List A = [] in
        let (is, same) = ok_pair none made before after e in
        (ap (map ask) is, subst Fits (sym same) fits)
    all_faithful {X = X} {A = A} ask mean pick make (part ∷ parts) before made after e fits =
        let others : Numbering (List A) = all (map (λ x. (x, make x)) (map (λ e. e.0) parts)) in
        let (l, (is, more)) = and_then_ok (make part.0 before) (λ l. then_made (λ others. l.0 ∷ others) (others l.1)) (made, after) e in
        let (rest, (is_rest, makes)) = then_ok (λ others. l.0 ∷ others) (others l.1) made after more in
        let (mean_rest, held_rest) = all_faithful ask mean pick make parts l.1 rest after is_rest fits in
        let (mean_part, held) = part.1 before l.0 l.1 is held_rest in
        (ap (λ v. v ∷ map pick (map mean (map (λ e. e.0) parts))) mean_part ∙ ap (λ vs. ask l.0 ∷ vs) mean_rest ∙ ap (map ask) makes, held)

    -- what stands behind a list
    at_length : (vs rest : List Value) (v : Value) → slice_index_or (vs ++ v ∷ rest) (length vs) value.Null ≡ v
    at_length [] rest v = refl
    at_length (w ∷ vs) rest v = at_length vs rest v

    length_map : (leaves : Leaves) → length (map leaf_value leaves) ≡ length leaves
    length_map [] = refl
    length_map (leaf ∷ leaves) = ap suc (length_map leaves)

    map_behind : (leaves : Leaves) (leaf : Leaf) (rest : List Value) → map leaf_value (leaves ++ leaf ∷ []) ++ rest ≡ map leaf_value leaves ++ leaf_value leaf ∷ rest
    map_behind [] leaf rest = refl
    map_behind (l ∷ leaves) leaf rest = ap (λ vs. leaf_value l ∷ vs) (map_behind leaves leaf rest)

    -- a new slot
    in_slot : (leaf : Leaf) (before : Leaves) → Fits (before ++ leaf ∷ []) → (slice_index_or slots (length before) value.Null ≡ leaf_value leaf) × Fits before
    in_slot leaf before fits =
        let is : slots ≡ map leaf_value before ++ leaf_value leaf ∷ fits.0 = fits.1 ∙ map_behind before leaf fits.0 in
        (ap (λ vs. slice_index_or vs (length before) value.Null) is ∙ ap (λ n. slice_index_or (map leaf_value before ++ leaf_value leaf ∷ fits.0) n value.Null) (sym (length_map before)) ∙ at_length (map leaf_value before) fits.0 (leaf_value leaf), (leaf_value leaf ∷ fits.0, is))

    -- ---- the equations of what is resolved

    answer-Literal : (v : Value) → resolved.answer row slots (expr.Literal v) ≡ v
    answer-Literal v = ap (resolved.answer row slots) (sym (expr.rolls-Literal v)) ∙ fold-roll-Expr Value (resolved.expr_step row slots) (Expr-F.Literal v)

    pub answer-Column : (c : ℕ) → resolved.answer row slots (expr.Column c) ≡ value_in c row
    answer-Column c = ap (resolved.answer row slots) (sym (expr.rolls-Column c)) ∙ fold-roll-Expr Value (resolved.expr_step row slots) (Expr-F.Column c)

    pub answer-Slot : (n : ℕ) → resolved.answer row slots (expr.Slot n) ≡ slice_index_or slots n value.Null
    answer-Slot n = ap (resolved.answer row slots) (sym (expr.rolls-Slot n)) ∙ fold-roll-Expr Value (resolved.expr_step row slots) (Expr-F.Slot n)

    answer-Negation : (part : Expr) → resolved.answer row slots (expr_of.Negation part) ≡ sql.negative_of (resolved.answer row slots part)
    answer-Negation part = ap (resolved.answer row slots) (sym (expr.rolls-Negation part)) ∙ fold-roll-Expr Value (resolved.expr_step row slots) (Expr-F.Negation part)

    answer-Sum : (parts : List Expr) → resolved.answer row slots (expr_of.Sum parts) ≡ sql.total (λ m n. m +ℤ n) (value.Int (pos 0)) (map (resolved.answer row slots) parts)
    answer-Sum parts = ap (resolved.answer row slots) (sym (expr.rolls-Sum parts)) ∙ fold-roll-Expr Value (resolved.expr_step row slots) (Expr-F.Sum parts)

    answer-Product : (parts : List Expr) → resolved.answer row slots (expr_of.Product parts) ≡ sql.total (λ m n. m *ℤ n) (value.Int (pos 1)) (map (resolved.answer row slots) parts)
    answer-Product parts = ap (resolved.answer row slots) (sym (expr.rolls-Product parts)) ∙ fold-roll-Expr Value (resolved.expr_step row slots) (Expr-F.Product parts)

    truth-Compare : (c : Comparison) (a b : Expr) → resolved.truth row slots (cond.Compare c a b) ≡ sql.comparison_truth c (resolved.answer row slots a) (resolved.answer row slots b)
    truth-Compare c a b = ap (resolved.truth row slots) (sym (cond.rolls-Compare c a b)) ∙ fold-roll-Cond Truth (resolved.cond_step row slots) (Cond-F.Compare c a b)

    truth-IsNull : (a : Expr) → resolved.truth row slots (cond.IsNull a) ≡ sql.is_null (resolved.answer row slots a)
    truth-IsNull a = ap (resolved.truth row slots) (sym (cond.rolls-IsNull a)) ∙ fold-roll-Cond Truth (resolved.cond_step row slots) (Cond-F.IsNull a)

    truth-Exists : (n : ℕ) → resolved.truth row slots (cond.Exists n) ≡ resolved.exists_some (slice_index_or slots n value.Null)
    truth-Exists n = ap (resolved.truth row slots) (sym (cond.rolls-Exists n)) ∙ fold-roll-Cond Truth (resolved.cond_step row slots) (Cond-F.Exists n)

    truth-Is : (part : Cond) (wanted : Truth) → resolved.truth row slots (cond_of.Is part wanted) ≡ truth_of_bool (is_of (resolved.truth row slots part) wanted)
    truth-Is part wanted = ap (resolved.truth row slots) (sym (cond.rolls-Is part wanted)) ∙ fold-roll-Cond Truth (resolved.cond_step row slots) (Cond-F.Is part wanted)

    truth-Not : (part : Cond) → resolved.truth row slots (cond_of.Not part) ≡ not_of (resolved.truth row slots part)
    truth-Not part = ap (resolved.truth row slots) (sym (cond.rolls-Not part)) ∙ fold-roll-Cond Truth (resolved.cond_step row slots) (Cond-F.Not part)

    pub truth-And : (parts : List Cond) → resolved.truth row slots (cond_of.And parts) ≡ sql.all_of (map (resolved.truth row slots) parts)
    truth-And parts = ap (resolved.truth row slots) (sym (cond.rolls-And parts)) ∙ fold-roll-Cond Truth (resolved.cond_step row slots) (Cond-F.And parts)

    pub truth-Or : (parts : List Cond) → resolved.truth row slots (cond_of.Or parts) ≡ sql.any_of (map (resolved.truth row slots) parts)
    truth-Or parts = ap (resolved.truth row slots) (sym (cond.rolls-Or parts)) ∙ fold-roll-Cond Truth (resolved.cond_step row slots) (Cond-F.Or parts)

    and_true : (t : Truth) → t ≡ and_of t True
    and_true True = refl
    and_true False = refl
    and_true Unknown = refl

    truth-between : (x low high : Expr) → and_of (sql.comparison_truth AtLeast (resolved.answer row slots x) (resolved.answer row slots low)) (sql.comparison_truth AtMost (resolved.answer row slots x) (resolved.answer row slots high)) ≡ resolved.truth row slots (between_of x low high)
    truth-between x low high =
        let a = cond.Compare AtLeast x low in
        let b = cond.Compare AtMost x high in
        sym (truth-And (a ∷ b ∷ []) ∙ ap (λ t. and_of t (and_of (resolved.truth row slots b) True)) (truth-Compare AtLeast x low) ∙ ap (λ t. and_of (sql.comparison_truth AtLeast (resolved.answer row slots x) (resolved.answer row slots low)) t) (sym (and_true (resolved.truth row slots b)) ∙ truth-Compare AtMost x high))

    in_each : (x : Expr) (list : List Expr) → map (sql.comparison_truth Equal (resolved.answer row slots x)) (map (resolved.answer row slots) list) ≡ map (resolved.truth row slots) (map (λ v. cond.Compare Equal x v) list)
    in_each x [] = refl
    in_each x (v ∷ list) = ap (λ t. t ∷ map (sql.comparison_truth Equal (resolved.answer row slots x)) (map (resolved.answer row slots) list)) (sym (truth-Compare Equal x v)) ∙ ap (λ ts. resolved.truth row slots (cond.Compare Equal x v) ∷ ts) (in_each x list)

    truth-in : (x : Expr) (list : List Expr) → sql.any_of (map (sql.comparison_truth Equal (resolved.answer row slots x)) (map (resolved.answer row slots) list)) ≡ resolved.truth row slots (in_of x list)
    truth-in x list = ap sql.any_of (in_each x list) ∙ sym (truth-Or (map (λ v. cond.Compare Equal x v) list))

    above_none : (a b : Bool) → a ≡ false → b ≡ true → True ≡ truth_of_bool (is_of (truth_of_bool (is_gt (cond_of_bool a order.Less (cond_of_bool b order.Greater order.Equal)))) True)
    above_none a b e f = rw (e, f) refl

    not_below : (n : ℕ) → nat_lt (suc n) 0 ≡ false
    not_below n = grind (arith, nat_tests)

    is_below : (n : ℕ) → nat_lt 0 (suc n) ≡ true
    is_below n = grind (arith, nat_tests)

    -- EXISTS by the count of what a query gives
    exists-count : (rows : List Answer) → truth_of_bool (is_any rows) ≡ resolved.exists_some (value.Int (pos (length rows)))
    exists-count [] = refl
    exists-count (row ∷ rows) = above_none (nat_lt (suc (length rows)) 0) (nat_lt 0 (suc (length rows))) (not_below (length rows)) (is_below (length rows))

    -- ---- all conditions

    moved : {A X : Type 0} (ask : A → X) (x y : X) (m n : Numbering A) → x ≡ y → m ≡ n → Faithful ask y n → Faithful ask x m
    moved ask x y m n same makes good before made after e fits =
        let (means, held) = good before made after (sym (ap (λ make. make before) makes) ∙ e) fits in
        (same ∙ means, held)

    -- a slot means what stands in it
    slot_faithful : (leaf : Leaf) → Faithful (resolved.answer row slots) (leaf_value leaf) (slot leaf)
    slot_faithful leaf before made after e fits =
        let (is, same) = ok_pair (expr.Slot (length before)) made (before ++ leaf ∷ []) after e in
        let (held, earlier) = in_slot leaf before (subst Fits (sym same) fits) in
        (sym held ∙ sym (answer-Slot (length before)) ∙ ap (resolved.answer row slots) is, earlier)

    exists_faithful : (query : Query) → Faithful (resolved.truth row slots) (truth_of_bool (is_any (answers tables state query scopes))) (λ leaves. Ok (cond.Exists (length leaves), leaves ++ Exists query ∷ []))
    exists_faithful query before made after e fits =
        let (is, same) = ok_pair (cond.Exists (length before)) made (before ++ Exists query ∷ []) after e in
        let (held, earlier) = in_slot (Exists query) before (subst Fits (sym same) fits) in
        (exists-count (answers tables state query scopes) ∙ ap resolved.exists_some (sym held) ∙ sym (truth-Exists (length before)) ∙ ap (resolved.truth row slots) is, earlier)

    -- a literal, which makes no slot
    literal_faithful : (v : Value) → Faithful (resolved.answer row slots) v (λ leaves. Ok (expr.Literal v, leaves))
    literal_faithful v before made after e fits =
        let (is, same) = ok_pair (expr.Literal v) made before after e in
        (sym (answer-Literal v) ∙ ap (resolved.answer row slots) is, subst Fits (sym same) fits)

    -- columns of the row at hand alone
    pub at_place_means : (place : ColumnName → Option ℕ) → ((column : ColumnName) (c : ℕ) → place column ≡ Some c → first_value (column_values column scopes) ≡ value_in c row)
        → (column : ColumnName) (e : Expr) → at_place place column ≡ Some e → first_value (column_values column scopes) ≡ resolved.answer row slots e
    at_place_means place means column e is =
        let (c, (at, makes)) = mapped_some expr.Column (place column) e is in
        means column c at ∙ sym (answer-Column c) ∙ ap (resolved.answer row slots) makes

    module _ (place : ColumnName → Option Expr) (means : (column : ColumnName) (e : Expr) → place column ≡ Some e → first_value (column_values column scopes) ≡ resolved.answer row slots e) where
      column_faithful : (column : ColumnName) → Faithful (resolved.answer row slots) (first_value (column_values column scopes)) (expression_of_column (place column))
      column_faithful column before made after e fits =
          let (x, (is, more)) = in_class_ok (place column) (λ x. Ok (x, before)) (made, after) e in
          let (makes, same) = ok_pair x made before after more in
          (means column x is ∙ ap (resolved.answer row slots) makes, subst Fits (sym same) fits)

      abbrev pub IsFaithful : Condition → Type 0
      IsFaithful c = Faithful (resolved.truth row slots) (truth tables state c scopes) (numbered place c)

      abbrev pub IsFaithfulExpression : Expression → Type 0
      IsFaithfulExpression e = Faithful (resolved.answer row slots) ((evaluation_of tables state e).value scopes) (numbered_expression place e)

      abbrev of_condition : Type 0
      of_condition = (c : Condition) × IsFaithful c

      abbrev of_expression : Type 0
      of_expression = (e : Expression) × IsFaithfulExpression e

      abbrev of_select_list : Type 0
      of_select_list = SelectList × Unit {0}

      abbrev of_query : Type 0
      of_query = Query × Unit {0}

      expression_layer : (y : Expression-F of_condition of_expression of_select_list of_query)
          → Faithful (resolved.answer row slots)
          ((written.expression_step (map-Expression Condition Expression SelectList Query (References → Truth) Evaluation Evaluation (References → List Answer) (truth tables state) (evaluation_of tables state) (written.select_list tables state) (answers tables state)
          (map-Expression of_condition of_expression of_select_list of_query Condition Expression SelectList Query (λ e. e.0) (λ e. e.0) (λ e. e.0) (λ e. e.0) y))).value scopes)
          (leaves_of.expression_step place (map-Expression Condition Expression SelectList Query (Condition × Numbering Cond) (Expression × Numbering Expr) (SelectList × Unit {0}) (Query × Unit {0}) (λ c. (c, numbered place c)) (λ e. (e, numbered_expression place e)) (λ l. (l, tt)) (λ q. (q, tt))
          (map-Expression of_condition of_expression of_select_list of_query Condition Expression SelectList Query (λ e. e.0) (λ e. e.0) (λ e. e.0) (λ e. e.0) y)))
      expression_layer (Expression-F.Number n) = literal_faithful (value.Int n)
      expression_layer (Expression-F.Text t) = literal_faithful (value.Text t)
      expression_layer (Expression-F.Column column) = column_faithful column
      expression_layer Expression-F.CountRows = slot_faithful Rows
      expression_layer (Expression-F.Aggregate function argument) = slot_faithful (Of function argument)
      expression_layer (Expression-F.Subquery query) = slot_faithful (Worth query.0)
      expression_layer (Expression-F.Negation part) = then_faithful (resolved.answer row slots) (resolved.answer row slots) expr_of.Negation sql.negative_of (λ a. sym (answer-Negation a)) ((evaluation_of tables state part.0).value scopes) (numbered_expression place part.0) part.1
      expression_layer (Expression-F.Sum parts) =
          then_faithful (map (resolved.answer row slots)) (resolved.answer row slots) expr_of.Sum (sql.total (λ m n. m +ℤ n) (value.Int (pos 0))) (λ a. sym (answer-Sum a)) (map (λ part. part.value scopes) (map (evaluation_of tables state) (map (λ e. e.0) parts))) (all (map (λ e. (e, numbered_expression place e)) (map (λ e. e.0) parts)))
          (all_faithful (resolved.answer row slots) (evaluation_of tables state) (λ part. part.value scopes) (numbered_expression place) parts)
      expression_layer (Expression-F.Product parts) =
          then_faithful (map (resolved.answer row slots)) (resolved.answer row slots) expr_of.Product (sql.total (λ m n. m *ℤ n) (value.Int (pos 1))) (λ a. sym (answer-Product a)) (map (λ part. part.value scopes) (map (evaluation_of tables state) (map (λ e. e.0) parts))) (all (map (λ e. (e, numbered_expression place e)) (map (λ e. e.0) parts)))
          (all_faithful (resolved.answer row slots) (evaluation_of tables state) (λ part. part.value scopes) (numbered_expression place) parts)

      between_faithful : (x low high : of_expression) → Faithful (resolved.truth row slots) (and_of (sql.comparison_truth AtLeast ((evaluation_of tables state x.0).value scopes) ((evaluation_of tables state low.0).value scopes)) (sql.comparison_truth AtMost ((evaluation_of tables state x.0).value scopes) ((evaluation_of tables state high.0).value scopes)))
          (λ leaves. and_then (numbered_expression place x.0 leaves) (λ s. both (between_of s.0) (numbered_expression place low.0) (numbered_expression place high.0) s.1))
      between_faithful x low high before made after e fits =
          let low_value = (evaluation_of tables state low.0).value scopes in
          let high_value = (evaluation_of tables state high.0).value scopes in
          let (s, (is, more)) = and_then_ok (numbered_expression place x.0 before) (λ s. both (between_of s.0) (numbered_expression place low.0) (numbered_expression place high.0) s.1) (made, after) e in
          let v = resolved.answer row slots s.0 in
          let (means, held) = both_faithful (resolved.answer row slots) (resolved.answer row slots) (resolved.truth row slots) (between_of s.0) (λ l h. and_of (sql.comparison_truth AtLeast v l) (sql.comparison_truth AtMost v h)) (truth-between s.0) low_value high_value (numbered_expression place low.0) (numbered_expression place high.0) low.1 high.1 s.1 made after more fits in
          let (subject, earlier) = x.1 before s.0 s.1 is held in
          (ap (λ u. and_of (sql.comparison_truth AtLeast u low_value) (sql.comparison_truth AtMost u high_value)) subject ∙ means, earlier)

      condition_layer : (y : Condition-F of_condition of_expression of_select_list of_query)
          → Faithful (resolved.truth row slots)
          (written.condition_step (map-Condition Condition Expression SelectList Query (References → Truth) Evaluation Evaluation (References → List Answer) (truth tables state) (evaluation_of tables state) (written.select_list tables state) (answers tables state)
          (map-Condition of_condition of_expression of_select_list of_query Condition Expression SelectList Query (λ e. e.0) (λ e. e.0) (λ e. e.0) (λ e. e.0) y)) scopes)
          (leaves_of.condition_step place (map-Condition Condition Expression SelectList Query (Condition × Numbering Cond) (Expression × Numbering Expr) (SelectList × Unit {0}) (Query × Unit {0}) (λ c. (c, numbered place c)) (λ e. (e, numbered_expression place e)) (λ l. (l, tt)) (λ q. (q, tt))
          (map-Condition of_condition of_expression of_select_list of_query Condition Expression SelectList Query (λ e. e.0) (λ e. e.0) (λ e. e.0) (λ e. e.0) y)))
      condition_layer (Condition-F.Or parts) =
          then_faithful (map (resolved.truth row slots)) (resolved.truth row slots) cond_of.Or sql.any_of (λ a. sym (truth-Or a)) (map (λ part. part scopes) (map (truth tables state) (map (λ e. e.0) parts))) (all (map (λ c. (c, numbered place c)) (map (λ e. e.0) parts)))
          (all_faithful (resolved.truth row slots) (truth tables state) (λ part. part scopes) (numbered place) parts)
      condition_layer (Condition-F.And parts) =
          then_faithful (map (resolved.truth row slots)) (resolved.truth row slots) cond_of.And sql.all_of (λ a. sym (truth-And a)) (map (λ part. part scopes) (map (truth tables state) (map (λ e. e.0) parts))) (all (map (λ c. (c, numbered place c)) (map (λ e. e.0) parts)))
          (all_faithful (resolved.truth row slots) (truth tables state) (λ part. part scopes) (numbered place) parts)
      condition_layer (Condition-F.Not part) = then_faithful (resolved.truth row slots) (resolved.truth row slots) cond_of.Not not_of (λ a. sym (truth-Not a)) (truth tables state part.0 scopes) (numbered place part.0) part.1
      condition_layer (Condition-F.Is part wanted) = then_faithful (resolved.truth row slots) (resolved.truth row slots) (λ c. cond_of.Is c wanted) (λ t. truth_of_bool (is_of t wanted)) (λ a. sym (truth-Is a wanted)) (truth tables state part.0 scopes) (numbered place part.0) part.1
      condition_layer (Condition-F.Exists query) = exists_faithful query.0
      condition_layer (Condition-F.Compare left comparison right) = both_faithful (resolved.answer row slots) (resolved.answer row slots) (resolved.truth row slots) (λ a b. cond.Compare comparison a b) (sql.comparison_truth comparison) (λ a b. sym (truth-Compare comparison a b)) ((evaluation_of tables state left.0).value scopes) ((evaluation_of tables state right.0).value scopes) (numbered_expression place left.0) (numbered_expression place right.0) left.1 right.1
      condition_layer (Condition-F.IsNull part) = then_faithful (resolved.answer row slots) (resolved.truth row slots) cond.IsNull sql.is_null (λ a. sym (truth-IsNull a)) ((evaluation_of tables state part.0).value scopes) (numbered_expression place part.0) part.1
      condition_layer (Condition-F.Between x low high) = between_faithful x low high
      condition_layer (Condition-F.In x list) = both_faithful (resolved.answer row slots) (map (resolved.answer row slots)) (resolved.truth row slots) in_of (λ v vs. sql.any_of (map (sql.comparison_truth Equal v) vs)) truth-in ((evaluation_of tables state x.0).value scopes) (map (λ part. part.value scopes) (map (evaluation_of tables state) (map (λ e. e.0) list))) (numbered_expression place x.0) (all (map (λ e. (e, numbered_expression place e)) (map (λ e. e.0) list)))
          x.1 (all_faithful (resolved.answer row slots) (evaluation_of tables state) (λ part. part.value scopes) (numbered_expression place) list)

      expression_at : (x : Expression-F Condition Expression SelectList Query) (y : Expression-F of_condition of_expression of_select_list of_query) → map-Expression of_condition of_expression of_select_list of_query Condition Expression SelectList Query (λ e. e.0) (λ e. e.0) (λ e. e.0) (λ e. e.0) y ≡ x → IsFaithfulExpression (roll-Expression x)
      expression_at x y is =
          let layer = map-Expression of_condition of_expression of_select_list of_query Condition Expression SelectList Query (λ e. e.0) (λ e. e.0) (λ e. e.0) (λ e. e.0) y in
          let meant = map-Expression Condition Expression SelectList Query (References → Truth) Evaluation Evaluation (References → List Answer) (truth tables state) (evaluation_of tables state) (written.select_list tables state) (answers tables state) layer in
          let made = map-Expression Condition Expression SelectList Query (Condition × Numbering Cond) (Expression × Numbering Expr) (SelectList × Unit {0}) (Query × Unit {0}) (λ c. (c, numbered place c)) (λ e. (e, numbered_expression place e)) (λ l. (l, tt)) (λ q. (q, tt)) layer in
          subst (λ x. IsFaithfulExpression (roll-Expression x)) is (moved (resolved.answer row slots) ((evaluation_of tables state (roll-Expression layer)).value scopes) ((written.expression_step meant).value scopes) (numbered_expression place (roll-Expression layer)) (leaves_of.expression_step place made)
          (ap (λ v. v.value scopes) (fold-roll-Expression (References → Truth) Evaluation Evaluation (References → List Answer) written.condition_step written.expression_step written.select_list_step (written.query_step tables state) layer)) (expression_rolled place layer) (expression_layer y))

      condition_at : (x : Condition-F Condition Expression SelectList Query) (y : Condition-F of_condition of_expression of_select_list of_query) → map-Condition of_condition of_expression of_select_list of_query Condition Expression SelectList Query (λ e. e.0) (λ e. e.0) (λ e. e.0) (λ e. e.0) y ≡ x → IsFaithful (roll-Condition x)
      condition_at x y is =
          let layer = map-Condition of_condition of_expression of_select_list of_query Condition Expression SelectList Query (λ e. e.0) (λ e. e.0) (λ e. e.0) (λ e. e.0) y in
          let meant = map-Condition Condition Expression SelectList Query (References → Truth) Evaluation Evaluation (References → List Answer) (truth tables state) (evaluation_of tables state) (written.select_list tables state) (answers tables state) layer in
          let made = map-Condition Condition Expression SelectList Query (Condition × Numbering Cond) (Expression × Numbering Expr) (SelectList × Unit {0}) (Query × Unit {0}) (λ c. (c, numbered place c)) (λ e. (e, numbered_expression place e)) (λ l. (l, tt)) (λ q. (q, tt)) layer in
          subst (λ x. IsFaithful (roll-Condition x)) is (moved (resolved.truth row slots) (truth tables state (roll-Condition layer) scopes) (written.condition_step meant scopes) (numbered place (roll-Condition layer)) (leaves_of.condition_step place made)
          (ap (λ t. t scopes) (fold-roll-Condition (References → Truth) Evaluation Evaluation (References → List Answer) written.condition_step written.expression_step written.select_list_step (written.query_step tables state) layer)) (condition_rolled place layer) (condition_layer y))

      -- what is made of a condition means what the condition means
      pub condition_faithful : (c : Condition) → IsFaithful c
      condition_faithful = ind-Condition IsFaithful IsFaithfulExpression (λ l. Unit {0}) (λ q. Unit {0}) condition_at expression_at (λ x y is. tt) (λ x y is. tt)

      -- what is made of an expression has its value
      pub expression_faithful : (e : Expression) → IsFaithfulExpression e
      expression_faithful = ind-Expression IsFaithful IsFaithfulExpression (λ l. Unit {0}) (λ q. Unit {0}) condition_at expression_at (λ x y is. tt) (λ x y is. tt)
