-- A WHERE over the rows of one table reads under the key of its text.
use Rattle.std.proofs.Common.{◌≡◌, ℕ, cond, length, map, Option, Some, None, Ok, List, [], ◌∷◌, ◌++◌, refl, ap, sym, ◌∙◌}
use Rattle.std.specs.Prelude.{◌==◌, filter_map, find}
use Rattle.std.specs.Option.{option_or}
use Rattle.value.specs.declared.values.Value.{Value}
use Rattle.value.specs.declared.values.Value.TheVariants as value
use Rattle.value.specs.declared.comparisons.Comparison.{Comparison}
use Rattle.value.specs.declared.comparisons.Comparison.TheVariants.{Equal, NotEqual, Less, AtMost, Greater, AtLeast}
use Rattle.table.specs.declared.exprs.Expr.{Expr}
use Rattle.table.specs.declared.exprs.Expr.TheOpen.{Expr-F}
use Rattle.table.specs.declared.exprs.Expr.TheVariants as expr
use Rattle.table.specs.declared.exprs.Expr.TheViews as expr_of
use Rattle.table.specs.declared.exprs.Expr.TheViews.{out-Expr, roll-Expr, out-roll-Expr}
use Rattle.table.specs.declared.conds.Cond.{Cond}
use Rattle.table.specs.declared.conds.Cond.TheOpen.{Cond-F}
use Rattle.table.specs.declared.conds.Cond.TheVariants as cond
use Rattle.table.specs.declared.conds.Cond.TheViews as cond_of
use Rattle.table.specs.declared.conds.Cond.TheViews.{out-Cond, roll-Cond, out-roll-Cond}
use Rattle.table.specs.Conditions.{between_of, in_of}
use Rattle.syntax.specs.declared.trees.ColumnName.{ColumnName}
use Rattle.syntax.specs.declared.trees.Condition.{Condition, out-Condition, roll-out-Condition}
use Rattle.syntax.specs.declared.trees.Condition.TheOpen.{Condition-F, Expression-F}
use Rattle.syntax.specs.declared.trees.Condition.TheFolds.{map-Condition, map-Expression}
use Rattle.syntax.specs.declared.trees.Expression.{Expression, out-Expression, roll-out-Expression}
use Rattle.syntax.specs.declared.trees.SelectList.{SelectList}
use Rattle.syntax.specs.declared.trees.Query.{Query}
use Rattle.syntax.specs.Grammar.{and_layer}
use Rattle.form_check.specs.Scopes.{Scope, own_column}
use Rattle.form_check.specs.Leaves.{Leaves, Numbering, Rows, Of, Exists, Value as Worth, then_made, both, all, numbered, numbered_expression}
use Rattle.form_check.specs.Leaves as leaves_of
use Rattle.form_check.specs.Columns.{at_place}
use Rattle.form_check.specs.Queries.{alone, row_filter}
use Rattle.alone.specs.Reads as reads
use Rattle.alone.specs.Reads.{Equality}
use Rattle.meaning.specs.Keys as written
use Rattle.form_check.proofs.Steps.{alone_ok, and_then_ok, in_class_ok, then_ok, ok_pair, ok_same, mapped_some}
use Rattle.form_check.proofs.Equations.{expression_rolled, condition_rolled}

-- ---- the sides of a resolved comparison

abbrev resolved_literal : Expr-F Expr → Option Value
resolved_literal (Expr-F.Literal v) = Some v
resolved_literal other = None

abbrev resolved_column : Expr-F Expr → Option ℕ
resolved_column (Expr-F.Column c) = Some c
resolved_column other = None

no_sides : (y : Expr-F Expr) → written.equality (resolved_column y) None ≡ None
no_sides (Expr-F.Column c) = refl
no_sides (Expr-F.Literal v) = refl
no_sides (Expr-F.Slot n) = refl
no_sides (Expr-F.Negation part) = refl
no_sides (Expr-F.Sum parts) = refl
no_sides (Expr-F.Product parts) = refl

sides_are : (x y : Expr-F Expr) → option_or (written.equality (resolved_column x) (resolved_literal y)) (written.equality (resolved_column y) (resolved_literal x)) ≡ reads.sides x y
sides_are (Expr-F.Column c) (Expr-F.Column d) = refl
sides_are (Expr-F.Column c) (Expr-F.Literal v) = refl
sides_are (Expr-F.Column c) (Expr-F.Slot n) = refl
sides_are (Expr-F.Column c) (Expr-F.Negation part) = refl
sides_are (Expr-F.Column c) (Expr-F.Sum parts) = refl
sides_are (Expr-F.Column c) (Expr-F.Product parts) = refl
sides_are (Expr-F.Literal v) (Expr-F.Column c) = refl
sides_are (Expr-F.Literal v) (Expr-F.Literal w) = refl
sides_are (Expr-F.Literal v) (Expr-F.Slot n) = refl
sides_are (Expr-F.Literal v) (Expr-F.Negation part) = refl
sides_are (Expr-F.Literal v) (Expr-F.Sum parts) = refl
sides_are (Expr-F.Literal v) (Expr-F.Product parts) = refl
sides_are (Expr-F.Slot n) y = no_sides y
sides_are (Expr-F.Negation part) y = no_sides y
sides_are (Expr-F.Sum parts) y = no_sides y
sides_are (Expr-F.Product parts) y = no_sides y

-- ---- the equalities of resolved parts, as a list

abbrev pub before_all : Option Equality → List Equality → List Equality
before_all None rest = rest
before_all (Some e) rest = e ∷ rest

abbrev pub in_parts : List Cond → List Equality
in_parts parts = filter_map (λ part. reads.equality_in (out-Cond part)) parts

first_on_is : (key : ℕ) (parts : List Cond) → reads.first_on key parts ≡ find (λ e. e.column == key) (in_parts parts)
first_on_is key [] = refl
first_on_is key (part ∷ parts) =
    elim (reads.equality_in (out-Cond part)) as (λ o. cond (reads.is_on key o) o (reads.first_on key parts) ≡ find (λ e. e.column == key) (before_all o (in_parts parts))) [
      | None ↦ first_on_is key parts
      | Some e ↦ ap (λ (o : Option Equality). cond (e.column == key) (Some e) o) (first_on_is key parts)
    ]

key_is : (table : ℕ) (row : Option Equality) (parts : List Cond) → reads.key_from table row (reads.first_equality parts) ≡ written.first_key table row (in_parts parts)
key_is table (Some row) parts = refl
key_is table None [] = refl
key_is table None (part ∷ parts) =
    elim (reads.equality_in (out-Cond part)) as (λ o. reads.key_from table None (option_or o (reads.first_equality parts)) ≡ written.first_key table None (before_all o (in_parts parts))) [
      | None ↦ key_is table None parts
      | Some e ↦ refl
    ]

pub where_key_is : (table key : ℕ) (made : Cond) → reads.filter_key table key made ≡ written.first_key table (find (λ e. e.column == key) (in_parts (reads.top_parts made))) (in_parts (reads.top_parts made))
where_key_is table key made =
    key_is table (reads.first_on key (reads.top_parts made)) (reads.top_parts made)
    ∙ ap (λ row. written.first_key table row (in_parts (reads.top_parts made))) (first_on_is key (reads.top_parts made))

-- ---- what is made of a layer

pub shown_expr : (y : Expr-F Expr) (made : Expr) → roll-Expr y ≡ made → out-Expr made ≡ y
shown_expr y made e = ap out-Expr (sym e) ∙ out-roll-Expr y

pub shown_cond : (y : Cond-F Cond) (made : Cond) → roll-Cond y ≡ made → out-Cond made ≡ y
shown_cond y made e = ap out-Cond (sym e) ∙ out-roll-Cond y

abbrev ExpressionLayer : Type 0
ExpressionLayer = Expression-F Condition Expression SelectList Query

abbrev ConditionLayer : Type 0
ConditionLayer = Condition-F Condition Expression SelectList Query

module _ (scope : Scope) where
  abbrev place : ColumnName → Option Expr
  place = at_place (own_column scope)

  abbrev made_expression : ExpressionLayer → Numbering Expr
  made_expression layer = leaves_of.expression_step place (map-Expression Condition Expression SelectList Query (Condition × Numbering Cond) (Expression × Numbering Expr) (SelectList × Unit {0}) (Query × Unit {0}) (λ c. (c, numbered place c)) (λ e. (e, numbered_expression place e)) (λ l. (l, tt)) (λ q. (q, tt)) layer)

  abbrev made_condition : ConditionLayer → Numbering Cond
  made_condition layer = leaves_of.condition_step place (map-Condition Condition Expression SelectList Query (Condition × Numbering Cond) (Expression × Numbering Expr) (SelectList × Unit {0}) (Query × Unit {0}) (λ c. (c, numbered place c)) (λ e. (e, numbered_expression place e)) (λ l. (l, tt)) (λ q. (q, tt)) layer)

  -- an expression is the same column or literal, or neither
  abbrev Alike : ExpressionLayer → Expr → Type 0
  Alike layer made = (written.column scope layer ≡ resolved_column (out-Expr made)) × (written.literal layer ≡ resolved_literal (out-Expr made))

  alike : (layer : ExpressionLayer) (y : Expr-F Expr) (made : Expr) → written.column scope layer ≡ resolved_column y → written.literal layer ≡ resolved_literal y → roll-Expr y ≡ made → Alike layer made
  alike layer y made column literal is = let shown = sym (shown_expr y made is) in (column ∙ ap resolved_column shown, literal ∙ ap resolved_literal shown)

  expression_layer : (layer : ExpressionLayer) (before : Leaves) (made : Expr) (after : Leaves) → made_expression layer before ≡ Ok (made, after) → Alike layer made
  expression_layer (Expression-F.Number n) before made after e = alike (Expression-F.Number n) (Expr-F.Literal (value.Int n)) made refl refl (expr.rolls-Literal (value.Int n) ∙ (ok_pair (expr.Literal (value.Int n)) made before after e).0)
  expression_layer (Expression-F.Text t) before made after e = alike (Expression-F.Text t) (Expr-F.Literal (value.Text t)) made refl refl (expr.rolls-Literal (value.Text t) ∙ (ok_pair (expr.Literal (value.Text t)) made before after e).0)
  expression_layer (Expression-F.Column name) before made after e =
      let (x, (is, more)) = in_class_ok (place name) (λ x. Ok (x, before)) (made, after) e in
      let (c, (own, makes)) = mapped_some expr.Column (own_column scope name) x is in
      alike (Expression-F.Column name) (Expr-F.Column c) made own refl (expr.rolls-Column c ∙ makes ∙ (ok_pair x made before after more).0)
  expression_layer Expression-F.CountRows before made after e = alike Expression-F.CountRows (Expr-F.Slot (length before)) made refl refl (expr.rolls-Slot (length before) ∙ (ok_pair (expr.Slot (length before)) made (before ++ Rows ∷ []) after e).0)
  expression_layer (Expression-F.Aggregate function name) before made after e =
      alike (Expression-F.Aggregate function name) (Expr-F.Slot (length before)) made refl refl (expr.rolls-Slot (length before) ∙ (ok_pair (expr.Slot (length before)) made (before ++ Of function name ∷ []) after e).0)
  expression_layer (Expression-F.Subquery query) before made after e =
      alike (Expression-F.Subquery query) (Expr-F.Slot (length before)) made refl refl (expr.rolls-Slot (length before) ∙ (ok_pair (expr.Slot (length before)) made (before ++ Worth query ∷ []) after e).0)
  expression_layer (Expression-F.Negation part) before made after e =
      let (a, (is, makes)) = then_ok expr_of.Negation (numbered_expression place part before) made after e in
      alike (Expression-F.Negation part) (Expr-F.Negation a) made refl refl (expr.rolls-Negation a ∙ makes)
  expression_layer (Expression-F.Sum parts) before made after e =
      let (xs, (is, makes)) = then_ok expr_of.Sum (all (map (λ e. (e, numbered_expression place e)) parts) before) made after e in
      alike (Expression-F.Sum parts) (Expr-F.Sum xs) made refl refl (expr.rolls-Sum xs ∙ makes)
  expression_layer (Expression-F.Product parts) before made after e =
      let (xs, (is, makes)) = then_ok expr_of.Product (all (map (λ e. (e, numbered_expression place e)) parts) before) made after e in
      alike (Expression-F.Product parts) (Expr-F.Product xs) made refl refl (expr.rolls-Product xs ∙ makes)

  expression_alike : (x : Expression) (before : Leaves) (made : Expr) (after : Leaves) → numbered_expression place x before ≡ Ok (made, after) → Alike (out-Expression x) made
  expression_alike x before made after e =
      expression_layer (out-Expression x) before made after (sym (ap (λ x. numbered_expression place x before) (sym (roll-out-Expression x)) ∙ ap (λ make. make before) (expression_rolled place (out-Expression x))) ∙ e)

  -- ---- one part

  equal_alike : (comparison : Comparison) (left right : Expression) (a b : Expr) → Alike (out-Expression left) a → Alike (out-Expression right) b → written.equality_of scope (Condition-F.Compare left comparison right) ≡ reads.equal_sides comparison a b
  equal_alike Equal left right a b (left_column, left_literal) (right_column, right_literal) =
      (λ i. option_or (written.equality (left_column i) (right_literal i)) (written.equality (right_column i) (left_literal i))) ∙ sides_are (out-Expr a) (out-Expr b)
  equal_alike NotEqual left right a b l r = refl
  equal_alike Less left right a b l r = refl
  equal_alike AtMost left right a b l r = refl
  equal_alike Greater left right a b l r = refl
  equal_alike AtLeast left right a b l r = refl

  -- a part has the equality of what it becomes, and is one part as that is; AND has several, and BETWEEN becomes two
  abbrev IsOne : ConditionLayer → Cond → Cond-F Cond → Type 0
  IsOne (Condition-F.And parts) made y = Unit {0}
  IsOne (Condition-F.Between x low high) made y = Unit {0}
  IsOne other made y = reads.parts_in made y ≡ made ∷ []

  record Made (layer : ConditionLayer) (made : Cond) : Type 0 where
    shown : Cond-F Cond
    is : out-Cond made ≡ shown
    same : written.equality_of scope layer ≡ reads.equality_in shown
    one : IsOne layer made shown

  between_made : (x low high : Expression) (before : Leaves) (made : Cond) (after : Leaves) → made_condition (Condition-F.Between x low high) before ≡ Ok (made, after)
      → (a : Expr) × ((b : Expr) × ((c : Expr) × (out-Cond made ≡ Cond-F.And (cond.Compare AtLeast a b ∷ cond.Compare AtMost a c ∷ []))))
  between_made x low high before made after e =
      let (s, (is, more)) = and_then_ok (numbered_expression place x before) (λ s. both (between_of s.0) (numbered_expression place low) (numbered_expression place high) s.1) (made, after) e in
      let (l, (is_l, rest)) = and_then_ok (numbered_expression place low s.1) (λ l. then_made (between_of s.0 l.0) (numbered_expression place high l.1)) (made, after) more in
      let (h, (is_h, makes)) = then_ok (between_of s.0 l.0) (numbered_expression place high l.1) made after rest in
      let parts = cond.Compare AtLeast s.0 l.0 ∷ cond.Compare AtMost s.0 h ∷ [] in
      (s.0, (l.0, (h, shown_cond (Cond-F.And parts) made (cond.rolls-And parts ∙ makes))))

  and_made : (parts : List Condition) (before : Leaves) (made : Cond) (after : Leaves) → made_condition (Condition-F.And parts) before ≡ Ok (made, after)
      → (cs : List Cond) × ((all (map (λ c. (c, numbered place c)) parts) before ≡ Ok (cs, after)) × (out-Cond made ≡ Cond-F.And cs))
  and_made parts before made after e =
      let (cs, (are, makes)) = then_ok cond_of.And (all (map (λ c. (c, numbered place c)) parts) before) made after e in
      (cs, (are, shown_cond (Cond-F.And cs) made (cond.rolls-And cs ∙ makes)))

  condition_layer : (layer : ConditionLayer) (before : Leaves) (made : Cond) (after : Leaves) → made_condition layer before ≡ Ok (made, after) → Made layer made
  condition_layer (Condition-F.Or parts) before made after e =
      let (cs, (are, makes)) = then_ok cond_of.Or (all (map (λ c. (c, numbered place c)) parts) before) made after e in
      record { shown = Cond-F.Or cs; is = shown_cond (Cond-F.Or cs) made (cond.rolls-Or cs ∙ makes); same = refl; one = refl }
  condition_layer (Condition-F.And parts) before made after e =
      let (cs, (are, is)) = and_made parts before made after e in
      record { shown = Cond-F.And cs; is = is; same = refl; one = tt }
  condition_layer (Condition-F.Not part) before made after e =
      let (c, (is, makes)) = then_ok cond_of.Not (numbered place part before) made after e in
      record { shown = Cond-F.Not c; is = shown_cond (Cond-F.Not c) made (cond.rolls-Not c ∙ makes); same = refl; one = refl }
  condition_layer (Condition-F.Is part wanted) before made after e =
      let (c, (is, makes)) = then_ok (λ c. cond_of.Is c wanted) (numbered place part before) made after e in
      record { shown = Cond-F.Is c wanted; is = shown_cond (Cond-F.Is c wanted) made (cond.rolls-Is c wanted ∙ makes); same = refl; one = refl }
  condition_layer (Condition-F.Exists query) before made after e =
      let (makes, same) = ok_pair (cond.Exists (length before)) made (before ++ Exists query ∷ []) after e in
      record { shown = Cond-F.Exists (length before); is = shown_cond (Cond-F.Exists (length before)) made (cond.rolls-Exists (length before) ∙ makes); same = refl; one = refl }
  condition_layer (Condition-F.Compare left comparison right) before made after e =
      let (l, (is_l, more)) = and_then_ok (numbered_expression place left before) (λ l. then_made (λ b. cond.Compare comparison l.0 b) (numbered_expression place right l.1)) (made, after) e in
      let (r, (is_r, makes)) = then_ok (λ b. cond.Compare comparison l.0 b) (numbered_expression place right l.1) made after more in
      record {
        shown = Cond-F.Compare comparison l.0 r;
        is = shown_cond (Cond-F.Compare comparison l.0 r) made (cond.rolls-Compare comparison l.0 r ∙ makes);
        same = equal_alike comparison left right l.0 r (expression_alike left before l.0 l.1 is_l) (expression_alike right l.1 r after is_r);
        one = refl;
      }
  condition_layer (Condition-F.IsNull part) before made after e =
      let (a, (is, makes)) = then_ok cond.IsNull (numbered_expression place part before) made after e in
      record { shown = Cond-F.IsNull a; is = shown_cond (Cond-F.IsNull a) made (cond.rolls-IsNull a ∙ makes); same = refl; one = refl }
  condition_layer (Condition-F.Between x low high) before made after e =
      let (a, (b, (c, is))) = between_made x low high before made after e in
      record { shown = Cond-F.And (cond.Compare AtLeast a b ∷ cond.Compare AtMost a c ∷ []); is = is; same = refl; one = tt }
  condition_layer (Condition-F.In x list) before made after e =
      let (l, (is_l, more)) = and_then_ok (numbered_expression place x before) (λ l. then_made (in_of l.0) (all (map (λ e. (e, numbered_expression place e)) list) l.1)) (made, after) e in
      let (vs, (are, makes)) = then_ok (in_of l.0) (all (map (λ e. (e, numbered_expression place e)) list) l.1) made after more in
      let parts = map (λ v. cond.Compare Equal l.0 v) vs in
      record { shown = Cond-F.Or parts; is = shown_cond (Cond-F.Or parts) made (cond.rolls-Or parts ∙ makes); same = refl; one = refl }

  condition_step_is : (c : Condition) (before : Leaves) → numbered place c before ≡ made_condition (out-Condition c) before
  condition_step_is c before = ap (λ c. numbered place c before) (sym (roll-out-Condition c)) ∙ ap (λ make. make before) (condition_rolled place (out-Condition c))

  equality_alike : (c : Condition) (before : Leaves) (made : Cond) (after : Leaves) → numbered place c before ≡ Ok (made, after) → written.equality_of scope (out-Condition c) ≡ reads.equality_in (out-Cond made)
  equality_alike c before made after e =
      let m = condition_layer (out-Condition c) before made after (sym (condition_step_is c before) ∙ e) in
      m.same ∙ ap reads.equality_in (sym m.is)

  -- ---- the parts that AND joins

  abbrev written_parts : List Condition → List Equality
  written_parts parts = filter_map (λ part. written.equality_of scope (out-Condition part)) parts

  parts_alike : (parts : List Condition) (before : Leaves) (cs : List Cond) (after : Leaves) → all (map (λ c. (c, numbered place c)) parts) before ≡ Ok (cs, after) → written_parts parts ≡ in_parts cs
  parts_alike [] before cs after e = let none : List Cond = [] in ap in_parts (ok_pair none cs before after e).0
  parts_alike (part ∷ parts) before cs after e =
      let (first, (is, more)) = and_then_ok (numbered place part before) (λ first. then_made (λ others. first.0 ∷ others) (all (map (λ c. (c, numbered place c)) parts) first.1)) (cs, after) e in
      let (others, (are, makes)) = then_ok (λ others. first.0 ∷ others) (all (map (λ c. (c, numbered place c)) parts) first.1) cs after more in
      ap (λ o. before_all o (written_parts parts)) (equality_alike part before first.0 first.1 is)
      ∙ ap (before_all (reads.equality_in (out-Cond first.0))) (parts_alike parts first.1 others after are)
      ∙ ap in_parts makes

  one_part : (c : Condition) (layer : ConditionLayer) (made : Cond) → out-Condition c ≡ layer → and_layer c layer ≡ c ∷ [] → (m : Made layer made) → reads.parts_in made m.shown ≡ made ∷ [] → written_parts (and_layer c layer) ≡ in_parts (reads.parts_in made (out-Cond made))
  one_part c layer made out single m one =
      ap written_parts single
      ∙ ap (λ o. before_all o []) (ap (written.equality_of scope) out ∙ m.same ∙ ap reads.equality_in (sym m.is))
      ∙ ap in_parts (sym one ∙ ap (reads.parts_in made) (sym m.is))

  top_layer : (c : Condition) (layer : ConditionLayer) → out-Condition c ≡ layer → (before : Leaves) (made : Cond) (after : Leaves) → made_condition layer before ≡ Ok (made, after) → written_parts (and_layer c layer) ≡ in_parts (reads.parts_in made (out-Cond made))
  top_layer c (Condition-F.Or parts) out before made after e = let m = condition_layer (Condition-F.Or parts) before made after e in one_part c (Condition-F.Or parts) made out refl m m.one
  top_layer c (Condition-F.And parts) out before made after e =
      let (cs, (are, is)) = and_made parts before made after e in
      parts_alike parts before cs after are ∙ ap (λ y. in_parts (reads.parts_in made y)) (sym is)
  top_layer c (Condition-F.Not part) out before made after e = let m = condition_layer (Condition-F.Not part) before made after e in one_part c (Condition-F.Not part) made out refl m m.one
  top_layer c (Condition-F.Is part wanted) out before made after e = let m = condition_layer (Condition-F.Is part wanted) before made after e in one_part c (Condition-F.Is part wanted) made out refl m m.one
  top_layer c (Condition-F.Exists query) out before made after e = let m = condition_layer (Condition-F.Exists query) before made after e in one_part c (Condition-F.Exists query) made out refl m m.one
  top_layer c (Condition-F.Compare left comparison right) out before made after e = let m = condition_layer (Condition-F.Compare left comparison right) before made after e in one_part c (Condition-F.Compare left comparison right) made out refl m m.one
  top_layer c (Condition-F.IsNull part) out before made after e = let m = condition_layer (Condition-F.IsNull part) before made after e in one_part c (Condition-F.IsNull part) made out refl m m.one
  top_layer c (Condition-F.Between x low high) out before made after e =
      let (a, (b, (d, is))) = between_made x low high before made after e in
      let least = shown_cond (Cond-F.Compare AtLeast a b) (cond.Compare AtLeast a b) (cond.rolls-Compare AtLeast a b) in
      let greatest = shown_cond (Cond-F.Compare AtMost a d) (cond.Compare AtMost a d) (cond.rolls-Compare AtMost a d) in
      ap (λ o. before_all o []) (ap (written.equality_of scope) out)
      ∙ ap (λ y. before_all (reads.equality_in y) []) (sym greatest)
      ∙ ap (λ y. before_all (reads.equality_in y) (in_parts (cond.Compare AtMost a d ∷ []))) (sym least)
      ∙ ap (λ y. in_parts (reads.parts_in made y)) (sym is)
  top_layer c (Condition-F.In x list) out before made after e = let m = condition_layer (Condition-F.In x list) before made after e in one_part c (Condition-F.In x list) made out refl m m.one

  equalities_are : (c : Condition) (before : Leaves) (made : Cond) (after : Leaves) → numbered place c before ≡ Ok (made, after) → written.equalities scope (Some c) ≡ in_parts (reads.top_parts made)
  equalities_are c before made after e = top_layer c (out-Condition c) refl before made after (sym (condition_step_is c before) ∙ e)

  -- a missing WHERE keeps every row, and has no part
  no_parts : (made : Cond) → cond_of.And [] ≡ made → in_parts (reads.top_parts made) ≡ []
  no_parts made e = ap (λ y. in_parts (reads.parts_in made y)) (shown_cond (Cond-F.And []) made (cond.rolls-And [] ∙ e))

filter_equalities : (scope : Scope) (condition : Option Condition) (made : Cond) → row_filter scope condition ≡ Ok made → written.equalities scope condition ≡ in_parts (reads.top_parts made)
filter_equalities scope None made e = sym (no_parts scope made (ok_same (cond_of.And []) made e))
filter_equalities scope (Some c) made e =
    let (m, (is, rest)) = and_then_ok (numbered (at_place (own_column scope)) c []) (λ m. alone m.0 m.1) made e in
    let (same, none) = alone_ok m.0 m.1 made rest in
    equalities_are scope c [] m.0 m.1 is ∙ ap (λ made. in_parts (reads.top_parts made)) same

pub WhereReads-law : written.WhereReads
WhereReads-law scope condition made e table =
    where_key_is table scope.layout.key made
    ∙ sym (ap (λ es. written.first_key table (find (λ e. e.column == scope.layout.key) es) es) (filter_equalities scope condition made e))
