-- The rows that a condition keeps are under the key by which it reads.
use Rattle.std.proofs.Common.{◌≡◌, ℕ, Bool, true, false, cond, List, [], ◌∷◌, ◌⊎◌, Option, Some, None, map, refl, sym, ap, ◌∙◌, subst, inl, inr, is_eq, int_cmp, nat_cmp, eqb-true, eq-eqb}
use Rattle.std.specs.Prelude.{◌==◌}
use Rattle.std.specs.Cmp.Lexicographic.{slice_cmp}
use Rattle.std.proofs.lemmas.Bool.{cases_Bool, and_from}
use Rattle.std.specs.Option.{option_or}
use Rattle.value.specs.declared.values.Value.{Value}
use Rattle.value.specs.declared.values.Value.TheVariants as value
use Rattle.value.specs.declared.comparisons.Comparison.{Comparison}
use Rattle.value.specs.declared.comparisons.Comparison.TheVariants as comparison
use Rattle.value.proofs.OrderedLists.{equal_from}
use Rattle.value.proofs.ValueOrders.{value_exact}
use Rattle.value.specs.declared.truths.Truth.{Truth}
use Rattle.value.specs.declared.truths.Truth.TheVariants.{True, False, Unknown}
use Rattle.value.specs.Truths.{and_of, is_of, truth_of_bool}
use Rattle.table.specs.Rows.{RowValues, Layout, value_in, key_of}
use Rattle.table.specs.declared.exprs.Expr.{Expr}
use Rattle.table.specs.declared.exprs.Expr.TheOpen.{Expr-F}
use Rattle.table.specs.declared.exprs.Expr.TheFolds.{fold-roll-Expr}
use Rattle.table.specs.declared.exprs.Expr.TheViews.{out-Expr, roll-Expr, roll-out-Expr}
use Rattle.table.specs.declared.conds.Cond.{Cond}
use Rattle.table.specs.declared.conds.Cond.TheOpen.{Cond-F}
use Rattle.table.specs.declared.conds.Cond.TheFolds.{fold-roll-Cond}
use Rattle.table.specs.declared.conds.Cond.TheViews.{out-Cond, roll-Cond, roll-out-Cond}
use Rattle.table.specs.Eval.{truth, keeps, answer, expr_step, cond_step}
use Rattle.table.specs.Values.{all_of, comparison_truth}
use Rattle.assertion.specs.Meaning.{State}
use Rattle.assertion.specs.Changes.{IsOrdered}
use Rattle.siread.specs.Keys.{is_under, SameUnder, same_value}
use Rattle.alone.specs.States.{row_in}
use Rattle.alone.specs.Reads.{parts_in, top_parts, Equality, sides, equal_sides, equality_in, is_on, first_equality, first_on, key_from, filter_key}
use Rattle.alone.specs.Statements.{found_rows}
use Rattle.alone.proofs.Lists.{Each}
use Rattle.siread.proofs.KeyOrder.{same_value-refl}
use Rattle.alone.proofs.Stores.{filtered_same}

is_of-True : (t : Truth) → is_of t True ≡ true → t ≡ True
is_of-True True h = refl
is_of-True False h = cc
is_of-True Unknown h = cc

known-True : (b : Bool) → truth_of_bool b ≡ True → b ≡ true
known-True true h = refl
known-True false h = cc

-- a comparison for equality is true of equal values alone
equal_answers : (v w : Value) → comparison_truth comparison.Equal v w ≡ True → v ≡ w
equal_answers value.Null w h = cc
equal_answers (value.Int m) value.Null h = cc
equal_answers (value.Int m) (value.Int n) h = value_exact (value.Int m) (value.Int n) (equal_from (int_cmp m n) (known-True (is_eq (int_cmp m n)) h))
equal_answers (value.Int m) (value.Text t) h = cc
equal_answers (value.Text s) value.Null h = cc
equal_answers (value.Text s) (value.Int n) h = cc
equal_answers (value.Text s) (value.Text t) h = value_exact (value.Text s) (value.Text t) (equal_from (slice_cmp nat_cmp s t) (known-True (is_eq (slice_cmp nat_cmp s t)) h))

and_of-True : (a b : Truth) → and_of a b ≡ True → (a ≡ True) × (b ≡ True)
and_of-True True b h = (refl, h)
and_of-True False b h = cc
and_of-True Unknown True h = cc
and_of-True Unknown False h = cc
and_of-True Unknown Unknown h = cc

module _ (row : RowValues) where
  answer-Literal : (v : Value) → answer row [] (roll-Expr (Expr-F.Literal v)) ≡ v
  answer-Literal v = fold-roll-Expr Value (expr_step row []) (Expr-F.Literal v)

  answer-Column : (i : ℕ) → answer row [] (roll-Expr (Expr-F.Column i)) ≡ value_in i row
  answer-Column i = fold-roll-Expr Value (expr_step row []) (Expr-F.Column i)

  -- the row has the value in the column
  abbrev pub Meets : Equality → Type 0
  Meets equality = value_in equality.column row ≡ equality.value

  sides_meet : (x y : Expr-F Expr) (equality : Equality) → sides x y ≡ Some equality → comparison_truth comparison.Equal (answer row [] (roll-Expr x)) (answer row [] (roll-Expr y)) ≡ True → Meets equality
  sides_meet (Expr-F.Column i) (Expr-F.Literal v) equality h t =
      let is : record { column = i; value = v } ≡ equality = cc in
      subst Meets is (equal_answers (value_in i row) v (sym (λ k. comparison_truth comparison.Equal (answer-Column i k) (answer-Literal v k)) ∙ t))
  sides_meet (Expr-F.Literal v) (Expr-F.Column i) equality h t =
      let is : record { column = i; value = v } ≡ equality = cc in
      subst Meets is (sym (equal_answers v (value_in i row) (sym (λ k. comparison_truth comparison.Equal (answer-Literal v k) (answer-Column i k)) ∙ t)))
  sides_meet (Expr-F.Column i) (Expr-F.Column j) equality h t = cc
  sides_meet (Expr-F.Column i) (Expr-F.Slot j) equality h t = cc
  sides_meet (Expr-F.Column i) (Expr-F.Negation p) equality h t = cc
  sides_meet (Expr-F.Column i) (Expr-F.Sum p) equality h t = cc
  sides_meet (Expr-F.Column i) (Expr-F.Product p) equality h t = cc
  sides_meet (Expr-F.Literal i) (Expr-F.Literal j) equality h t = cc
  sides_meet (Expr-F.Literal i) (Expr-F.Slot j) equality h t = cc
  sides_meet (Expr-F.Literal i) (Expr-F.Negation p) equality h t = cc
  sides_meet (Expr-F.Literal i) (Expr-F.Sum p) equality h t = cc
  sides_meet (Expr-F.Literal i) (Expr-F.Product p) equality h t = cc
  sides_meet (Expr-F.Slot i) y equality h t = cc
  sides_meet (Expr-F.Negation p) y equality h t = cc
  sides_meet (Expr-F.Sum p) y equality h t = cc
  sides_meet (Expr-F.Product p) y equality h t = cc

  compare_meets : (c : Comparison) (a b : Expr) (equality : Equality) → equal_sides c a b ≡ Some equality → comparison_truth c (answer row [] a) (answer row [] b) ≡ True → Meets equality
  compare_meets comparison.Equal a b equality h t = sides_meet (out-Expr a) (out-Expr b) equality h ((λ k. comparison_truth comparison.Equal (answer row [] (roll-out-Expr a k)) (answer row [] (roll-out-Expr b k))) ∙ t)
  compare_meets comparison.NotEqual a b equality h t = cc
  compare_meets comparison.Less a b equality h t = cc
  compare_meets comparison.AtMost a b equality h t = cc
  compare_meets comparison.Greater a b equality h t = cc
  compare_meets comparison.AtLeast a b equality h t = cc

  layer_meets : (x : Cond-F Cond) (equality : Equality) → equality_in x ≡ Some equality → truth row [] (roll-Cond x) ≡ True → Meets equality
  layer_meets (Cond-F.Compare c a b) equality h t = compare_meets c a b equality h (sym (fold-roll-Cond Truth (cond_step row []) (Cond-F.Compare c a b)) ∙ t)
  layer_meets (Cond-F.IsNull a) equality h t = cc
  layer_meets (Cond-F.Exists slot) equality h t = cc
  layer_meets (Cond-F.Is part truth) equality h t = cc
  layer_meets (Cond-F.Not part) equality h t = cc
  layer_meets (Cond-F.And parts) equality h t = cc
  layer_meets (Cond-F.Or parts) equality h t = cc

  -- a part that is true has its column at its literal
  part_meets : (part : Cond) (equality : Equality) → equality_in (out-Cond part) ≡ Some equality → truth row [] part ≡ True → Meets equality
  part_meets part equality h t = layer_meets (out-Cond part) equality h (ap (truth row []) (roll-out-Cond part) ∙ t)

  abbrev AreTrue : List Cond → Type 0
  AreTrue parts = Each (λ part. truth row [] part ≡ True) parts

  all_true : (parts : List Cond) → all_of (map (truth row []) parts) ≡ True → AreTrue parts
  all_true [] h = tt
  all_true (part ∷ rest) h = let both = and_of-True (truth row [] part) (all_of (map (truth row []) rest)) h in (both.0, all_true rest both.1)

  layer_parts : (whole : Cond) (x : Cond-F Cond) → truth row [] whole ≡ True → truth row [] (roll-Cond x) ≡ True → AreTrue (parts_in whole x)
  layer_parts whole (Cond-F.And parts) w t = all_true parts (sym (fold-roll-Cond Truth (cond_step row []) (Cond-F.And parts)) ∙ t)
  layer_parts whole (Cond-F.Compare c a b) w t = (w, tt)
  layer_parts whole (Cond-F.IsNull a) w t = (w, tt)
  layer_parts whole (Cond-F.Exists slot) w t = (w, tt)
  layer_parts whole (Cond-F.Is part truth) w t = (w, tt)
  layer_parts whole (Cond-F.Not part) w t = (w, tt)
  layer_parts whole (Cond-F.Or parts) w t = (w, tt)

  -- the parts of a condition that is true are true
  parts_true : (condition : Cond) → truth row [] condition ≡ True → AreTrue (top_parts condition)
  parts_true condition t = layer_parts condition (out-Cond condition) t (ap (truth row []) (roll-out-Cond condition) ∙ t)

  on_column : (column : ℕ) (part : Cond) → truth row [] part ≡ True → (o : Option Equality) → equality_in (out-Cond part) ≡ o → is_on column o ≡ true
      → (equality : Equality) × ((equality_in (out-Cond part) ≡ Some equality) × ((value_in column row ≡ equality.value)))
  on_column column part t None e h = let no : ⊥ = cc in absurd no
  on_column column part t (Some equality) e h = (equality, (e, ap (λ c. value_in c row) (sym (eqb-true equality.column column h)) ∙ part_meets part equality e t))

  first_on_cases : (column : ℕ) (parts : List Cond) → AreTrue parts
      → (first_on column parts ≡ None) ⊎ ((equality : Equality) × ((first_on column parts ≡ Some equality) × (value_in column row ≡ equality.value)))
  first_on_cases column [] h = inl refl
  first_on_cases column (part ∷ rest) h = elim (cases_Bool (is_on column (equality_in (out-Cond part)))) [
    | inl on ↦
        let found = on_column column part h.0 (equality_in (out-Cond part)) refl on in
        inr (found.0, (ap (λ b. cond b (equality_in (out-Cond part)) (first_on column rest)) on ∙ found.1.0, found.1.1))
    | inr off ↦
        let step : first_on column (part ∷ rest) ≡ first_on column rest = ap (λ b. cond b (equality_in (out-Cond part)) (first_on column rest)) off in
        elim (first_on_cases column rest h.1) [ inl none ↦ inl (step ∙ none) | inr found ↦ inr (found.0, (step ∙ found.1.0, found.1.1)) ]
  ]

  first_equality_cases : (parts : List Cond) → AreTrue parts → (first_equality parts ≡ None) ⊎ ((equality : Equality) × ((first_equality parts ≡ Some equality) × Meets equality))
  first_equality_cases [] h = inl refl
  first_equality_cases (part ∷ rest) h = go (equality_in (out-Cond part)) refl (first_equality_cases rest h.1)
    where
      go : (o : Option Equality) → equality_in (out-Cond part) ≡ o → (first_equality rest ≡ None) ⊎ ((equality : Equality) × ((first_equality rest ≡ Some equality) × Meets equality))
          → (option_or (equality_in (out-Cond part)) (first_equality rest) ≡ None) ⊎ ((equality : Equality) × ((option_or (equality_in (out-Cond part)) (first_equality rest) ≡ Some equality) × Meets equality))
      go None e (inl none) = inl (ap (λ o. option_or o (first_equality rest)) e ∙ none)
      go None e (inr found) = inr (found.0, (ap (λ o. option_or o (first_equality rest)) e ∙ found.1.0, found.1.1))
      go (Some equality) e more = inr (equality, (ap (λ o. option_or o (first_equality rest)) e, part_meets part equality e h.0))

-- a row that the condition keeps is under the condition's key, at its place
pub where_under : (table key : ℕ) (condition : Cond) (row : RowValues) → keeps row [] condition ≡ true → is_under (filter_key table key condition) (record { table = table; key = value_in key row }) row ≡ true
where_under table key condition row keep = go (first_on_cases row key (top_parts condition) parts) (first_equality_cases row (top_parts condition) parts)
  where
    parts : Each (λ part. truth row [] part ≡ True) (top_parts condition)
    parts = parts_true row condition (is_of-True (truth row [] condition) keep)

    there : table == table ≡ true
    there = eq-eqb table table refl

    same : (v w : Value) → v ≡ w → same_value w v ≡ true
    same v w e = subst (λ x. same_value x v ≡ true) e (same_value-refl v)

    go : (first_on key (top_parts condition) ≡ None) ⊎ ((equality : Equality) × ((first_on key (top_parts condition) ≡ Some equality) × (value_in key row ≡ equality.value)))
        → (first_equality (top_parts condition) ≡ None) ⊎ ((equality : Equality) × ((first_equality (top_parts condition) ≡ Some equality) × Meets row equality))
        → is_under (key_from table (first_on key (top_parts condition)) (first_equality (top_parts condition))) (record { table = table; key = value_in key row }) row ≡ true
    go (inr found) other =
        ap (λ o. is_under (key_from table o (first_equality (top_parts condition))) (record { table = table; key = value_in key row }) row) found.1.0
        ∙ and_from (table == table) (same_value found.0.value (value_in key row)) there (same (value_in key row) found.0.value found.1.1)
    go (inl none) (inr found) =
        (λ i. is_under (key_from table (none i) (found.1.0 i)) (record { table = table; key = value_in key row }) row)
        ∙ and_from (table == table) (same_value found.0.value (value_in found.0.column row)) there (same (value_in found.0.column row) found.0.value found.1.1)
    go (inl none) (inl nothing) = (λ i. is_under (key_from table (none i) (nothing i)) (record { table = table; key = value_in key row }) row) ∙ there

-- states with the same rows under a condition's key have the same rows that it keeps, in the same order
pub found_same : (layouts : List Layout) (one other : State) → IsOrdered layouts one → IsOrdered layouts other → (table : ℕ) (condition : Cond)
    → SameUnder (row_in layouts) (filter_key table (key_of table layouts) condition) one other → found_rows one table condition ≡ found_rows other table condition
found_same layouts one other f g table condition h =
    filtered_same layouts one other f g table (filter_key table (key_of table layouts) condition) (λ row. keeps row [] condition) (λ row on. where_under table (key_of table layouts) condition row on) h
