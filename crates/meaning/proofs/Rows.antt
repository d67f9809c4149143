-- Conditions over the rows of one table, and over a row of one and the row around it.
use Rattle.std.proofs.Common.{◌≡◌, ℕ, Option, Some, None, Ok, List, [], ◌∷◌, map, refl, ap, sym, ◌∙◌, subst, ⊎_elim, inl, inr}
use Rattle.std.proofs.lemmas.Option.{same_Some}
use Rattle.std.specs.Prelude.{◌⊎◌, Bool, true, false, if◌then◌else◌, option_map}
use Rattle.value.specs.declared.values.Value.{Value}
use Rattle.value.specs.declared.truths.Truth.TheVariants.{True}
use Rattle.value.specs.Truths.{is_of}
use Rattle.table.specs.Rows.{RowValues, Tables, value_in}
use Rattle.table.specs.declared.exprs.Expr.{Expr}
use Rattle.table.specs.declared.exprs.Expr.TheVariants as expr
use Rattle.table.specs.declared.conds.Cond.{Cond}
use Rattle.table.specs.declared.conds.Cond.TheViews as cond_of
use Rattle.table.specs.Eval as resolved
use Rattle.assertion.specs.Meaning.{State}
use Rattle.syntax.specs.declared.trees.ColumnName.{ColumnName}
use Rattle.syntax.specs.declared.trees.Condition.{Condition}
use Rattle.syntax.specs.declared.trees.Expression.{Expression}
use Rattle.form_check.specs.Scopes.{Scope, named_in, is_name_of, innermost, own_column}
use Rattle.form_check.specs.Leaves.{numbered, numbered_expression}
use Rattle.form_check.specs.Columns.{at_place, outer_column, in_both, of_both}
use Rattle.form_check.specs.Queries.{alone, row_condition, joint_condition, row_expression, row_filter}
use Rattle.value.specs.Results.{and_then}
use Rattle.meaning.specs.Meaning.{Reference, References, column_values, values_at, values_of, first_value, truth, evaluation_of, passes}
use Rattle.meaning.specs.Laws.{reference_to}
use Rattle.form_check.proofs.Steps.{alone_ok, and_then_ok, ok_same, mapped_some}
use Rattle.meaning.proofs.Numbering.{Fits, condition_faithful, expression_faithful, at_place_means, answer-Column, answer-Slot, truth-And}

-- the values of a name of a table
values_in : (b : Bool) (name : List ℕ) (scope : Scope) (rows : List RowValues) (further : Option Reference) (c : ℕ) → (if b then named_in name scope else None) ≡ Some c
    → values_of name (if b then Some (reference_to scope rows) else further) ≡ map (value_in c) rows
values_in true name scope rows further c e = ap (λ o. values_at o rows) e
values_in false name scope rows further c e = cc

-- a column that a table has itself has its values there
pub own_values : (scope : Scope) (rows : List RowValues) (outer : References) (column : ColumnName) (c : ℕ) → own_column scope column ≡ Some c → column_values column (reference_to scope rows ∷ outer) ≡ map (value_in c) rows
own_values scope rows outer column c is = values_in (is_name_of column.qualifier column.name scope) column.name scope rows (innermost (λ (r : Reference). r.table) column outer) c is

-- and a name that is not of a table means what it means further out
pub outer_values : (scope : Scope) (rows : List RowValues) (outer : References) (column : ColumnName) → is_name_of column.qualifier column.name scope ≡ false → column_values column (reference_to scope rows ∷ outer) ≡ column_values column outer
outer_values scope rows outer column is = ap (λ b. values_of column.name (if b then Some (reference_to scope rows) else innermost (λ (r : Reference). r.table) column outer)) is

pub own_value : (scope : Scope) (row : RowValues) (outer : References) (column : ColumnName) (c : ℕ) → own_column scope column ≡ Some c → first_value (column_values column (reference_to scope (row ∷ []) ∷ outer)) ≡ value_in c row
own_value scope row outer column c is = ap first_value (own_values scope (row ∷ []) outer column c is)

module _ (tables : Tables) (state : State) (scopes : References) (row : RowValues) (slots : List Value) (place : ColumnName → Option Expr)
    (means : (column : ColumnName) (e : Expr) → place column ≡ Some e → first_value (column_values column scopes) ≡ resolved.answer row slots e) where
  -- a condition in which columns alone stood
  alone_truth : (condition : Condition) (made : Cond) → and_then (numbered place condition []) (λ m. alone m.0 m.1) ≡ Ok made → truth tables state condition scopes ≡ resolved.truth row slots made
  alone_truth condition made e =
      let (m, (is, rest)) = and_then_ok (numbered place condition []) (λ m. alone m.0 m.1) made e in
      let (same, none) = alone_ok m.0 m.1 made rest in
      let fits = subst (Fits tables state scopes row slots) (sym none) (slots, refl) in
      (condition_faithful tables state scopes row slots place means condition [] m.0 m.1 is fits).0 ∙ ap (resolved.truth row slots) same

  -- and an expression
  alone_value : (expression : Expression) (made : Expr) → and_then (numbered_expression place expression []) (λ m. alone m.0 m.1) ≡ Ok made → (evaluation_of tables state expression).value scopes ≡ resolved.answer row slots made
  alone_value expression made e =
      let (m, (is, rest)) = and_then_ok (numbered_expression place expression []) (λ m. alone m.0 m.1) made e in
      let (same, none) = alone_ok m.0 m.1 made rest in
      let fits = subst (Fits tables state scopes row slots) (sym none) (slots, refl) in
      (expression_faithful tables state scopes row slots place means expression [] m.0 m.1 is fits).0 ∙ ap (resolved.answer row slots) same

-- ---- conditions over a row of a table

pub own_means : (tables : Tables) (state : State) (scope : Scope) (row : RowValues) (slots : List Value) (outer : References) (column : ColumnName) (e : Expr) → at_place (own_column scope) column ≡ Some e
    → first_value (column_values column (reference_to scope (row ∷ []) ∷ outer)) ≡ resolved.answer row slots e
own_means tables state scope row slots outer = at_place_means tables state (reference_to scope (row ∷ []) ∷ outer) row slots (own_column scope) (own_value scope row outer)

pub row_condition_truth : (scope : Scope) (condition : Condition) (made : Cond) → row_condition scope condition ≡ Ok made
    → (tables : Tables) (state : State) (row : RowValues) (outer : References) → truth tables state condition (reference_to scope (row ∷ []) ∷ outer) ≡ resolved.truth row [] made
row_condition_truth scope condition made e tables state row outer =
    alone_truth tables state (reference_to scope (row ∷ []) ∷ outer) row [] (at_place (own_column scope)) (own_means tables state scope row [] outer) condition made e

pub row_expression_value : (scope : Scope) (expression : Expression) (made : Expr) → row_expression scope expression ≡ Ok made
    → (tables : Tables) (state : State) (row : RowValues) (outer : References) → (evaluation_of tables state expression).value (reference_to scope (row ∷ []) ∷ outer) ≡ resolved.answer row [] made
row_expression_value scope expression made e tables state row outer =
    alone_value tables state (reference_to scope (row ∷ []) ∷ outer) row [] (at_place (own_column scope)) (own_means tables state scope row [] outer) expression made e

-- a WHERE that may be missing keeps the same rows
pub row_filter_keeps : (scope : Scope) (condition : Option Condition) (made : Cond) → row_filter scope condition ≡ Ok made
    → (tables : Tables) (state : State) (row : RowValues) (outer : References) → passes (option_map (truth tables state) condition) (reference_to scope (row ∷ []) ∷ outer) ≡ resolved.keeps row [] made
row_filter_keeps scope None made e tables state row outer =
    ap (λ t. is_of t True) (sym (truth-And tables state outer row [] [])) ∙ ap (resolved.keeps row []) (ok_same (cond_of.And []) made e)
row_filter_keeps scope (Some condition) made e tables state row outer = ap (λ t. is_of t True) (row_condition_truth scope condition made e tables state row outer)

-- ---- conditions over a row of the child and the row around it

pub outer_column_is : (child root : Scope) (column : ColumnName) (c : ℕ) → outer_column child root column ≡ Some c → (is_name_of column.qualifier column.name child ≡ false) × (own_column root column ≡ Some c)
outer_column_is child root column c e = other_test (is_name_of column.qualifier column.name child) (own_column root column) c e
  where
    other_test : (b : Bool) (o : Option ℕ) (c : ℕ) → (if b then None else o) ≡ Some c → (b ≡ false) × (o ≡ Some c)
    other_test true o c e = cc
    other_test false o c e = (refl, e)

pub outer_value : (child root : Scope) (drow row : RowValues) (outer : References) (column : ColumnName) (c : ℕ) → outer_column child root column ≡ Some c
    → first_value (column_values column (reference_to child (drow ∷ []) ∷ reference_to root (row ∷ []) ∷ outer)) ≡ value_in c row
outer_value child root drow row outer column c e =
    let (none, is) = outer_column_is child root column c e in
    ap first_value (outer_values child (drow ∷ []) (reference_to root (row ∷ []) ∷ outer) column none) ∙ own_value root row outer column c is

-- a name is of the child, or else of the row around, which stands in the slots
pub both_cases : (child root : Scope) (column : ColumnName) (e : Expr) → of_both child root column ≡ Some e
    → ((c : ℕ) × ((own_column child column ≡ Some c) × (expr.Column c ≡ e))) ⊎ ((c : ℕ) × ((outer_column child root column ≡ Some c) × (expr.Slot c ≡ e)))
both_cases child root column e is = go (own_column child column) (outer_column child root column) is
  where
    go : (own around : Option ℕ) → in_both own around ≡ Some e → ((c : ℕ) × ((own ≡ Some c) × (expr.Column c ≡ e))) ⊎ ((c : ℕ) × ((around ≡ Some c) × (expr.Slot c ≡ e)))
    go (Some c) around is = inl (c, (refl, same_Some (expr.Column c) e is))
    go None around is = inr (mapped_some expr.Slot around e is)

both_means : (tables : Tables) (state : State) (child root : Scope) (drow row : RowValues) (outer : References) (column : ColumnName) (e : Expr) → of_both child root column ≡ Some e
    → first_value (column_values column (reference_to child (drow ∷ []) ∷ reference_to root (row ∷ []) ∷ outer)) ≡ resolved.answer drow row e
both_means tables state child root drow row outer column e is =
    let scopes : References = reference_to child (drow ∷ []) ∷ reference_to root (row ∷ []) ∷ outer in
    ⊎_elim
    (λ own. own_value child drow (reference_to root (row ∷ []) ∷ outer) column own.0 own.1.0 ∙ sym (answer-Column tables state scopes drow row own.0) ∙ ap (resolved.answer drow row) own.1.1)
    (λ around. outer_value child root drow row outer column around.0 around.1.0 ∙ sym (answer-Slot tables state scopes drow row around.0) ∙ ap (resolved.answer drow row) around.1.1)
    (both_cases child root column e is)

pub joint_condition_truth : (child root : Scope) (condition : Condition) (made : Cond) → joint_condition child root condition ≡ Ok made
    → (tables : Tables) (state : State) (drow row : RowValues) (outer : References) → truth tables state condition (reference_to child (drow ∷ []) ∷ reference_to root (row ∷ []) ∷ outer) ≡ resolved.truth drow row made
joint_condition_truth child root condition made e tables state drow row outer =
    alone_truth tables state (reference_to child (drow ∷ []) ∷ reference_to root (row ∷ []) ∷ outer) drow row (of_both child root) (both_means tables state child root drow row outer) condition made e
