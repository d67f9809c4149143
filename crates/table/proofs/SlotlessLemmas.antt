-- What slots change: nothing where there are none, and no bound where they hold a row's values.
use Rattle.std.proofs.Common.{◌≡◌, ℕ, zero, suc, Bool, false, List, [], ◌∷◌, Option, Some, map, refl, sym, ◌∙◌, ap, subst}
use Rattle.std.specs.Prelude.{◌&&◌, is_some}
use Rattle.std.proofs.lemmas.Bool.{or_parts}
use Rattle.value.specs.declared.values.Value.{Value}
use Rattle.value.specs.declared.truths.Truth.{Truth}
use Rattle.table.specs.Rows.{RowValues}
use Rattle.table.specs.declared.slots.SlotKind.TheVariants.{Extreme}
use Rattle.table.specs.declared.exprs.Expr.{Expr}
use Rattle.table.specs.declared.exprs.Expr.TheOpen.{Expr-F}
use Rattle.table.specs.declared.exprs.Expr.TheFolds.{map-Expr, fold-Expr, fold-roll-Expr, ind-Expr}
use Rattle.table.specs.declared.conds.Cond.{Cond}
use Rattle.table.specs.declared.conds.Cond.TheOpen.{Cond-F}
use Rattle.table.specs.declared.conds.Cond.TheFolds.{map-Cond, fold-Cond, fold-roll-Cond, ind-Cond}
use Rattle.table.specs.Bounds.{limit_at, bound_step, bound_of, bounded_step, is_bounded}
use Rattle.table.specs.Eval.{expr_step, answer, cond_step, truth}
use Rattle.table.specs.Slotless.{some_true, slots_step, expression_has_slots, condition_slots_step, has_slots}

-- maps of lists of parts that agree on each part
maps_agree : {X A : Type 0} (f g : X → A) (parts : List ((x : X) × (f x ≡ g x))) → map f (map (λ e. e.0) parts) ≡ map g (map (λ e. e.0) parts)
maps_agree f g [] = refl
maps_agree f g (e ∷ parts) = ap (λ a. a ∷ map f (map (λ e. e.0) parts)) e.1 ∙ ap (λ rest. g e.0 ∷ rest) (maps_agree f g parts)

-- folds whose steps agree
module _ {A : Type 0} (f g : Expr-F A → A) (same : (x : Expr-F A) → f x ≡ g x) where
  expressions_layer : (y : Expr-F ((e : Expr) × (fold-Expr A f e ≡ fold-Expr A g e)))
      → map-Expr Expr A (fold-Expr A f) (map-Expr ((e : Expr) × (fold-Expr A f e ≡ fold-Expr A g e)) Expr (λ e. e.0) y)
      ≡ map-Expr Expr A (fold-Expr A g) (map-Expr ((e : Expr) × (fold-Expr A f e ≡ fold-Expr A g e)) Expr (λ e. e.0) y)
  expressions_layer (Expr-F.Literal v) = refl
  expressions_layer (Expr-F.Column column) = refl
  expressions_layer (Expr-F.Slot slot) = refl
  expressions_layer (Expr-F.Negation part) = ap Expr-F.Negation part.1
  expressions_layer (Expr-F.Sum parts) = ap Expr-F.Sum (maps_agree (fold-Expr A f) (fold-Expr A g) parts)
  expressions_layer (Expr-F.Product parts) = ap Expr-F.Product (maps_agree (fold-Expr A f) (fold-Expr A g) parts)

  expressions_agree : (e : Expr) → fold-Expr A f e ≡ fold-Expr A g e
  expressions_agree = ind-Expr (λ e. fold-Expr A f e ≡ fold-Expr A g e) (λ x y is.
      fold-roll-Expr A f x ∙ same (map-Expr Expr A (fold-Expr A f) x)
      ∙ ap g (subst (λ z. map-Expr Expr A (fold-Expr A f) z ≡ map-Expr Expr A (fold-Expr A g) z) is (expressions_layer y))
      ∙ sym (fold-roll-Expr A g x))

module _ {A : Type 0} (f g : Cond-F A → A) (same : (x : Cond-F A) → f x ≡ g x) where
  conditions_layer : (y : Cond-F ((c : Cond) × (fold-Cond A f c ≡ fold-Cond A g c)))
      → map-Cond Cond A (fold-Cond A f) (map-Cond ((c : Cond) × (fold-Cond A f c ≡ fold-Cond A g c)) Cond (λ e. e.0) y)
      ≡ map-Cond Cond A (fold-Cond A g) (map-Cond ((c : Cond) × (fold-Cond A f c ≡ fold-Cond A g c)) Cond (λ e. e.0) y)
  conditions_layer (Cond-F.Compare comparison a b) = refl
  conditions_layer (Cond-F.IsNull a) = refl
  conditions_layer (Cond-F.Exists slot) = refl
  conditions_layer (Cond-F.Is part wanted) = ap (λ p. Cond-F.Is p wanted) part.1
  conditions_layer (Cond-F.Not part) = ap Cond-F.Not part.1
  conditions_layer (Cond-F.And parts) = ap Cond-F.And (maps_agree (fold-Cond A f) (fold-Cond A g) parts)
  conditions_layer (Cond-F.Or parts) = ap Cond-F.Or (maps_agree (fold-Cond A f) (fold-Cond A g) parts)

  conditions_agree : (c : Cond) → fold-Cond A f c ≡ fold-Cond A g c
  conditions_agree = ind-Cond (λ c. fold-Cond A f c ≡ fold-Cond A g c) (λ x y is.
      fold-roll-Cond A f x ∙ same (map-Cond Cond A (fold-Cond A f) x)
      ∙ ap g (subst (λ z. map-Cond Cond A (fold-Cond A f) z ≡ map-Cond Cond A (fold-Cond A g) z) is (conditions_layer y))
      ∙ sym (fold-roll-Cond A g x))

-- a row's values in slots have the bound that a slot has that isn't there
limit_of_row : (row : RowValues) (slot : ℕ) → limit_at (map (λ v. Extreme) row) slot ≡ limit_at [] slot
limit_of_row [] slot = refl
limit_of_row (v ∷ row) zero = refl
limit_of_row (v ∷ row) (suc slot) = limit_of_row row slot

bound_step_of_row : (row : RowValues) (x : Expr-F (Option ℕ)) → bound_step (map (λ v. Extreme) row) x ≡ bound_step [] x
bound_step_of_row row (Expr-F.Literal v) = refl
bound_step_of_row row (Expr-F.Column column) = refl
bound_step_of_row row (Expr-F.Slot slot) = ap Some (limit_of_row row slot)
bound_step_of_row row (Expr-F.Negation part) = refl
bound_step_of_row row (Expr-F.Sum parts) = refl
bound_step_of_row row (Expr-F.Product parts) = refl

bound_of_row : (row : RowValues) (e : Expr) → bound_of (map (λ v. Extreme) row) e ≡ bound_of [] e
bound_of_row row = expressions_agree (bound_step (map (λ v. Extreme) row)) (bound_step []) (bound_step_of_row row)

bounded_step_of_row : (row : RowValues) (x : Cond-F Bool) → bounded_step (map (λ v. Extreme) row) x ≡ bounded_step [] x
bounded_step_of_row row (Cond-F.Compare comparison a b) =
    ap (λ m. is_some m && is_some (bound_of (map (λ v. Extreme) row) b)) (bound_of_row row a)
    ∙ ap (λ n. is_some (bound_of [] a) && is_some n) (bound_of_row row b)
bounded_step_of_row row (Cond-F.IsNull a) = ap is_some (bound_of_row row a)
bounded_step_of_row row (Cond-F.Exists slot) = refl
bounded_step_of_row row (Cond-F.Is part wanted) = refl
bounded_step_of_row row (Cond-F.Not part) = refl
bounded_step_of_row row (Cond-F.And parts) = refl
bounded_step_of_row row (Cond-F.Or parts) = refl

-- so what is bounded without slots is bounded with a row's values in them
pub bounded_beside : (row : RowValues) (c : Cond) → is_bounded (map (λ v. Extreme) row) c ≡ is_bounded [] c
bounded_beside row = conditions_agree (bounded_step (map (λ v. Extreme) row)) (bounded_step []) (bounded_step_of_row row)

-- ---- without slots

some_parts : {X A : Type 0} (has : X → Bool) (f g : X → A) (parts : List ((x : X) × (has x ≡ false → f x ≡ g x))) → some_true (map has (map (λ e. e.0) parts)) ≡ false
    → map f (map (λ e. e.0) parts) ≡ map g (map (λ e. e.0) parts)
some_parts has f g [] h = refl
some_parts has f g (e ∷ parts) h =
    let both : (has e.0 ≡ false) × (some_true (map has (map (λ e. e.0) parts)) ≡ false) = or_parts (has e.0) (some_true (map has (map (λ e. e.0) parts))) h in
    ap (λ a. a ∷ map f (map (λ e. e.0) parts)) (e.1 both.0) ∙ ap (λ rest. g e.0 ∷ rest) (some_parts has f g parts both.1)

module _ (row : RowValues) (slots others : List Value) where
  abbrev IsAnswered : Expr → Type 0
  IsAnswered e = expression_has_slots e ≡ false → answer row slots e ≡ answer row others e

  answers_layer : (y : Expr-F ((e : Expr) × IsAnswered e)) → slots_step (map-Expr Expr Bool expression_has_slots (map-Expr ((e : Expr) × IsAnswered e) Expr (λ e. e.0) y)) ≡ false
      → expr_step row slots (map-Expr Expr Value (answer row slots) (map-Expr ((e : Expr) × IsAnswered e) Expr (λ e. e.0) y))
      ≡ expr_step row others (map-Expr Expr Value (answer row others) (map-Expr ((e : Expr) × IsAnswered e) Expr (λ e. e.0) y))
  answers_layer (Expr-F.Literal v) h = refl
  answers_layer (Expr-F.Column column) h = refl
  answers_layer (Expr-F.Slot slot) h = cc
  answers_layer (Expr-F.Negation part) h = ap (λ v. expr_step row slots (Expr-F.Negation v)) (part.1 h)
  answers_layer (Expr-F.Sum parts) h = ap (λ vs. expr_step row slots (Expr-F.Sum vs)) (some_parts expression_has_slots (answer row slots) (answer row others) parts h)
  answers_layer (Expr-F.Product parts) h = ap (λ vs. expr_step row slots (Expr-F.Product vs)) (some_parts expression_has_slots (answer row slots) (answer row others) parts h)

  pub slotless_answer : (e : Expr) → expression_has_slots e ≡ false → answer row slots e ≡ answer row others e
  slotless_answer = ind-Expr IsAnswered (λ x y is h.
      fold-roll-Expr Value (expr_step row slots) x
      ∙ subst (λ z. slots_step (map-Expr Expr Bool expression_has_slots z) ≡ false → expr_step row slots (map-Expr Expr Value (answer row slots) z) ≡ expr_step row others (map-Expr Expr Value (answer row others) z)) is (answers_layer y)
      (sym (fold-roll-Expr Bool slots_step x) ∙ h)
      ∙ sym (fold-roll-Expr Value (expr_step row others) x))

  abbrev IsJudged : Cond → Type 0
  IsJudged c = has_slots c ≡ false → truth row slots c ≡ truth row others c

  truths_layer : (y : Cond-F ((c : Cond) × IsJudged c)) → condition_slots_step (map-Cond Cond Bool has_slots (map-Cond ((c : Cond) × IsJudged c) Cond (λ e. e.0) y)) ≡ false
      → cond_step row slots (map-Cond Cond Truth (truth row slots) (map-Cond ((c : Cond) × IsJudged c) Cond (λ e. e.0) y))
      ≡ cond_step row others (map-Cond Cond Truth (truth row others) (map-Cond ((c : Cond) × IsJudged c) Cond (λ e. e.0) y))
  truths_layer (Cond-F.Compare comparison a b) h =
      let both : (expression_has_slots a ≡ false) × (expression_has_slots b ≡ false) = or_parts (expression_has_slots a) (expression_has_slots b) h in
      rw (slotless_answer a both.0, slotless_answer b both.1) refl
  truths_layer (Cond-F.IsNull a) h = rw (slotless_answer a h) refl
  truths_layer (Cond-F.Exists slot) h = cc
  truths_layer (Cond-F.Is part wanted) h = ap (λ t. cond_step row slots (Cond-F.Is t wanted)) (part.1 h)
  truths_layer (Cond-F.Not part) h = ap (λ t. cond_step row slots (Cond-F.Not t)) (part.1 h)
  truths_layer (Cond-F.And parts) h = ap (λ ts. cond_step row slots (Cond-F.And ts)) (some_parts has_slots (truth row slots) (truth row others) parts h)
  truths_layer (Cond-F.Or parts) h = ap (λ ts. cond_step row slots (Cond-F.Or ts)) (some_parts has_slots (truth row slots) (truth row others) parts h)

  -- a condition without slots has the same truth over any
  pub slotless_truth : (c : Cond) → has_slots c ≡ false → truth row slots c ≡ truth row others c
  slotless_truth = ind-Cond IsJudged (λ x y is h.
      fold-roll-Cond Truth (cond_step row slots) x
      ∙ subst (λ z. condition_slots_step (map-Cond Cond Bool has_slots z) ≡ false → cond_step row slots (map-Cond Cond Truth (truth row slots) z) ≡ cond_step row others (map-Cond Cond Truth (truth row others) z)) is (truths_layer y)
      (sym (fold-roll-Cond Bool condition_slots_step x) ∙ h)
      ∙ sym (fold-roll-Cond Truth (cond_step row others) x))
