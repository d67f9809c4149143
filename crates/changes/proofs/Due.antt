-- The changes of a DELETE and of an UPDATE are due: in order, with the old rows that stand in the state.
use Rattle.std.proofs.Common.{◌≡◌, ℕ, false, List, [], ◌∷◌, map, refl, sym, ◌∙◌, ap, subst}
use Rattle.std.specs.Prelude.{All}
use Rattle.std.proofs.lemmas.List.Elements.{All-nil, All-cons, All-head, All-tail}
use Rattle.value.specs.Ordered.{HoldsOf}
use Rattle.table.specs.declared.rows.Change.{Change}
use Rattle.table.specs.declared.schemas.Column.{Column}
use Rattle.table.specs.Rows.{RowValues, Layout, FitsColumns, key_of}
use Rattle.table.specs.declared.conds.Cond.{Cond}
use Rattle.assertion.specs.Meaning.{State, rows_of, filtered_rows}
use Rattle.assertcheck.specs.declared.updates.Setting.{Setting}
use Rattle.alone.specs.States.{IsState, AreDue}
use Rattle.alone.specs.Statements.{columns_of, removal, renewal, row_after_settings, sets_key, delete_effect}
use Rattle.alone.proofs.Effects.{delete_doable, update_doable}
use Rattle.alone.proofs.Orders.{found_in_order, due_from}
use Rattle.delta.specs.Views.{IsFitting}
use Rattle.changes.proofs.Walks.{all_made}

module _ (layouts : List Layout) (state : State) (fit : IsState layouts state) (table key : ℕ) (restriction : Cond) (rows : List RowValues) (made : List Change) (k : key_of table layouts ≡ key) (r : rows_of table state ≡ rows) where
  same_made : (make : ℕ → RowValues → Change) → made ≡ map (make key) (filtered_rows restriction rows) → map (make (key_of table layouts)) (filtered_rows restriction (rows_of table state)) ≡ made
  same_made make m =
      ap (λ (n : ℕ). map (make n) (filtered_rows restriction (rows_of table state))) k
      ∙ ap (λ (rs : List RowValues). map (make key) (filtered_rows restriction rs)) r
      ∙ sym m

  pub removals_due : made ≡ map (removal table key) (filtered_rows restriction rows) → AreDue layouts made state
  removals_due m =
      subst (λ (cs : List Change). AreDue layouts cs state) (same_made (removal table) m)
      (due_from layouts state (delete_effect table (key_of table layouts) (filtered_rows restriction (rows_of table state))) (found_in_order layouts state fit.ordered table restriction (removal table (key_of table layouts)) (λ row. refl)) (delete_doable layouts state fit table restriction))

  pub renewals_due : (sets : List Setting) → sets_key key sets ≡ false → made ≡ map (renewal table key sets) (filtered_rows restriction rows) → AreDue layouts made state
  renewals_due sets leaves m =
      subst (λ (cs : List Change). AreDue layouts cs state) (same_made (λ n. renewal table n sets) m)
      (due_from layouts state _ (found_in_order layouts state fit.ordered table restriction (renewal table (key_of table layouts) sets) (λ row. refl)) (update_doable layouts state fit table sets restriction (ap (λ (n : ℕ). sets_key n sets) k ∙ leaves)))

-- what is taken out leaves no row to fit
pub removals_fit : (table key : ℕ) (rows : List RowValues) (made : List Change) → made ≡ map (removal table key) rows → (layouts : List Layout) → All (IsFitting layouts) made
removals_fit table key rows made m layouts = subst (All (IsFitting layouts)) (sym m) (all_made (IsFitting layouts) (removal table key) (λ row. tt) rows)

-- what fits the columns of the table fits those of its layout
pub renewals_fit : (table : ℕ) (columns : List Column) (key : ℕ) (sets : List Setting) (rows : List RowValues) (made : List Change) → made ≡ map (renewal table key sets) rows → All (λ change. HoldsOf (FitsColumns columns) change.new) made
    → (layouts : List Layout) → columns_of table layouts ≡ columns → All (IsFitting layouts) made
renewals_fit table columns key sets rows made m fit layouts l =
    subst (All (IsFitting layouts)) (sym m) (go rows (subst (All (λ (change : Change). HoldsOf (FitsColumns columns) change.new)) m fit))
  where
    go : (rows : List RowValues) → All (λ change. HoldsOf (FitsColumns columns) change.new) (map (renewal table key sets) rows) → All (IsFitting layouts) (map (renewal table key sets) rows)
    go [] h = All-nil (IsFitting layouts)
    go (row ∷ rows) h =
        All-cons (IsFitting layouts) (renewal table key sets row) (map (renewal table key sets) rows)
        (subst (λ (x : List Column). FitsColumns x (row_after_settings sets row row)) (sym l) (All-head (λ (change : Change). HoldsOf (FitsColumns columns) change.new) (renewal table key sets row) (map (renewal table key sets) rows) h))
        (go rows (All-tail (λ (change : Change). HoldsOf (FitsColumns columns) change.new) (renewal table key sets row) (map (renewal table key sets) rows) h))
