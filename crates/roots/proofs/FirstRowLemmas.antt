-- One row put into a table without rows.
use Rattle.std.proofs.Common.{◌≡◌, ℕ, zero, suc, ◌<◌, ◌^◌, List, [], ◌∷◌, Option, Some, None, length, refl, sym, ◌∙◌, ap, subst, arith}
use Rattle.std.specs.Prelude.{All, option_to_list}
use Rattle.std.proofs.lemmas.List.Elements.{All-nil, All-cons}
use Rattle.value.specs.Ordered.{HasKey, HoldsOf, IsAscending}
use Rattle.value.specs.ValueOrder.{value_cmp}
use Rattle.table.specs.declared.rows.Change.{Change}
use Rattle.table.specs.Rows.{RowValues, value_in, row_at, put_row}
use Rattle.table.specs.Bounds.{IsSmallRow}
use Rattle.assertion.specs.Meaning.{State, rows_of}
use Rattle.assertion.specs.Changes.{IsChangeOf, IsOrdered, state_after}
use Rattle.roots.specs.Maintained.{IsSmallState, IsStepOf}

-- one table without rows
abbrev pub no_rows_yet : State
no_rows_yet = [] ∷ []

is-empty : (t : ℕ) → rows_of t no_rows_yet ≡ []
is-empty zero = refl
is-empty (suc n) = refl

pub no_rows_yet-small : IsSmallState no_rows_yet
no_rows_yet-small = record {
  small = λ t. subst (λ (rows : List RowValues). All IsSmallRow rows) (sym (is-empty t)) (All-nil IsSmallRow);
  short = λ t. subst (λ (rows : List RowValues). length rows < 2 ^ 63) (sym (is-empty t)) (omega arith);
}

pub no_rows_yet-ordered : IsOrdered [] no_rows_yet
no_rows_yet-ordered t = subst (λ (rows : List RowValues). IsAscending value_cmp (value_in 0) rows) (sym (is-empty t)) tt

one_small : (new : Option RowValues) → HoldsOf IsSmallRow new → IsSmallState (option_to_list new ∷ [])
one_small None h = no_rows_yet-small
one_small (Some row) h = record {
  small = λ t. case_small t;
  short = λ t. case_short t;
}
  where
    case_small : (t : ℕ) → All IsSmallRow (rows_of t ((row ∷ []) ∷ []))
    case_small zero = All-cons IsSmallRow row [] h (All-nil IsSmallRow)
    case_small (suc n) = All-nil IsSmallRow

    case_short : (t : ℕ) → length (rows_of t ((row ∷ []) ∷ [])) < 2 ^ 63
    case_short zero = omega arith
    case_short (suc n) = omega arith

module _ (change : Change) (table : change.table ≡ 0) (old : change.old ≡ None) (keyed : HasKey value_cmp (value_in 0) change.key change.new) where
  pub is-change : IsChangeOf [] change no_rows_yet
  is-change = record { table_in = omega (arith, table); stands = ap (row_at 0 change.key) (is-empty change.table) ∙ sym old; keyed = keyed }

  pub after-change : state_after [] change no_rows_yet ≡ put_row 0 change.key change.new [] ∷ []
  after-change = rw table refl

  pub after-small : HoldsOf IsSmallRow change.new → IsSmallState (state_after [] change no_rows_yet)
  after-small h = subst IsSmallState (sym after-change) (one_small change.new h)

  -- it is a step of tables
  pub first_step : HoldsOf IsSmallRow change.new → (after : State) → after ≡ state_after [] change no_rows_yet → IsStepOf [] change no_rows_yet after
  first_step h after e = record {
    in_order = no_rows_yet-ordered;
    is = is-change;
    changed = e;
    small = no_rows_yet-small;
    small_after = subst IsSmallState (sym e) (after-small h);
    old_small = subst (HoldsOf IsSmallRow) (sym old) tt;
    new_small = h;
  }
