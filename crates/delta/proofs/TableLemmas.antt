-- The tables stay tables through a change.
use Rattle.std.proofs.Common.{◌≡◌, ℕ, zero, suc, ◌<◌, Bool, true, false, List, [], ◌∷◌, Option, Some, None, length, get_or, refl, sym, ◌∙◌, ap, subst}
use Rattle.std.specs.Prelude.{◌==◌, ◌^◌, All, slice_set}
use Rattle.std.proofs.lemmas.List.{get_or_default, length-set}
use Rattle.std.proofs.lemmas.List.Elements.{All-weaker}
use Rattle.value.specs.ValueOrder.{value_cmp}
use Rattle.value.specs.Ordered.{HoldsOf}
use Rattle.value.proofs.ValueOrders.{value_cmp_total}
use Rattle.value.proofs.OrderedLists.{All-at, All-put, IsAscending-put}
use Rattle.table.specs.declared.rows.Change.{Change}
use Rattle.table.specs.Rows.{RowValues, Layout, FitsColumns, IsTable, value_in, put_row, key_of, layout_at}
use Rattle.table.specs.Bounds.{IsSmallRow}
use Rattle.table.proofs.SmallRows.{IsSmallRow-fits}
use Rattle.assertion.specs.Meaning.{State, rows_of}
use Rattle.assertion.specs.Changes.{IsOrdered, IsChangeOf, state_after}
use Rattle.assertion.proofs.KeptTruth.{rows-changed, rows-same, equal_of}
use Rattle.roots.specs.Maintained.{IsSmallState}
use Rattle.delta.specs.Views.{IsFitting}
use Rattle.delta.specs.Maintained.{IsGood, IsStep}

-- tables are in key order, with numbers within the bounds of a column
pub good_order : (layouts : List Layout) (state : State) → IsGood layouts state → IsOrdered layouts state
good_order layouts state g t = (g.tables.each t).ascending

rows_are_small : (layout : Layout) (rows : List RowValues) → IsTable layout rows → All IsSmallRow rows
rows_are_small layout rows k = All-weaker (FitsColumns layout.columns) IsSmallRow (IsSmallRow-fits layout.columns) rows k.fitting

pub good_small : (layouts : List Layout) (state : State) → IsGood layouts state → IsSmallState state
good_small layouts state g = record { small = λ t. rows_are_small (layout_at t layouts) (rows_of t state) (g.tables.each t); short = g.short }

-- so are the rows of a change
pub new_small : (layouts : List Layout) (change : Change) → IsFitting layouts change → HoldsOf IsSmallRow change.new
new_small layouts change fits = small_of (layout_at change.table layouts) change.new fits
  where
    small_of : (layout : Layout) (new : Option RowValues) → HoldsOf (FitsColumns layout.columns) new → HoldsOf IsSmallRow new
    small_of layout None f = tt
    small_of layout (Some row) f = IsSmallRow-fits layout.columns row f

pub old_small : (layouts : List Layout) (change : Change) (state : State) → IsChangeOf layouts change state → IsGood layouts state → HoldsOf IsSmallRow change.old
old_small layouts change state is g =
    subst (HoldsOf IsSmallRow) is.stands
    (All-at value_cmp (value_in (key_of change.table layouts)) IsSmallRow change.key (rows_of change.table state) (rows_are_small (layout_at change.table layouts) (rows_of change.table state) (g.tables.each change.table)))

-- what is put at a place twice stands there as it was put last
pub put_twice : {X : Type 0} (xs : List X) (i : ℕ) (x y : X) → slice_set (slice_set xs i x) i y ≡ slice_set xs i y
put_twice [] i x y = refl
put_twice (z ∷ zs) zero x y = refl
put_twice (z ∷ zs) (suc i) x y = ap (λ ws. z ∷ ws) (put_twice zs i x y)

module _ (layouts : List Layout) (change : Change) (state : State) (is : IsChangeOf layouts change state) where
  -- what each table's rows have is kept where the changed rows have it
  each_kept : (P : ℕ → List RowValues → Type 0) → ((t : ℕ) → P t (rows_of t state)) → P change.table (put_row (key_of change.table layouts) change.key change.new (rows_of change.table state)) → (t : ℕ) → P t (rows_of t (state_after layouts change state))
  each_kept P all here t =
      let case : (b : Bool) → (t == change.table) ≡ b → P t (rows_of t (state_after layouts change state)) = λ b. elim b as (λ b. (t == change.table) ≡ b → P t (rows_of t (state_after layouts change state))) [
        | true ↦ λ e. subst (P t) (sym (rows-changed layouts change state is t e)) (subst (λ n. P n (put_row (key_of n layouts) change.key change.new (rows_of n state))) (sym (equal_of t change.table e)) here)
        | false ↦ λ e. subst (P t) (sym (rows-same layouts change state t e)) (all t)
      ]
      in case (t == change.table) refl

  table_after : IsGood layouts state → IsFitting layouts change → IsTable (layout_at change.table layouts) (put_row (key_of change.table layouts) change.key change.new (rows_of change.table state))
  table_after g fits =
      let t : ℕ = change.table in
      let layout : Layout = layout_at t layouts in
      record {
        fitting = All-put value_cmp (value_in layout.key) (FitsColumns layout.columns) change.key change.new (rows_of t state) fits (g.tables.each t).fitting;
        ascending = IsAscending-put value_cmp_total (value_in layout.key) change.key change.new (rows_of t state) is.keyed (g.tables.each t).ascending;
      }

  IsGood-after : IsGood layouts state → IsFitting layouts change → length (put_row (key_of change.table layouts) change.key change.new (rows_of change.table state)) < 2 ^ 63 → IsGood layouts (state_after layouts change state)
  IsGood-after g fits short = record {
    tables = record {
      long = length-set state change.table (put_row (key_of change.table layouts) change.key change.new (rows_of change.table state)) ∙ g.tables.long;
      each = each_kept (λ t rows. IsTable (layout_at t layouts) rows) g.tables.each (table_after g fits);
    };
    short = each_kept (λ t rows. length rows < 2 ^ 63) g.short short;
  }

  -- the tables with the changed rows set in their place are a step
  pub step_set : IsGood layouts state → IsFitting layouts change → (made : State) (rows base : List RowValues) (column : ℕ) → made ≡ state → rows ≡ put_row column change.key change.new base → column ≡ key_of change.table layouts → base ≡ get_or state change.table base → length rows < 2 ^ 63
      → IsStep layouts change state (slice_set made change.table rows)
  step_set g fits made rows base column e r k b short =
      let whole : rows ≡ put_row (key_of change.table layouts) change.key change.new (rows_of change.table state)
      = r ∙ ap (λ c. put_row c change.key change.new base) k ∙ ap (put_row (key_of change.table layouts) change.key change.new) (b ∙ get_or_default state change.table base [] is.table_in) in
      let set : slice_set made change.table rows ≡ state_after layouts change state = ap (λ (m : State). slice_set m change.table rows) e ∙ ap (λ (x : List RowValues). slice_set state change.table x) whole in
      record {
        good = g;
        is = is;
        fits = fits;
        changed = set;
        good_after = subst (IsGood layouts) (sym set) (IsGood-after g fits (subst (λ (x : List RowValues). length x < 2 ^ 63) whole short));
      }
