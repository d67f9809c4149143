-- What the test of a change finds out.
use Rattle.std.proofs.Common.{◌≡◌, Bool, true, false, cond, List, [], ◌∷◌, length, Option, Some, None, refl, arith}
use Rattle.std.specs.Prelude.{◌&&◌, nat_lt}
use Rattle.std.specs.Option.{is_none}
use Rattle.std.proofs.lemmas.Bool.{and_parts, and_right, ltb-true}
use Rattle.value.specs.declared.refusals.Refusal.{Refusal}
use Rattle.value.specs.declared.refusals.Refusal.TheVariants.{TypeMismatch}
use Rattle.value.specs.declared.values.Value.{Value}
use Rattle.value.specs.ValueOrder.{value_cmp}
use Rattle.value.specs.Ordered.{HasKey, HoldsOf}
use Rattle.table.specs.declared.schemas.Column.{Column}
use Rattle.table.specs.declared.rows.Change.{Change}
use Rattle.table.specs.Faults.{are_typed, row_fault, row_refusal}
use Rattle.table.specs.Rows.{FitsColumns, Layout, RowValues, key_of, layout_at, row_at, value_in}
use Rattle.table.proofs.RowLemmas.{FitsColumns-of}
use Rattle.assertion.specs.Changes.{IsChangeOf}
use Rattle.assertion.specs.Meaning.{State, rows_of}
use Rattle.delta.specs.Views.{IsFitting}
use Rattle.siread.specs.Keys.{same_value}
use Rattle.siread.proofs.KeyOrder.{same_value-true}
use Rattle.alone.specs.States.{same_row, same_there}
use Rattle.alone.proofs.Stores.{same_there-true}
use Rattle.durable.specs.Restoring.{is_due, is_row_for}

none_from : (o : Option Refusal) → is_none o ≡ true → o ≡ None
none_from None h = refl
none_from (Some r) h = cc

row_fits : (columns : List Column) (row : RowValues) (typed : Bool) → are_typed columns row ≡ typed → cond typed (row_fault columns row) (Some TypeMismatch) ≡ None → FitsColumns columns row
row_fits columns row true typed e = FitsColumns-of columns row typed e
row_fits columns row false typed e = cc

-- a row that an INSERT takes
admitted : (columns : List Column) (row : RowValues) → is_none (row_refusal columns row) ≡ true → FitsColumns columns row
admitted columns row h = row_fits columns row (are_typed columns row) refl (none_from (row_refusal columns row) h)

keyed_from : (layout : Layout) (key : Value) (new : Option RowValues) → is_row_for layout key new ≡ true → HasKey value_cmp (value_in layout.key) key new
keyed_from layout key None h = tt
keyed_from layout key (Some row) h = same_value-true (value_in layout.key row) key (and_parts (is_none (row_refusal layout.columns row)) (same_value (value_in layout.key row) key) h).1

fitting_from : (layout : Layout) (key : Value) (new : Option RowValues) → is_row_for layout key new ≡ true → HoldsOf (FitsColumns layout.columns) new
fitting_from layout key None h = tt
fitting_from layout key (Some row) h = admitted layout.columns row (and_parts (is_none (row_refusal layout.columns row)) (same_value (value_in layout.key row) key) h).0

module _ (layouts : List Layout) (change : Change) (state : State) where
  abbrev pub stands : Bool
  stands = same_there (row_at (key_of change.table layouts) change.key (rows_of change.table state)) change.old

  abbrev pub row_for : Bool
  row_for = is_row_for (layout_at change.table layouts) change.key change.new

  -- a change that is due is one of the tables
  pub due_is : is_due layouts change state ≡ true → IsChangeOf layouts change state
  due_is h =
      let p = and_parts (nat_lt change.table (length state)) (stands && row_for) h in
      let q = and_parts stands row_for p.1 in
      record {
        table_in = ltb-true _ _ p.0;
        stands = same_there-true _ _ q.0;
        keyed = keyed_from (layout_at change.table layouts) change.key change.new q.1;
      }

  -- and its new row fits
  pub due_fits : is_due layouts change state ≡ true → IsFitting layouts change
  due_fits h =
      let p = and_parts (nat_lt change.table (length state)) (stands && row_for) h in
      fitting_from (layout_at change.table layouts) change.key change.new (and_parts stands row_for p.1).1
