-- The new rows of a net change fit their tables.
use Rattle.std.proofs.Common.{◌≡◌, ℕ, List, Option, Some, None, sym, ap, subst}
use Rattle.std.specs.Prelude.{All, Contains}
use Rattle.std.proofs.lemmas.List.Elements.{All-from_recursion}
use Rattle.value.specs.declared.values.Value.{Value}
use Rattle.value.specs.ValueOrder.{value_cmp}
use Rattle.value.specs.Ordered.{HoldsOf}
use Rattle.table.specs.declared.rows.Change.{Change}
use Rattle.table.specs.Rows.{FitsColumns, Layout, RowValues, row_at, value_in, key_of, layout_at}
use Rattle.assertion.specs.Meaning.{State, rows_of}
use Rattle.alone.specs.States.{net_change}
use Rattle.alone.proofs.Lists.{each_from}
use Rattle.alone.proofs.Nets.{at_in, net_exact}
use Rattle.delta.specs.Views.{IsFitting}
use Rattle.txn.specs.Fitting.{RowsFit}

module _ (layouts : List Layout) (before after : State) (fitting : RowsFit layouts after) where
  fits_at : (table : ℕ) (row : Option RowValues) (k : Value) → row ≡ row_at (key_of table layouts) k (rows_of table after)
      → HoldsOf (FitsColumns (layout_at table layouts).columns) row
  fits_at table None k e = tt
  fits_at table (Some row) k e =
      let found = at_in value_cmp (value_in (key_of table layouts)) k (rows_of table after) row (sym e) in
      subst (FitsColumns (layout_at table layouts).columns) found.2 (fitting table found.0 row found.1)

  pub fits : (change : Change) → Contains (net_change layouts before after) change → IsFitting layouts change
  fits change m = fits_at change.table change.new change.key (ap (λ (c : Change). c.new) (net_exact layouts before after change m).0)

  pub net_fits : All (IsFitting layouts) (net_change layouts before after)
  net_fits = All-from_recursion (IsFitting layouts) (net_change layouts before after) (each_from (IsFitting layouts) (net_change layouts before after) fits)
