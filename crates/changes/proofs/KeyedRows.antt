-- Rows in order and in runs, beside the values by which they are compared.
use Rattle.std.proofs.Common.{◌≡◌, ◌∙◌, ℕ, false, List, [], ◌∷◌, length, map, ap}
use Rattle.std.specs.Prelude.{All, ◌==◌}
use Rattle.std.specs.Cmp.Lexicographic.{slice_cmp, lists_total}
use Rattle.std.specs.List.Sorted.{IsSorted, IsStable}
use Rattle.std.proofs.lemmas.List.Sorted.{ranks_by}
use Rattle.value.specs.ValueOrder.{value_cmp}
use Rattle.value.specs.declared.values.Value.{Value}
use Rattle.value.proofs.ValueOrders.{value_cmp_total}
use Rattle.table.specs.Rows.{RowValues, value_in}
use Rattle.alone.specs.Groups.{compare_by, groups_by, groups_of, in_order, runs}
use Rattle.changes.specs.Keyed.{IsKeyed, compare_keyed, row_of, values_of}
use Rattle.changes.specs.declared.groupings.KeyedRow.{KeyedRow}
use Rattle.changes.proofs.Runs.{in_order_all, in_order_mapped, runs_mapped}
use Rattle.changes.proofs.Sorting.{sorted_is_in_order}

-- the runs of rows that were sorted are the groups of the rows
sorted_groups : (columns : List ℕ) (keyed sorted : List KeyedRow) → All (IsKeyed columns) keyed → IsSorted compare_keyed sorted → IsStable compare_keyed keyed sorted
    → map (map row_of) (runs compare_keyed sorted) ≡ groups_by (λ row. map (λ c. value_in c row) columns) (map row_of keyed)
sorted_groups columns keyed sorted all rises stable =
    let values : RowValues → List Value = λ row. map (λ c. value_in c row) columns in
    let same = λ (x y : KeyedRow) (p : IsKeyed columns x) (q : IsKeyed columns y). ap (λ v. slice_cmp value_cmp v (values_of y)) p ∙ ap (slice_cmp value_cmp (values (row_of x))) q in
    ap (λ l. map (map row_of) (runs compare_keyed l)) (sorted_is_in_order compare_keyed (ranks_by (lists_total value_cmp_total) values_of) keyed sorted rises stable)
    ∙ runs_mapped compare_keyed (compare_by values) row_of (IsKeyed columns) same (in_order compare_keyed keyed) (in_order_all compare_keyed (IsKeyed columns) keyed all)
    ∙ ap (runs (compare_by values)) (in_order_mapped compare_keyed (compare_by values) row_of (IsKeyed columns) same keyed all)

-- where there are columns
pub groups_are : (columns : List ℕ) (keyed sorted : List KeyedRow) → (length columns == 0) ≡ false
    → All (IsKeyed columns) keyed → IsSorted compare_keyed sorted → IsStable compare_keyed keyed sorted
    → map (map row_of) (runs compare_keyed sorted) ≡ groups_of columns (map row_of keyed)
groups_are [] keyed sorted some all rises stable = cc
groups_are (column ∷ columns) keyed sorted some all rises stable = sorted_groups (column ∷ columns) keyed sorted all rises stable
