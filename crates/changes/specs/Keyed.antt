-- Rows beside the values by which they are compared.
use Rattle.std.specs.Prelude.{◌≡◌, ℕ, suc, List, [], ◌∷◌, map, cond}
use Rattle.std.specs.Cmp.Lexicographic.{slice_cmp}
use Rattle.std.specs.Ordering.{is_eq}
use Rattle.std.specs.declared.cmp.Ordering.{Ordering}
use Rattle.value.specs.ValueOrder.{value_cmp}
use Rattle.value.specs.declared.values.Value.{Value}
use Rattle.table.specs.Rows.{RowValues, value_in}
use Rattle.changes.specs.declared.groupings.KeyedRow.{KeyedRow}

-- the values by which it is compared
abbrev pub values_of : KeyedRow → List Value
values_of keyed = keyed.values.items

-- the row itself
abbrev pub row_of : KeyedRow → RowValues
row_of keyed = keyed.row.now

-- how two of them compare
abbrev pub compare_keyed : KeyedRow → KeyedRow → Ordering
compare_keyed x y = slice_cmp value_cmp (values_of x) (values_of y)

-- it stands beside its values in these columns
abbrev pub IsKeyed : List ℕ → KeyedRow → Type 0
IsKeyed columns keyed = values_of keyed ≡ map (λ c. value_in c (row_of keyed)) columns

-- how many items the first of some runs has
abbrev pub run_length : {X : Type 0} → (X → X → Ordering) → List X → ℕ
run_length compare [] = 0
run_length compare (x ∷ []) = 1
run_length compare (x ∷ y ∷ ys) = cond (is_eq (compare x y)) (suc (run_length compare (y ∷ ys))) 1
