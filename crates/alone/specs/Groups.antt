-- Rows in order, and in groups (ISO/IEC 9075:1992, 7.7).
use Rattle.std.specs.Prelude.{ℕ, List, [], ◌∷◌, map, if◌then◌else◌}
use Rattle.std.specs.Cmp.Lexicographic.{slice_cmp}
use Rattle.std.specs.Ordering.{is_eq, is_lt}
use Rattle.std.specs.declared.cmp.Ordering.{Ordering}
use Rattle.value.specs.ValueOrder.{value_cmp}
use Rattle.value.specs.declared.values.Value.{Value}
use Rattle.table.specs.Rows.{RowValues, value_in}

module _ {X : Type 0} (compare : X → X → Ordering) where
  -- an item put before the first that does not come before it
  abbrev pub put_in_order : X → List X → List X
  put_in_order x [] = x ∷ []
  put_in_order x (y ∷ ys) = if is_lt (compare y x) then y ∷ put_in_order x ys else x ∷ y ∷ ys

  -- items in order, and those that are alike as they stood
  abbrev pub in_order : List X → List X
  in_order [] = []
  in_order (x ∷ xs) = put_in_order x (in_order xs)

  -- an item before some runs: in the first of them, if it is alike to the first item there
  abbrev pub before_runs : X → List (List X) → List (List X)
  before_runs x [] = (x ∷ []) ∷ []
  before_runs x ([] ∷ runs) = (x ∷ []) ∷ runs
  before_runs x ((y ∷ ys) ∷ runs) =
      if is_eq (compare x y) then (x ∷ y ∷ ys) ∷ runs else (x ∷ []) ∷ (y ∷ ys) ∷ runs

  -- items parted where one is not alike to the one before it
  abbrev pub runs : List X → List (List X)
  runs [] = []
  runs (x ∷ xs) = before_runs x (runs xs)

-- how two rows compare by some values of theirs, the first value first
abbrev pub compare_by : (RowValues → List Value) → RowValues → RowValues → Ordering
compare_by values row other = slice_cmp value_cmp (values row) (values other)

-- the groups of the rows that are alike in some values, NULL like another, in the order of these values
abbrev pub groups_by : (RowValues → List Value) → List RowValues → List (List RowValues)
groups_by values rows = runs (compare_by values) (in_order (compare_by values) rows)

-- the groups of some rows by columns: without any one group of all of them, also of none
abbrev pub groups_of : List ℕ → List RowValues → List (List RowValues)
groups_of [] rows = rows ∷ []
groups_of (column ∷ columns) rows = groups_by (λ row. map (λ c. value_in c row) (column ∷ columns)) rows
