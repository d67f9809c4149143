-- Rows that are each kept under their key.
use Rattle.std.specs.Prelude.{◌≡◌, ℕ, List, [], ◌∷◌}
use Rattle.table.specs.Rows.{RowValues, value_in}
use Rattle.value.specs.declared.values.Value.{Value}

-- the rows alone
abbrev pub rows_of : List (Value × RowValues) → List RowValues
rows_of [] = []
rows_of (entry ∷ entries) = entry.1 ∷ rows_of entries

-- each is under its value in the column
abbrev pub AreKeyed : ℕ → List (Value × RowValues) → Type 0
AreKeyed column [] = Unit {0}
AreKeyed column (entry ∷ entries) = (entry.0 ≡ value_in column entry.1) × AreKeyed column entries
