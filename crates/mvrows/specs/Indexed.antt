-- Rows that can be looked up by some of their columns.
use Rattle.std.specs.Prelude.{◌≡◌, ℕ, List, ◌++◌, Option, All}
use Rattle.value.specs.declared.values.Value.{Value}
use Rattle.value.specs.ValueOrder.{value_cmp}
use Rattle.value.specs.Ordered.{HasKey, IsAscending}
use Rattle.table.specs.Rows.{RowValues, value_in, row_at}
use Rattle.groups.specs.Indexes.{IsIndexOf}
use Rattle.mvrows.specs.Keyed.{rows_of, AreKeyed}
use Rattle.mvrows.specs.declared.indexes.ColumnIndex.{ColumnIndex}

-- each is the index of these rows by its column
abbrev pub AreIndexesOf : ℕ → List RowValues → List ColumnIndex → Type 0
AreIndexesOf key rows indexes = All (λ (it : ColumnIndex). IsIndexOf key it.column rows it.index) indexes

-- in rows in order the old one stands under the key, and the new one has it
pub record IsReplacement (key : ℕ) (k : Value) (old new : Option RowValues) (rows : List RowValues) : Type 0 where
  pub ordered : IsAscending value_cmp (value_in key) rows
  pub stands : row_at key k rows ≡ old
  pub keyed : HasKey value_cmp (value_in key) k new

-- each row is under its key in the column, and the indexes are theirs
pub record IsVersion (column : ℕ) (entries : List (Value × RowValues)) (indexes : List ColumnIndex) : Type 0 where
  pub keyed : AreKeyed column entries
  pub indexed : AreIndexesOf column (rows_of entries) indexes

-- the first entries, before those that are left, and the index of their rows
pub record IsIndexSoFar (key column : ℕ) (all left : List (Value × RowValues)) (index : List (Value × List Value))
    : Type 0 where
  pub first : List (Value × RowValues)
  pub split : first ++ left ≡ all
  pub indexed : IsIndexOf key column (rows_of first) index
