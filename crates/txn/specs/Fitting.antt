-- Rows that fit their columns.
use Rattle.std.specs.Prelude.{ℕ, List, All}
use Rattle.table.specs.Rows.{FitsColumns, Layout, layout_at}
use Rattle.assertion.specs.Meaning.{State, rows_of}

-- each row of each table fits the columns of its table
abbrev pub RowsFit : List Layout → State → Type 0
RowsFit layouts state = (table : ℕ) → All (FitsColumns (layout_at table layouts).columns) (rows_of table state)
