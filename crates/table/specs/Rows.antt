-- Rows, what it means that a row fits the columns of its table, and a table's rows in key order.
use Rattle.std.specs.Prelude.{◌≡◌, ℕ, ◌≤◌, ◌^◌, IsTrue, length, All, List, [], ◌∷◌, Option, slice_index_or, unsigned_abs, nat_eq, position, map}
use Rattle.std.specs.Map.{lookup}
use Rattle.std.specs.Cmp.Lexicographic.{pointwise}
use Rattle.value.specs.declared.values.Value.{Value}
use Rattle.value.specs.declared.values.Value.TheVariants.{Null, Int, Text}
use Rattle.value.specs.declared.values.ColType.{ColType}
use Rattle.value.specs.declared.values.ColType.TheVariants.{Integer, Varchar}
use Rattle.value.specs.ValueOrder.{value_cmp}
use Rattle.value.specs.Ordered as ordered
use Rattle.value.specs.Texts.{IsPlain, character_count}
use Rattle.table.specs.declared.schemas.Column.{Column}

-- a row is its values, by column
abbrev pub RowValues : Type 0
RowValues = List Value

-- what a table shows of its columns
pub record Layout : Type 0 where
  pub columns : List Column
  pub key : ℕ

-- a text may stand in a column of this type: it has no more characters than the column takes
abbrev pub FitsText : ColType → List ℕ → Type 0
FitsText Integer bytes = ⊥
FitsText (Varchar most) bytes = (character_count bytes ≤ most) × IsPlain bytes

-- a value may stand in a column: NULL where it takes it, else one of its type and size
abbrev pub FitsColumn : Column → Value → Type 0
FitsColumn column Null = IsTrue column.nullable
FitsColumn column (Int n) = (column.kind ≡ Integer) × (unsigned_abs n ≤ 10 ^ 15)
FitsColumn column (Text bytes) = FitsText column.kind bytes

-- a value for each column, in order, each fitting its own
abbrev pub FitsColumns : List Column → RowValues → Type 0
FitsColumns [] [] = Unit {0}
FitsColumns [] (v ∷ vs) = ⊥
FitsColumns (c ∷ cs) [] = ⊥
FitsColumns (c ∷ cs) (v ∷ vs) = FitsColumn c v × FitsColumns cs vs

-- a row's value in a column
abbrev pub value_in : ℕ → RowValues → Value
value_in column row = slice_index_or row column Null

-- a table's rows in key order, each fitting its columns
pub record IsTable (layout : Layout) (rows : List RowValues) : Type 0 where
  pub fitting : All (FitsColumns layout.columns) rows
  pub ascending : ordered.IsAscending value_cmp (value_in layout.key) rows

-- the row under a key
abbrev pub row_at : ℕ → Value → List RowValues → Option RowValues
row_at key = ordered.at value_cmp (value_in key)

-- the rows with this row under a key, or none, and no other change
abbrev pub put_row : ℕ → Value → Option RowValues → List RowValues → List RowValues
put_row key = ordered.put value_cmp (value_in key)

-- the tables of a catalog, by name, in the order of their creation
abbrev pub Tables : Type 0
Tables = List (List ℕ × Layout)

-- the columns of the table of a name
abbrev pub layout_of : List ℕ → Tables → Option Layout
layout_of name tables = lookup (pointwise nat_eq name) tables

-- the names of the tables
abbrev pub names_of : Tables → List (List ℕ)
names_of tables = map (λ table. table.0) tables

-- the columns of the tables
abbrev pub layouts_of : Tables → List Layout
layouts_of tables = map (λ table. table.1) tables

-- what the table at a place shows of its columns
abbrev pub layout_at : ℕ → List Layout → Layout
layout_at table layouts = slice_index_or layouts table (record { columns = []; key = 0 })

-- the place of a table's key column
abbrev pub key_of : ℕ → List Layout → ℕ
key_of table layouts = (layout_at table layouts).key

-- the place of the table of a name
abbrev pub position_of : List ℕ → Tables → Option ℕ
position_of name tables = position (pointwise nat_eq name) (names_of tables)

-- the place of the first column of a name
abbrev pub column_of : List ℕ → List Column → Option ℕ
column_of name columns = position (λ column. pointwise nat_eq name column.name) columns
