-- The types of expressions, and which conditions compare and compute only what they may (SQL-92, value expressions
-- and comparisons).
use Rattle.std.specs.Prelude.{ℕ, Bool, true, false, List, Option, Some, None, slice_get, is_some, if◌then◌else◌}
use Rattle.std.specs.List.{list_all}
use Rattle.std.specs.Option.{option_map}
use Rattle.value.specs.declared.values.Value.{Value}
use Rattle.value.specs.declared.values.Value.TheVariants as value
use Rattle.value.specs.declared.values.ColType.{ColType}
use Rattle.value.specs.declared.values.ColType.TheVariants.{Integer, Varchar}
use Rattle.table.specs.declared.schemas.Column.{Column}
use Rattle.table.specs.declared.aggregates.Aggregate.{Aggregate}
use Rattle.table.specs.declared.aggregates.Aggregate.TheVariants.{CountRows, Count, CountDistinct, Sum, SumDistinct, Min, Max}
use Rattle.table.specs.declared.exprs.Expr.{Expr}
use Rattle.table.specs.declared.exprs.Expr.TheOpen.{Expr-F}
use Rattle.table.specs.declared.exprs.Expr.TheFolds.{fold-Expr}
use Rattle.table.specs.declared.conds.Cond.{Cond}
use Rattle.table.specs.declared.conds.Cond.TheOpen.{Cond-F}
use Rattle.table.specs.declared.conds.Cond.TheFolds.{fold-Cond}
use Rattle.table.specs.Bounds.{all_true}
use Rattle.assertcheck.specs.declared.data_types.DataType.{DataType}
use Rattle.assertcheck.specs.declared.data_types.DataType.TheVariants.{Number, Text}

-- the type of what a column declared so holds; the length of a text plays no part
abbrev pub type_of : ColType → DataType
type_of Integer = Number
type_of (Varchar most) = Text

-- the type of the column at a place
abbrev pub column_type : List Column → ℕ → Option DataType
column_type columns column = option_map (λ c. type_of c.kind) (slice_get columns column)

-- the type of a literal; NULL has none
abbrev pub literal_type : Value → Option DataType
literal_type value.Null = None
literal_type (value.Int n) = Some Number
literal_type (value.Text bytes) = Some Text

-- whether two types are one
abbrev pub is_same : DataType → DataType → Bool
is_same Number Number = true
is_same Number Text = false
is_same Text Number = false
is_same Text Text = true

-- two sides can be compared where both have a type, and it is the same
abbrev pub are_comparable : Option DataType → Option DataType → Bool
are_comparable None right = false
are_comparable (Some s) None = false
are_comparable (Some s) (Some t) = is_same s t

-- arithmetic is for numbers alone
abbrev pub is_number : Option DataType → Bool
is_number None = false
is_number (Some Number) = true
is_number (Some Text) = false

-- the type of arithmetic on what may be numbers
abbrev pub number_if : Bool → Option DataType
number_if numbers = if numbers then Some Number else None

-- the type of a sum or a product: a number, where each part is one
abbrev pub arithmetic_type : List (Option DataType) → Option DataType
arithmetic_type parts = number_if (list_all is_number parts)

-- the type of a set function over the rows of these columns: SUM is for numbers alone, MIN and MAX give what the
-- column holds
abbrev pub aggregate_type : List Column → Aggregate → Option DataType
aggregate_type columns CountRows = Some Number
aggregate_type columns (Count column) = Some Number
aggregate_type columns (CountDistinct column) = Some Number
aggregate_type columns (Sum column) = number_if (is_number (column_type columns column))
aggregate_type columns (SumDistinct column) = number_if (is_number (column_type columns column))
aggregate_type columns (Min column) = column_type columns column
aggregate_type columns (Max column) = column_type columns column

-- one expression, with the type of each part in its place
abbrev pub type_step : List Column → List DataType → Expr-F (Option DataType) → Option DataType
type_step columns slots (Expr-F.Literal v) = literal_type v
type_step columns slots (Expr-F.Column column) = column_type columns column
type_step columns slots (Expr-F.Slot slot) = slice_get slots slot
type_step columns slots (Expr-F.Negation part) = number_if (is_number part)
type_step columns slots (Expr-F.Sum parts) = arithmetic_type parts
type_step columns slots (Expr-F.Product parts) = arithmetic_type parts

-- the type of an expression over these columns and slots of these types; none where a part has no type that fits
abbrev pub expression_type : List Column → List DataType → Expr → Option DataType
expression_type columns slots = fold-Expr (Option DataType) (type_step columns slots)

-- one condition, with whether each part is typed in its place; what EXISTS asks of is a count
abbrev pub typed_step : List Column → List DataType → Cond-F Bool → Bool
typed_step columns slots (Cond-F.Compare comparison a b) =
    are_comparable (expression_type columns slots a) (expression_type columns slots b)
typed_step columns slots (Cond-F.IsNull a) = is_some (expression_type columns slots a)
typed_step columns slots (Cond-F.Exists slot) = true
typed_step columns slots (Cond-F.Is part truth) = part
typed_step columns slots (Cond-F.Not part) = part
typed_step columns slots (Cond-F.And parts) = all_true parts
typed_step columns slots (Cond-F.Or parts) = all_true parts

-- whether each comparison of a condition is between values of one type, and each expression has a type
abbrev pub is_typed_condition : List Column → List DataType → Cond → Bool
is_typed_condition columns slots = fold-Cond Bool (typed_step columns slots)
