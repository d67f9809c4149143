-- The key under which a condition reads a table.
use Rattle.std.specs.Prelude.{ℕ, Bool, false, ◌==◌, List, [], ◌∷◌, Option, Some, None, if◌then◌else◌}
use Rattle.std.specs.Option.{option_or}
use Rattle.value.specs.declared.values.Value.{Value}
use Rattle.value.specs.declared.comparisons.Comparison.{Comparison}
use Rattle.value.specs.declared.comparisons.Comparison.TheVariants.{Equal}
use Rattle.table.specs.declared.exprs.Expr.{Expr}
use Rattle.table.specs.declared.exprs.Expr.TheOpen.{Expr-F}
use Rattle.table.specs.declared.exprs.Expr.TheViews.{out-Expr}
use Rattle.table.specs.declared.conds.Cond.{Cond}
use Rattle.table.specs.declared.conds.Cond.TheOpen.{Cond-F}
use Rattle.table.specs.declared.conds.Cond.TheViews.{out-Cond}
use Rattle.siread.specs.declared.keys.LockKey.{LockKey}
use Rattle.siread.specs.declared.keys.LockKey.TheVariants.{Row as OneRow, Column as InColumn, Table as WholeTable}

-- the parts that AND joins at the top
abbrev pub parts_in : Cond → Cond-F Cond → List Cond
parts_in whole (Cond-F.And parts) = parts
parts_in whole other = whole ∷ []

-- the parts of a condition; one that is no AND is its only part
abbrev pub top_parts : Cond → List Cond
top_parts condition = parts_in condition (out-Cond condition)

-- a column that is set equal to a literal
pub record Equality : Type 0 where
  pub column : ℕ
  pub value : Value

-- the equality of two sides, one of them a column and the other a literal, either way round
abbrev pub sides : Expr-F Expr → Expr-F Expr → Option Equality
sides (Expr-F.Column i) (Expr-F.Literal v) = Some (record { column = i; value = v })
sides (Expr-F.Literal v) (Expr-F.Column i) = Some (record { column = i; value = v })
sides a b = None

-- the equality of a comparison, if it is by `=`
abbrev pub equal_sides : Comparison → Expr → Expr → Option Equality
equal_sides Equal a b = sides (out-Expr a) (out-Expr b)
equal_sides other a b = None

-- the equality that a part is, if it is one
abbrev pub equality_in : Cond-F Cond → Option Equality
equality_in (Cond-F.Compare comparison a b) = equal_sides comparison a b
equality_in other = None

-- whether an equality is there, and is of this column
abbrev pub is_on : ℕ → Option Equality → Bool
is_on column None = false
is_on column (Some equality) = equality.column == column

-- the first equality of the parts, and the first on a column
abbrev pub first_equality : List Cond → Option Equality
first_equality [] = None
first_equality (part ∷ rest) = option_or (equality_in (out-Cond part)) (first_equality rest)

-- the first equality of the parts that is of this column
abbrev pub first_on : ℕ → List Cond → Option Equality
first_on column [] = None
first_on column (part ∷ rest) =
    if is_on column (equality_in (out-Cond part)) then equality_in (out-Cond part) else first_on column rest

-- the key of a condition by its equality of the table's key, if there is one, and its first one of any column
abbrev pub key_from : ℕ → Option Equality → Option Equality → LockKey
key_from table (Some row) other = OneRow (record { table = table; key = row.value })
key_from table None (Some equality) = InColumn table equality.column equality.value
key_from table None None = WholeTable table

-- the row of `key = literal`, else the rows of `column = literal`, else the table
abbrev pub filter_key : (table key : ℕ) → Cond → LockKey
filter_key table key condition =
    key_from table (first_on key (top_parts condition)) (first_equality (top_parts condition))
