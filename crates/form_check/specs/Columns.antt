-- What a column's name means in a condition, where only some may stand.
use Rattle.std.specs.Prelude.{ℕ, ◌==◌, List, Option, Some, None, if◌then◌else◌}
use Rattle.std.specs.List.{list_any}
use Rattle.std.specs.Option.{option_map}
use Rattle.table.specs.declared.exprs.Expr.{Expr}
use Rattle.table.specs.declared.exprs.Expr.TheVariants.{Column, Slot}
use Rattle.syntax.specs.declared.trees.ColumnName.{ColumnName}
use Rattle.form_check.specs.Scopes.{Scope, is_name_of, own_column}

-- no column may stand there
abbrev pub no_column : ColumnName → Option ℕ
no_column column = None

-- the grouping column, which stands in column 0 of a group's row
abbrev pub in_group : ℕ → Option ℕ → Option ℕ
in_group group None = None
in_group group (Some column) = if column == group then Some 0 else None

-- the grouping column alone
abbrev pub grouping_column : Scope → ℕ → ColumnName → Option ℕ
grouping_column scope group column = in_group group (own_column scope column)

-- a column, if it is one of these
abbrev pub among : List ℕ → Option ℕ → Option ℕ
among columns None = None
among columns (Some column) = if list_any (λ c. c == column) columns then Some column else None

-- one of the columns of GROUP BY, which stand in each row of a group
abbrev pub grouped_column : Scope → List ℕ → ColumnName → Option ℕ
grouped_column scope grouping column = among grouping (own_column scope column)

-- the column of the row at hand at a place
abbrev pub at_place : (ColumnName → Option ℕ) → ColumnName → Option Expr
at_place place column = option_map Column (place column)

-- the column of the row around that a name means, if the name is not of the child, which stands further in
abbrev pub outer_column : Scope → Scope → ColumnName → Option ℕ
outer_column child root column = if is_name_of column.qualifier column.name child then None else own_column root column

-- a column of the child; or the slot that holds what the row around it has in a column of its own
abbrev pub in_both : Option ℕ → Option ℕ → Option Expr
in_both (Some own) outer = Some (Column own)
in_both None outer = option_map Slot outer

-- what a column's name means in a condition over a row of the child and the row around it
abbrev pub of_both : Scope → Scope → ColumnName → Option Expr
of_both child root column = in_both (own_column child column) (outer_column child root column)
