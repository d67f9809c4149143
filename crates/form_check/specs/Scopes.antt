-- Which table and which column of it a name means, seen from the tables around it (ISO/IEC 9075:1992: 5.4 names and
-- identifiers, 6.3 table reference, 6.4 column reference).
use Rattle.std.specs.Prelude.{ℕ, Bool, List, [], ◌∷◌, Option, Some, None, is_some, unwrap_or, if◌then◌else◌}
use Rattle.std.specs.Str.{bytes_eq}
use Rattle.value.specs.declared.refusals.Refusal.{Refusal}
use Rattle.value.specs.declared.refusals.Refusal.TheVariants.{UnknownName}
use Rattle.table.specs.Rows.{Layout, column_of}
use Rattle.syntax.specs.declared.trees.ColumnName.{ColumnName}

-- a table whose columns names can mean, and the name that it goes by there: its correlation name where one is written,
-- and else its own (6.3)
pub record Scope : Type 0 where
  pub exposed_name : List ℕ
  pub layout : Layout

-- the tables around a name, the innermost first
abbrev pub Scopes : Type 0
Scopes = List Scope

-- the column of a table that has this name
abbrev pub named_in : List ℕ → Scope → Option ℕ
named_in name scope = column_of name scope.layout.columns

-- whether a name is of a table, seen from where the table is the innermost: the table goes by its qualifier, or,
-- without one, has such a column
abbrev pub is_name_of : Option (List ℕ) → List ℕ → Scope → Bool
is_name_of None name scope = is_some (named_in name scope)
is_name_of (Some qualifier) name scope = bytes_eq scope.exposed_name qualifier

-- the table that a name is of: the innermost of those around it (6.4)
abbrev pub innermost : {X : Type 0} → (X → Scope) → ColumnName → List X → Option X
innermost scope_of column [] = None
innermost scope_of column (x ∷ outer) =
    if is_name_of column.qualifier column.name (scope_of x) then Some x else innermost scope_of column outer

-- a table has no such column
abbrev pub column_error : List ℕ → Scope → Option Refusal
column_error name scope = if is_some (named_in name scope) then None else Some (UnknownName name)

-- what is wrong with a name of that table: no table goes by its qualifier or has such a column, or this one has none
abbrev pub fault_in : ColumnName → Option Scope → Option Refusal
fault_in column None = Some (UnknownName (unwrap_or column.qualifier column.name))
fault_in column (Some scope) = column_error column.name scope

-- what is wrong with a column's name
abbrev pub column_fault : ColumnName → Scopes → Option Refusal
column_fault column scopes = fault_in column (innermost (λ scope. scope) column scopes)

-- the column that a name means, if the name is of this table, the innermost, and the table has it
abbrev pub own_column : Scope → ColumnName → Option ℕ
own_column scope column =
    if is_name_of column.qualifier column.name scope then named_in column.name scope else None
