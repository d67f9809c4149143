-- What the columns that a SELECT lists are called.
use Rattle.std.specs.Prelude.{ℕ, List, Option, Some, None, codes}
use Rattle.syntax.specs.declared.statements.DerivedColumn.{DerivedColumn}
use Rattle.syntax.specs.declared.trees.Aggregate.{Aggregate}
use Rattle.syntax.specs.declared.trees.Aggregate.TheVariants.{Count, Sum, Min, Max}
use Rattle.syntax.specs.declared.trees.Condition.{Condition}
use Rattle.syntax.specs.declared.trees.Condition.TheOpen.{Expression-F}
use Rattle.syntax.specs.declared.trees.Expression.{Expression, out-Expression}
use Rattle.syntax.specs.declared.trees.SelectList.{SelectList}
use Rattle.syntax.specs.declared.trees.Query.{Query}

-- the name of a set function
abbrev pub function_name : Aggregate → List ℕ
function_name Count = codes "COUNT"
function_name Sum = codes "SUM"
function_name Min = codes "MIN"
function_name Max = codes "MAX"

-- a column has its own name, and a set function its own; no other expression has one
abbrev pub name_in : Expression-F Condition Expression SelectList Query → List ℕ
name_in (Expression-F.Column column) = column.name
name_in Expression-F.CountRows = function_name Count
name_in (Expression-F.Aggregate function argument) = function_name function
name_in other = codes "?column?"

-- the same of an expression
abbrev pub expression_name : Expression → List ℕ
expression_name expression = name_in (out-Expression expression)

-- the name that AS gives to an expression, or else its own
abbrev pub name_or_own : Option (List ℕ) → Expression → List ℕ
name_or_own None expression = expression_name expression
name_or_own (Some name) expression = name

-- what a derived column is called
abbrev pub derived_name : DerivedColumn → List ℕ
derived_name column = name_or_own column.name column.value
