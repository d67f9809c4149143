-- Statements and events with values in the places of their parameters.
use Rattle.std.specs.Prelude.{List, map, Option}
use Rattle.std.specs.Option.{option_map}
use Rattle.value.specs.declared.values.Value.{Value}
use Rattle.value.specs.declared.values.Value.TheVariants as v
use Rattle.syntax.specs.declared.trees.Condition.{Condition}
use Rattle.syntax.specs.declared.trees.Condition.TheOpen.{Expression-F}
use Rattle.syntax.specs.declared.trees.Expression.{Expression, out-Expression}
use Rattle.syntax.specs.declared.trees.Expression.TheVariants as e
use Rattle.syntax.specs.declared.trees.SelectList.{SelectList}
use Rattle.syntax.specs.declared.trees.Query.{Query}
use Rattle.syntax.specs.declared.statements.Insert.{Insert}
use Rattle.syntax.specs.declared.statements.UpdateSource.{UpdateSource}
use Rattle.syntax.specs.declared.statements.UpdateSource.TheVariants as to
use Rattle.syntax.specs.declared.statements.Assignment.{Assignment}
use Rattle.syntax.specs.declared.statements.DerivedColumn.{DerivedColumn}
use Rattle.syntax.specs.declared.statements.Select.{Select}
use Rattle.syntax.specs.declared.statements.Statement.{Statement}
use Rattle.syntax.specs.declared.statements.Statement.TheVariants as s
use Rattle.syntax.specs.declared.statements.Event.{Event}
use Rattle.syntax.specs.declared.statements.Event.TheVariants as event
use Rattle.syntax.specs.StatementGrammar.{insert_of, assignment_of, derived_column_of, select_of}
use Rattle.prepared.specs.Constants.{Filling, and_then, then_made, same, both, all, if_there, next, constant_of, assigned_of}
use Rattle.prepared.specs.Conditions.{filled_condition, filled_expression}

-- a value of an INSERT
abbrev pub filled_value : Value → Filling Value
filled_value v.Null constants = same v.Null constants
filled_value (v.Text t) constants = same (v.Text t) constants
filled_value (v.Int n) constants = next constant_of (v.Int n) constants

-- the values of a row of an INSERT, from the left
abbrev pub filled_values : List Value → Filling (List Value)
filled_values values = all (map filled_value values)

-- the rows of an INSERT, in the order of the text
abbrev pub filled_rows : List (List Value) → Filling (List (List Value))
filled_rows rows = all (map filled_values rows)

-- an INSERT with values in the places of its parameters
abbrev pub filled_insert : Insert → Filling Insert
filled_insert insert constants =
    then_made (insert_of insert.table insert.columns) (filled_rows insert.rows constants)

-- what an UPDATE gives to a column: a number that is all of it may become NULL
abbrev pub assigned_layer : Expression → Expression-F Condition Expression SelectList Query → Filling UpdateSource
assigned_layer x (Expression-F.Number n) constants = next assigned_of (to.To (e.Number n)) constants
assigned_layer x _ constants = then_made to.To (filled_expression x constants)

-- what an UPDATE gives to a column, which may be NULL as it is written
abbrev pub filled_assigned : UpdateSource → Filling UpdateSource
filled_assigned to.Null constants = same to.Null constants
filled_assigned (to.To x) constants = assigned_layer x (out-Expression x) constants

-- an assignment with a value in the place of each parameter
abbrev pub filled_assignment : Assignment → Filling Assignment
filled_assignment set constants = then_made (assignment_of set.column) (filled_assigned set.value constants)

-- the assignments of an UPDATE, from the left
abbrev pub filled_assignments : List Assignment → Filling (List Assignment)
filled_assignments sets = all (map filled_assignment sets)

-- a WHERE or a HAVING, if there is one
abbrev pub filled_filter : Option Condition → Filling (Option Condition)
filled_filter keeps = if_there (option_map filled_condition keeps)

-- a derived column with values in the places of its parameters
abbrev pub filled_derived_column : DerivedColumn → Filling DerivedColumn
filled_derived_column column constants =
    then_made (λ value. derived_column_of value column.name) (filled_expression column.value constants)

-- the derived columns of a SELECT, from the left
abbrev pub filled_derived_columns : List DerivedColumn → Filling (List DerivedColumn)
filled_derived_columns columns = all (map filled_derived_column columns)

-- what a SELECT lists: columns, if they are written
abbrev pub filled_selected : Option (List DerivedColumn) → Filling (Option (List DerivedColumn))
filled_selected columns = if_there (option_map filled_derived_columns columns)

-- a SELECT with values in the places of its parameters: those of its columns, of its WHERE, and of its HAVING
abbrev pub filled_select : Select → Filling Select
filled_select select constants =
    and_then (filled_selected select.columns constants) (λ columns.
    both (λ keeps having. select_of columns.0 select.table select.correlation_name keeps select.group_by having)
    (filled_filter select.keeps) (filled_filter select.having) columns.1)

-- a statement with values in the places of its parameters; some statements have none
abbrev pub filled_statement : Statement → Filling Statement
filled_statement (s.Insert insert) constants = then_made s.Insert (filled_insert insert constants)
filled_statement (s.Update table sets keeps) constants =
    both (s.Update table) (filled_assignments sets) (filled_filter keeps) constants
filled_statement (s.Delete table keeps) constants = then_made (s.Delete table) (filled_filter keeps constants)
filled_statement (s.Select select) constants = then_made s.Select (filled_select select constants)
filled_statement (s.SetConstraints which mode) constants = same (s.SetConstraints which mode) constants
filled_statement (s.Verdict name) constants = same (s.Verdict name) constants

-- an event with values in the places of its parameters: those of its statement
abbrev pub filled_event : Event → Filling Event
filled_event (event.Run statement) constants = then_made event.Run (filled_statement statement constants)
filled_event other constants = same other constants
