-- The numbers of a tree and those of its text, in reading order, without their signs.
use Rattle.std.specs.Prelude.{ℕ, if◌then◌else◌, unsigned_abs, List, [], ◌∷◌, ◌++◌, map, Option, Some, None}
use Rattle.std.specs.List.{flat_map}
use Rattle.value.specs.declared.values.Value.{Value}
use Rattle.value.specs.declared.values.Value.TheVariants as v
use Rattle.syntax.specs.declared.trees.Condition.{Condition}
use Rattle.syntax.specs.declared.trees.Condition.TheOpen.{Condition-F, Expression-F, SelectList-F, Query-F}
use Rattle.syntax.specs.declared.trees.Condition.TheFolds.{fold-Condition, fold-Expression, fold-SelectList, fold-Query}
use Rattle.syntax.specs.declared.trees.Expression.{Expression}
use Rattle.syntax.specs.declared.trees.SelectList.{SelectList}
use Rattle.syntax.specs.declared.trees.Query.{Query}
use Rattle.syntax.specs.Grammar.{digits_value}
use Rattle.syntax.specs.declared.statements.Insert.{Insert}
use Rattle.syntax.specs.declared.statements.UpdateSource.{UpdateSource}
use Rattle.syntax.specs.declared.statements.UpdateSource.TheVariants as to
use Rattle.syntax.specs.declared.statements.Assignment.{Assignment}
use Rattle.syntax.specs.declared.statements.DerivedColumn.{DerivedColumn}
use Rattle.syntax.specs.declared.statements.Select.{Select}
use Rattle.syntax.specs.declared.statements.Statement.{Statement}
use Rattle.syntax.specs.declared.statements.Statement.TheVariants as s
use Rattle.syntax.specs.declared.statements.Event.{Event}
use Rattle.syntax.specs.declared.statements.Event.TheVariants as event
use Rattle.syntax.specs.Language.{Lexeme, Lexemes}
use Rattle.prepared.specs.Numbers.{is_number}

-- the values of some numbers, in reading order
abbrev pub Numerals : Type 0
Numerals = List ℕ

-- those of a text's tokens
abbrev pub numeral : Lexeme → Numerals
numeral x = if is_number x.kind then digits_value x ∷ [] else []

-- those of a text, from the left
abbrev pub numerals : Lexemes → Numerals
numerals tokens = flat_map numeral tokens

-- those of several parts, from the left
abbrev pub numerals_of_parts : List Numerals → Numerals
numerals_of_parts [] = []
numerals_of_parts (part ∷ rest) = part ++ numerals_of_parts rest

-- those of a part that may be missing
abbrev pub of_optional : Option Numerals → Numerals
of_optional None = []
of_optional (Some part) = part

-- those of an expression, with those of each part in its place
abbrev pub expression_step : Expression-F Numerals Numerals Numerals Numerals → Numerals
expression_step (Expression-F.Number n) = unsigned_abs n ∷ []
expression_step (Expression-F.Text t) = []
expression_step (Expression-F.Column column) = []
expression_step Expression-F.CountRows = []
expression_step (Expression-F.Aggregate function argument) = []
expression_step (Expression-F.Subquery query) = query
expression_step (Expression-F.Negation part) = part
expression_step (Expression-F.Sum parts) = numerals_of_parts parts
expression_step (Expression-F.Product parts) = numerals_of_parts parts

-- those of a condition, likewise
abbrev pub condition_step : Condition-F Numerals Numerals Numerals Numerals → Numerals
condition_step (Condition-F.Or parts) = numerals_of_parts parts
condition_step (Condition-F.And parts) = numerals_of_parts parts
condition_step (Condition-F.Not part) = part
condition_step (Condition-F.Is part truth) = part
condition_step (Condition-F.Exists query) = query
condition_step (Condition-F.Compare left comparison right) = left ++ right
condition_step (Condition-F.IsNull part) = part
condition_step (Condition-F.Between subject low high) = subject ++ (low ++ high)
condition_step (Condition-F.In subject values) = subject ++ numerals_of_parts values

-- those of what a query lists
abbrev pub select_list_step : SelectList-F Numerals Numerals Numerals Numerals → Numerals
select_list_step SelectList-F.Star = []
select_list_step (SelectList-F.One part) = part

-- those of a query: its list, WHERE and HAVING
abbrev pub query_step : Query-F Numerals Numerals Numerals Numerals → Numerals
query_step query = query.select_list ++ (of_optional query.keeps ++ of_optional query.having)

-- the numbers of an expression
unfoldable pub expression_numerals : Expression → Numerals
expression_numerals =
    fold-Expression Numerals Numerals Numerals Numerals condition_step expression_step select_list_step query_step

-- the numbers of a condition
unfoldable pub condition_numerals : Condition → Numerals
condition_numerals =
    fold-Condition Numerals Numerals Numerals Numerals condition_step expression_step select_list_step query_step

-- the numbers of what a query lists
unfoldable pub select_list_numerals : SelectList → Numerals
select_list_numerals =
    fold-SelectList Numerals Numerals Numerals Numerals condition_step expression_step select_list_step query_step

-- the numbers of a query
unfoldable pub query_numerals : Query → Numerals
query_numerals =
    fold-Query Numerals Numerals Numerals Numerals condition_step expression_step select_list_step query_step

-- those of a statement
abbrev pub value_numerals : Value → Numerals
value_numerals (v.Int n) = unsigned_abs n ∷ []
value_numerals _ = []

-- those of a row of an INSERT
abbrev pub row_numerals : List Value → Numerals
row_numerals values = numerals_of_parts (map value_numerals values)

-- those of the rows of an INSERT
abbrev pub insert_numerals : Insert → Numerals
insert_numerals insert = numerals_of_parts (map row_numerals insert.rows)

-- those of what a column is given
abbrev pub assigned_numerals : UpdateSource → Numerals
assigned_numerals to.Null = []
assigned_numerals (to.To x) = expression_numerals x

-- those of an assignment
abbrev pub assignment_numerals : Assignment → Numerals
assignment_numerals set = assigned_numerals set.value

-- those of a WHERE or of a HAVING, if there is one
abbrev pub filter_numerals : Option Condition → Numerals
filter_numerals None = []
filter_numerals (Some condition) = condition_numerals condition

-- those of a derived column
abbrev pub derived_column_numerals : DerivedColumn → Numerals
derived_column_numerals column = expression_numerals column.value

-- those of what a SELECT lists
abbrev pub selected_numerals : Option (List DerivedColumn) → Numerals
selected_numerals None = []
selected_numerals (Some columns) = numerals_of_parts (map derived_column_numerals columns)

-- those of a SELECT: of its columns, of its WHERE, and of its HAVING
abbrev pub select_numerals : Select → Numerals
select_numerals select =
    selected_numerals select.columns ++ (filter_numerals select.keeps ++ filter_numerals select.having)

-- those of a statement, in the order in which it is written
abbrev pub statement_numerals : Statement → Numerals
statement_numerals (s.Insert insert) = insert_numerals insert
statement_numerals (s.Update table sets keeps) = numerals_of_parts (map assignment_numerals sets)
    ++ filter_numerals keeps
statement_numerals (s.Delete table keeps) = filter_numerals keeps
statement_numerals (s.Select select) = select_numerals select
statement_numerals _ = []

-- those of an event
abbrev pub event_numerals : Event → Numerals
event_numerals (event.Run statement) = statement_numerals statement
event_numerals _ = []
