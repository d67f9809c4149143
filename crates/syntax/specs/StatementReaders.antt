-- Readers of statements and events, by the next token alone.
use Rattle.std.specs.Prelude.{ℕ, true, false, List, Option, Some, None}
use Rattle.token.specs.declared.kinds.Kind.{Kind}
use Rattle.token.specs.declared.kinds.Kind.TheVariants as k
use Rattle.syntax.specs.declared.trees.ColumnName.{ColumnName}
use Rattle.syntax.specs.declared.trees.Condition.{Condition}
use Rattle.value.specs.declared.values.Value.{Value}
use Rattle.value.specs.declared.values.Value.TheVariants as c
use Rattle.syntax.specs.declared.statements.Insert.{Insert}
use Rattle.syntax.specs.declared.statements.UpdateSource.{UpdateSource}
use Rattle.syntax.specs.declared.statements.UpdateSource.TheVariants as to
use Rattle.syntax.specs.declared.statements.Assignment.{Assignment}
use Rattle.syntax.specs.declared.statements.DerivedColumn.{DerivedColumn}
use Rattle.syntax.specs.declared.statements.Select.{Select}
use Rattle.syntax.specs.declared.statements.Which.{Which}
use Rattle.syntax.specs.declared.statements.Which.TheVariants as which
use Rattle.syntax.specs.declared.statements.Mode.{Mode}
use Rattle.syntax.specs.declared.statements.Mode.TheVariants as mode
use Rattle.syntax.specs.declared.statements.Statement.{Statement}
use Rattle.syntax.specs.declared.statements.Statement.TheVariants as s
use Rattle.syntax.specs.declared.statements.Event.{Event}
use Rattle.syntax.specs.declared.statements.Event.TheVariants as event
use Rattle.syntax.specs.Readers.{name, correlation_name, column, cond_at, expr_at}
use Rattle.syntax.specs.StatementGrammar.{number_of, text_of, insert_of, assignment_of, derived_column_of, select_of, begin_of}
use Rattle.syntax.specs.Reading.{Reader, ◌>>=◌, ◌>>◌, ◌<$>◌, pure, refuse, by_kind, expect, optional, list, parens}

-- a constant, by the kind of the next token
abbrev pub constant_by : Kind → Reader Value
constant_by k.Null = expect k.Null >> pure c.Null
constant_by k.Text = text_of <$> expect k.Text
constant_by k.Number = number_of false <$> expect k.Number
constant_by k.Plus = expect k.Plus >> (number_of false <$> expect k.Number)
constant_by k.Minus = expect k.Minus >> (number_of true <$> expect k.Number)
constant_by _ = refuse

-- reads const: NULL | text | [sign] number
unfoldable pub constant : Reader Value
constant = by_kind constant_by

-- DEFERRED or IMMEDIATE, by the kind of the next token
abbrev pub check_time_by : Kind → Reader Mode
check_time_by k.Deferred = expect k.Deferred >> pure mode.Deferred
check_time_by k.Immediate = expect k.Immediate >> pure mode.Immediate
check_time_by _ = refuse

-- reads DEFERRED | IMMEDIATE
unfoldable pub check_time : Reader Mode
check_time = by_kind check_time_by

-- what SET CONSTRAINTS names, by the kind of the next token
abbrev pub constraints_by : Kind → Reader Which
constraints_by k.All = expect k.All >> pure which.All
constraints_by _ = which.Names <$> list name

-- reads ALL | name { "," name }
unfoldable pub constraints : Reader Which
constraints = by_kind constraints_by

-- reads a set constraints mode statement
unfoldable pub set_constraints : Reader Statement
set_constraints =
    expect k.Set >> (expect k.Constraints >> (constraints >>= (λ which. s.SetConstraints which <$> check_time)))

-- reads VERDICT name
unfoldable pub verdict : Reader Statement
verdict = expect k.Verdict >> (s.Verdict <$> name)

-- [READ ONLY], behind BEGIN
unfoldable pub access : Reader Event
access = begin_of <$> optional k.Read (expect k.Read >> expect k.Only)

-- reads [GROUP BY colref { "," colref }], the group by clause (7.7)
unfoldable pub group_by : Reader (Option (List ColumnName))
group_by = optional k.Group (expect k.Group >> (expect k.By >> list column))

-- how many parentheses may be opened
module _ (n : ℕ) where
  -- reads [ "(" name { "," name } ")" ], the columns that an INSERT lists
  unfoldable pub columns : Reader (Option (List (List ℕ)))
  columns = optional k.Open (parens n (list name))

  -- reads row: the constants of one row
  unfoldable pub row_value : Reader (List Value)
  row_value = parens n (list constant)

  -- reads insert: an insert statement
  unfoldable pub insert : Reader Insert
  insert =
      expect k.Insert >> (expect k.Into >> (name >>= (λ table.
      columns >>= (λ columns. expect k.Values >> (insert_of table columns <$> list row_value)))))

  -- reads [WHERE cond]
  unfoldable pub where_clause : Reader (Option Condition)
  where_clause = optional k.Where (expect k.Where >> cond_at n)

  -- what a column is given, by the kind of the next token
  abbrev pub assigned_by : Kind → Reader UpdateSource
  assigned_by k.Null = expect k.Null >> pure to.Null
  assigned_by _ = to.To <$> expr_at n

  -- reads NULL | expr: what a set clause gives to its column
  unfoldable pub assigned : Reader UpdateSource
  assigned = by_kind assigned_by

  -- reads set: a set clause of an update statement
  unfoldable pub assignment : Reader Assignment
  assignment = name >>= (λ column. expect k.Equal >> (assignment_of column <$> assigned))

  -- reads an update statement: searched
  unfoldable pub update : Reader Statement
  update =
      expect k.Update >> (name >>= (λ table.
      expect k.Set >> (list assignment >>= (λ sets. s.Update table sets <$> where_clause))))

  -- reads a delete statement: searched
  unfoldable pub delete : Reader Statement
  delete = expect k.Delete >> (expect k.From >> (name >>= (λ table. s.Delete table <$> where_clause)))

  -- reads item: a derived column of a select statement
  unfoldable pub derived_column : Reader DerivedColumn
  derived_column = expr_at n >>= (λ value. derived_column_of value <$> correlation_name)

  -- what a SELECT lists, by the kind of the next token
  abbrev pub selected_by : Kind → Reader (Option (List DerivedColumn))
  selected_by k.Star = expect k.Star >> pure None
  selected_by _ = Some <$> list derived_column

  -- reads "*" | item { "," item }
  unfoldable pub selected : Reader (Option (List DerivedColumn))
  selected = by_kind selected_by

  -- reads [HAVING cond], the having clause (7.8)
  unfoldable pub having : Reader (Option Condition)
  having = optional k.Having (expect k.Having >> cond_at n)

  -- reads [WHERE cond] [GROUP BY colref { "," colref }] [HAVING cond]
  unfoldable pub selected_rows : Option (List DerivedColumn) → List ℕ → Option (List ℕ) → Reader Select
  selected_rows columns table other =
      where_clause >>= (λ keeps. group_by >>= (λ group. select_of columns table other keeps group <$> having))

  -- reads a select statement
  unfoldable pub select : Reader Select
  select =
      expect k.Select >> (selected >>= (λ columns. expect k.From >> (name >>= (λ table.
      correlation_name >>= (λ other. selected_rows columns table other)))))

  -- a statement, by the kind of the next token
  abbrev pub statement_by : Kind → Reader Statement
  statement_by k.Insert = s.Insert <$> insert
  statement_by k.Update = update
  statement_by k.Delete = delete
  statement_by k.Select = s.Select <$> select
  statement_by k.Set = set_constraints
  statement_by k.Verdict = verdict
  statement_by _ = refuse

  -- reads stmt
  unfoldable pub statement : Reader Statement
  statement = by_kind statement_by

  -- an event, by the kind of the next token
  abbrev pub event_by : Kind → Reader Event
  event_by k.Begin = expect k.Begin >> access
  event_by k.Commit = expect k.Commit >> ((λ _. event.Commit) <$> optional k.Work (expect k.Work))
  event_by k.Rollback = expect k.Rollback >> ((λ _. event.Rollback) <$> optional k.Work (expect k.Work))
  event_by _ = event.Run <$> statement

  -- reads event
  unfoldable pub one_event : Reader Event
  one_event = by_kind event_by
