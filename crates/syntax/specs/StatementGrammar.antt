-- The grammar of statements and events: which texts of tokens have which trees.
use Rattle.std.specs.Prelude.{ℕ, Bool, true, false, List, Option, Some, None}
use Rattle.token.specs.declared.kinds.Kind.TheVariants as k
use Rattle.syntax.specs.declared.trees.ColumnName.{ColumnName}
use Rattle.syntax.specs.declared.trees.Condition.{Condition}
use Rattle.syntax.specs.declared.trees.Expression.{Expression}
use Rattle.value.specs.declared.values.Value.{Value}
use Rattle.value.specs.declared.values.Value.TheVariants as c
use Rattle.syntax.specs.declared.statements.Insert.{Insert}
use Rattle.syntax.specs.declared.statements.UpdateSource.{UpdateSource}
use Rattle.syntax.specs.declared.statements.UpdateSource.TheVariants as to
use Rattle.syntax.specs.declared.statements.Assignment.{Assignment}
use Rattle.syntax.specs.declared.statements.DerivedColumn.{DerivedColumn}
use Rattle.syntax.specs.declared.statements.Select.{Select}
use Rattle.syntax.specs.declared.statements.Which.{Which}
use Rattle.syntax.specs.declared.statements.Which.TheVariants as which
use Rattle.syntax.specs.declared.statements.Mode.{Mode}
use Rattle.syntax.specs.declared.statements.Mode.TheVariants as mode
use Rattle.syntax.specs.declared.statements.Statement.{Statement}
use Rattle.syntax.specs.declared.statements.Statement.TheVariants as s
use Rattle.syntax.specs.declared.statements.Event.{Event}
use Rattle.syntax.specs.declared.statements.Event.TheVariants as event
use Rattle.syntax.specs.declared.wants.PartInParentheses.{PartInParentheses}
use Rattle.syntax.specs.Grammar.{digits_value, signed_number, text_in_quotes, name, correlation_name, column, inner_cond, inner_expr, nested}
use Rattle.syntax.specs.Language.{Lexeme, Language, ◌>>=◌, ◌>>◌, ◌<$>◌, ◌∪◌, pure, token, optional, list, parens, Some_level}

-- the constant of a number's token, with its sign
abbrev pub number_of : Bool → Lexeme → Value
number_of is_negative x = c.Int (signed_number is_negative (digits_value x))

-- the constant of a text's token: what stands in its quotes
abbrev pub text_of : Lexeme → Value
text_of x = c.Text (text_in_quotes x)

-- const: NULL | text | [sign] number
unfoldable pub constant : Language Value
constant =
    (token k.Null >> pure c.Null) ∪ (text_of <$> token k.Text) ∪ (number_of false <$> token k.Number)
    ∪ (token k.Plus >> (number_of false <$> token k.Number)) ∪ (token k.Minus >> (number_of true <$> token k.Number))

-- [ "(" name { "," name } ")" ]
unfoldable pub columns : Language (Option (List (List ℕ)))
columns = optional (parens (list name))

-- the tree of an insert statement
abbrev pub insert_of : List ℕ → Option (List (List ℕ)) → List (List Value) → Insert
insert_of table columns rows = record { table = table; columns = columns; rows = rows }

-- row: "(" const { "," const } ")"
unfoldable pub row_value : Language (List Value)
row_value = parens (list constant)

-- INSERT INTO name [ "(" name { "," name } ")" ] VALUES row { "," row }
unfoldable pub insert : Language Insert
insert =
    token k.Insert >> (token k.Into >> (name >>= (λ table.
    columns >>= (λ columns. token k.Values >> (insert_of table columns <$> list row_value)))))

-- DEFERRED | IMMEDIATE
unfoldable pub check_time : Language Mode
check_time = (token k.Deferred >> pure mode.Deferred) ∪ (token k.Immediate >> pure mode.Immediate)

-- ALL | name { "," name }
unfoldable pub constraints : Language Which
constraints = (token k.All >> pure which.All) ∪ (which.Names <$> list name)

-- SET CONSTRAINTS ( ALL | name { "," name } ) ( DEFERRED | IMMEDIATE )
unfoldable pub set_constraints : Language Statement
set_constraints =
    token k.Set >> (token k.Constraints >> (constraints >>= (λ which. s.SetConstraints which <$> check_time)))

-- VERDICT name
unfoldable pub verdict : Language Statement
verdict = token k.Verdict >> (s.Verdict <$> name)

-- the tree of a set clause of an update statement: a column, and what it is given
abbrev pub assignment_of : List ℕ → UpdateSource → Assignment
assignment_of column value = record { column = column; value = value }

-- the tree of a derived column: an expression, and its name
abbrev pub derived_column_of : Expression → Option (List ℕ) → DerivedColumn
derived_column_of value name = record { value = value; name = name }

-- the tree of a select statement
abbrev pub select_of : Option (List DerivedColumn) → List ℕ → Option (List ℕ) → Option Condition
    → Option (List ColumnName) → Option Condition → Select
select_of columns table correlation_name keeps group_by having = record {
  columns = columns;
  table = table;
  correlation_name = correlation_name;
  keeps = keeps;
  group_by = group_by;
  having = having;
}

-- [GROUP BY colref { "," colref }]
unfoldable pub group_by : Language (Option (List ColumnName))
group_by = optional (token k.Group >> (token k.By >> list column))

-- [READ ONLY], behind BEGIN
abbrev pub begin_of : Option Lexeme → Event
begin_of None = event.Begin
begin_of (Some only) = event.BeginReadOnly

-- [READ ONLY]: SQL-92's transaction access mode, by which BEGIN is one of two events
unfoldable pub access : Language Event
access = begin_of <$> optional (token k.Read >> token k.Only)

module _ (inner : Language PartInParentheses) where
  -- [WHERE cond]
  unfoldable pub where_clause : Language (Option Condition)
  where_clause = optional (token k.Where >> inner_cond inner)

  -- NULL | expr
  unfoldable pub assigned : Language UpdateSource
  assigned = (token k.Null >> pure to.Null) ∪ (to.To <$> inner_expr inner)

  -- set: name "=" ( NULL | expr )
  unfoldable pub assignment : Language Assignment
  assignment = name >>= (λ column. token k.Equal >> (assignment_of column <$> assigned))

  -- UPDATE name SET set { "," set } [WHERE cond]
  unfoldable pub update : Language Statement
  update =
      token k.Update >> (name >>= (λ table.
      token k.Set >> (list assignment >>= (λ sets. s.Update table sets <$> where_clause))))

  -- DELETE FROM name [WHERE cond]
  unfoldable pub delete : Language Statement
  delete = token k.Delete >> (token k.From >> (name >>= (λ table. s.Delete table <$> where_clause)))

  -- item: expr [ [AS] name ]; the name is spelled as a correlation name is
  unfoldable pub derived_column : Language DerivedColumn
  derived_column = inner_expr inner >>= (λ value. derived_column_of value <$> correlation_name)

  -- "*" | item { "," item }
  unfoldable pub selected : Language (Option (List DerivedColumn))
  selected = (token k.Star >> pure None) ∪ (Some <$> list derived_column)

  -- [HAVING cond]
  unfoldable pub having : Language (Option Condition)
  having = optional (token k.Having >> inner_cond inner)

  -- what a SELECT's rows are: [WHERE cond] [GROUP BY colref { "," colref }] [HAVING cond]
  unfoldable pub selected_rows : Option (List DerivedColumn) → List ℕ → Option (List ℕ) → Language Select
  selected_rows columns table other =
      where_clause >>= (λ keeps. group_by >>= (λ group. select_of columns table other keeps group <$> having))

  -- SELECT ( "*" | item { "," item } ) FROM name [ [AS] name ] and what its rows are
  unfoldable pub select : Language Select
  select =
      token k.Select >> (selected >>= (λ columns. token k.From >> (name >>= (λ table.
      correlation_name >>= (λ other. selected_rows columns table other)))))

  -- stmt: what a transaction may run
  unfoldable pub statement : Language Statement
  statement = (s.Insert <$> insert) ∪ update ∪ delete ∪ (s.Select <$> select) ∪ set_constraints ∪ verdict

  -- BEGIN [READ ONLY] | COMMIT [WORK] | ROLLBACK [WORK] | stmt
  unfoldable pub one_event : Language Event
  one_event =
      (token k.Begin >> access)
      ∪ (token k.Commit >> ((λ _. event.Commit) <$> optional (token k.Work)))
      ∪ (token k.Rollback >> ((λ _. event.Rollback) <$> optional (token k.Work)))
      ∪ (event.Run <$> statement)

-- events, with parentheses nested less deep than the number
abbrev pub events : ℕ → Language Event
events n = one_event (nested n)

-- an event, whose parentheses nest as deep as they like
abbrev pub IsEvent : Language Event
IsEvent = Some_level events
