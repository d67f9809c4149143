-- Readers of definitions and scripts, by the next token alone.
use Rattle.std.specs.Prelude.{ℕ, ◌-◌, Bool, true, false, List, [], ◌∷◌, Option, Some, None}
use Rattle.token.specs.declared.kinds.Kind.{Kind}
use Rattle.token.specs.declared.kinds.Kind.TheVariants as k
use Rattle.value.specs.declared.values.ColType.{ColType}
use Rattle.value.specs.declared.values.ColType.TheVariants as kind_of
use Rattle.syntax.specs.declared.definitions.ColumnConstraint.{ColumnConstraint}
use Rattle.syntax.specs.declared.definitions.ColumnConstraint.TheVariants as on_column
use Rattle.syntax.specs.declared.definitions.Constraint.{Constraint}
use Rattle.syntax.specs.declared.definitions.Constraint.TheVariants.{Unique}
use Rattle.syntax.specs.declared.definitions.TableConstraint.{TableConstraint}
use Rattle.syntax.specs.declared.definitions.TableElement.{TableElement}
use Rattle.syntax.specs.declared.definitions.TableElement.TheVariants as element
use Rattle.syntax.specs.declared.definitions.Attributes.{Attributes}
use Rattle.syntax.specs.declared.statements.Mode.{Mode}
use Rattle.syntax.specs.declared.definitions.Definition.{Definition}
use Rattle.syntax.specs.declared.definitions.Definition.TheVariants as d
use Rattle.syntax.specs.declared.statements.ScriptLine.{ScriptLine}
use Rattle.syntax.specs.Readers.{name, cond_at}
use Rattle.syntax.specs.SchemaGrammar.{is_index, is_width, varchar_of, attributes_of, check_of, foreign_key, constraint_of, table_of, script_line_of}
use Rattle.syntax.specs.StatementReaders.{insert, check_time, one_event}
use Rattle.syntax.specs.Language.{Lexeme}
use Rattle.syntax.specs.Reading.{Reader, ◌>>=◌, ◌>>◌, ◌<$>◌, pure, refuse, by_kind, expect, expect_where, optional, list, all, parens}

-- reads NOT NULL
abbrev pub not_null : Reader Lexeme
not_null = expect k.Not >> expect k.Null

-- reads PRIMARY KEY
abbrev pub primary_key : Reader Lexeme
primary_key = expect k.Primary >> expect k.Key

-- reads when: INITIALLY ( DEFERRED | IMMEDIATE )
unfoldable pub initially : Reader Mode
initially = expect k.Initially >> check_time

-- [NOT] DEFERRABLE, by the kind of the next token
abbrev pub deferrable_by : Kind → Reader Bool
deferrable_by k.Deferrable = expect k.Deferrable >> pure true
deferrable_by k.Not = expect k.Not >> (expect k.Deferrable >> pure false)
deferrable_by _ = refuse

-- reads defer: [NOT] DEFERRABLE
unfoldable pub deferrable : Reader Bool
deferrable = by_kind deferrable_by

-- [defer], by the kind of the next token
abbrev pub may_defer_by : Kind → Reader (Option Bool)
may_defer_by k.Deferrable = Some <$> deferrable
may_defer_by k.Not = Some <$> deferrable
may_defer_by _ = pure None

-- [defer]
unfoldable pub may_defer : Reader (Option Bool)
may_defer = by_kind may_defer_by

-- reads when [defer]
unfoldable pub initially_first : Reader Attributes
initially_first = initially >>= (λ mode. attributes_of (Some mode) <$> may_defer)

-- reads defer [when]
unfoldable pub deferrable_first : Reader Attributes
deferrable_first = deferrable >>= (λ may. (λ mode. attributes_of mode (Some may)) <$> optional k.Initially initially)

-- the constraint attributes, by the kind of the next token
abbrev pub attributes_by : Kind → Reader Attributes
attributes_by k.Initially = initially_first
attributes_by k.Deferrable = deferrable_first
attributes_by k.Not = deferrable_first
attributes_by _ = pure (attributes_of None None)

-- reads [attrs]: the constraint attributes of an assertion
unfoldable pub attributes : Reader Attributes
attributes = by_kind attributes_by

-- reads when [DEFERRABLE]
unfoldable pub column_initially_first : Reader Attributes
column_initially_first =
    initially >>= (λ mode. attributes_of (Some mode) <$> optional k.Deferrable (expect k.Deferrable >> pure true))

-- reads DEFERRABLE [when]
unfoldable pub column_deferrable_first : Reader Attributes
column_deferrable_first =
    expect k.Deferrable >> ((λ mode. attributes_of mode (Some true)) <$> optional k.Initially initially)

-- the attributes of a constraint behind a column, by the kind of the next token
abbrev pub column_attributes_by : Kind → Reader Attributes
column_attributes_by k.Initially = column_initially_first
column_attributes_by k.Deferrable = column_deferrable_first
column_attributes_by _ = pure (attributes_of None None)

-- reads [cattrs]: the attributes of a constraint behind a column
unfoldable pub column_attributes : Reader Attributes
column_attributes = by_kind column_attributes_by

-- reads [ CONSTRAINT name ]
unfoldable pub constraint_name : Reader (Option (List ℕ))
constraint_name = optional k.Constraint (expect k.Constraint >> name)

-- reads [ CONSTRAINT name ] constraint attributes
abbrev pub constrained : Reader Constraint → Reader Attributes → Reader TableConstraint
constrained constraint attributes =
    constraint_name >>= (λ name. constraint >>= (λ c. constraint_of name c <$> attributes))

-- whether what stands behind a column goes on
abbrev pub starts_column_constraint : Kind → Bool
starts_column_constraint k.Not = true
starts_column_constraint k.Primary = true
starts_column_constraint k.Constraint = true
starts_column_constraint k.Unique = true
starts_column_constraint k.Check = true
starts_column_constraint k.References = true
starts_column_constraint _ = false

-- whether definitions go on: with CREATE or INSERT
abbrev pub starts_definition : Kind → Bool
starts_definition k.Create = true
starts_definition k.Insert = true
starts_definition _ = false

-- whether a script goes on: with the name of a session
abbrev pub starts_script_line : Kind → Bool
starts_script_line k.Name = true
starts_script_line _ = false

-- how many parentheses may be opened
module _ (n : ℕ) where
  -- a column's type, by the kind of the next token
  abbrev pub type_by : Kind → Reader ColType
  type_by k.Integer = expect k.Integer >> pure kind_of.Integer
  type_by k.Int = expect k.Int >> pure kind_of.Integer
  type_by k.Varchar = expect k.Varchar >> parens n (varchar_of <$> expect_where k.Number is_width)
  type_by _ = refuse

  -- reads type: a data type
  unfoldable pub column_type : Reader ColType
  column_type = by_kind type_by

  -- reads names: "(" name { "," name } ")"
  unfoldable pub names : Reader (List (List ℕ))
  names = parens n (list name)

  -- reads CHECK "(" cond ")", of a table and the column behind which it stands, if it stands behind one
  unfoldable pub check : (table : List ℕ) → (column : Option (List ℕ)) → Reader Constraint
  check table column = expect k.Check >> (check_of table column <$> parens n (cond_at (n - 1)))

  -- reads REFERENCES name [ "(" name ")" ], behind a column
  unfoldable pub references : (column : List ℕ) → Reader Constraint
  references column =
      expect k.References >> (name >>= (λ other.
      foreign_key (column ∷ []) other <$> optional k.Open ((λ x. x ∷ []) <$> parens n name)))

  -- what a column may be bound to, by the kind of the next token
  abbrev pub column_rule_by : (table column : List ℕ) → Kind → Reader Constraint
  column_rule_by table column k.Unique = expect k.Unique >> pure (Unique (column ∷ []))
  column_rule_by table column k.Check = check table (Some column)
  column_rule_by table column _ = references column

  -- reads UNIQUE | CHECK "(" cond ")" | REFERENCES name [ "(" name ")" ]
  unfoldable pub column_rule : (table column : List ℕ) → Reader Constraint
  column_rule table column = by_kind (column_rule_by table column)

  -- what stands behind a column's type, by the kind of the next token
  abbrev pub column_constraint_by : (table column : List ℕ) → Kind → Reader ColumnConstraint
  column_constraint_by table column k.Not = not_null >> pure on_column.NotNull
  column_constraint_by table column k.Primary = primary_key >> pure on_column.PrimaryKey
  column_constraint_by table column _ =
      on_column.Constraint <$> constrained (column_rule table column) column_attributes

  -- reads colcon: what stands behind a column's type
  unfoldable pub column_constraint : (table column : List ℕ) → Reader ColumnConstraint
  column_constraint table column = by_kind (column_constraint_by table column)

  -- reads UNIQUE names
  unfoldable pub unique : Reader Constraint
  unique = expect k.Unique >> (Unique <$> names)

  -- reads FOREIGN KEY names REFERENCES name [names]
  unfoldable pub foreign : Reader Constraint
  foreign =
      expect k.Foreign >> (expect k.Key >> (names >>= (λ columns.
      expect k.References >> (name >>= (λ other. foreign_key columns other <$> optional k.Open names)))))

  -- what the rows of a table satisfy, by the kind of the next token
  abbrev pub table_rule_by : (table : List ℕ) → Kind → Reader Constraint
  table_rule_by table k.Unique = unique
  table_rule_by table k.Check = check table None
  table_rule_by table _ = foreign

  -- reads tabcon: UNIQUE names | CHECK "(" cond ")" | FOREIGN KEY names REFERENCES name [names]
  unfoldable pub table_rule : (table : List ℕ) → Reader Constraint
  table_rule table = by_kind (table_rule_by table)

  -- reads name type { colcon }
  unfoldable pub column : (table : List ℕ) → Reader TableElement
  column table =
      name >>= (λ name. column_type >>= (λ kind.
      element.Column name kind <$> all starts_column_constraint (column_constraint table name) []))

  -- what stands between the commas of CREATE TABLE, by the kind of the next token
  abbrev pub table_element_by : (table : List ℕ) → Kind → Reader TableElement
  table_element_by table k.Name = column table
  table_element_by table k.Primary = primary_key >> (element.PrimaryKey <$> names)
  table_element_by table _ = element.Constraint <$> constrained (table_rule table) attributes

  -- reads element: a column with its constraints, or a constraint on a line of its own
  unfoldable pub table_element : (table : List ℕ) → Reader TableElement
  table_element table = by_kind (table_element_by table)

-- what may be opened where no parenthesis of the definition is open
module _ (n : ℕ) where
  -- reads a table definition, behind CREATE
  unfoldable pub table : Reader Definition
  table = expect k.Table >> (name >>= (λ name. table_of name <$> parens n (list (table_element (n - 1) name))))

  -- reads an assertion definition (11.34), behind CREATE
  unfoldable pub assertion : Reader Definition
  assertion =
      expect k.Assertion >> (name >>= (λ name.
      expect k.Check >> (parens n (cond_at (n - 1)) >>= (λ c. d.Assertion name c <$> attributes))))

  -- reads an index, behind CREATE
  unfoldable pub index : Reader Definition
  index =
      expect_where k.Name is_index >> (name >>= (λ index.
      expect k.On >> (name >>= (λ table. d.Index index table <$> parens n name))))

  -- what follows CREATE, by the kind of the next token
  abbrev pub created_by : Kind → Reader Definition
  created_by k.Table = table
  created_by k.Assertion = assertion
  created_by k.Name = index
  created_by _ = refuse

  -- reads what follows CREATE: a table, an assertion or an index
  unfoldable pub created : Reader Definition
  created = by_kind created_by

  -- a definition, by the kind of the next token
  abbrev pub definition_by : Kind → Reader Definition
  definition_by k.Create = expect k.Create >> created
  definition_by _ = d.Insert <$> insert n

  -- reads def
  unfoldable pub definition : Reader Definition
  definition = by_kind definition_by

  -- reads def ";"
  unfoldable pub ended_definition : Reader Definition
  ended_definition = definition >>= (λ x. expect k.Semicolon >> pure x)

  -- reads defs: { def ";" }
  unfoldable pub definitions : Reader (List Definition)
  definitions = all starts_definition ended_definition []

  -- reads name ":" event ";"
  unfoldable pub script_line : Reader ScriptLine
  script_line =
      name >>= (λ session.
      expect k.Colon >> (one_event n >>= (λ event. expect k.Semicolon >> pure (script_line_of session event))))

  -- reads script: { name ":" event ";" }
  unfoldable pub script : Reader (List ScriptLine)
  script = all starts_script_line script_line []
