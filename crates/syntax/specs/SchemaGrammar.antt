-- The grammar of definitions and scripts: which texts of tokens have which trees.
use Rattle.std.specs.Prelude.{ℕ, Bool, true, false, ◌&&◌, nat_le, List, [], ◌∷◌, Option, Some, None, codes}
use Rattle.std.specs.List.{flat_map, list_any}
use Rattle.std.specs.Str.{bytes_eq}
use Rattle.token.specs.declared.kinds.Kind.TheVariants as k
use Rattle.value.specs.declared.values.ColType.{ColType}
use Rattle.value.specs.declared.values.ColType.TheVariants as kind_of
use Rattle.syntax.specs.declared.definitions.ColumnConstraint.{ColumnConstraint}
use Rattle.syntax.specs.declared.definitions.ColumnConstraint.TheVariants as on_column
use Rattle.syntax.specs.declared.definitions.ColumnDefinition.{ColumnDefinition}
use Rattle.syntax.specs.declared.definitions.Constraint.{Constraint}
use Rattle.syntax.specs.declared.definitions.Constraint.TheVariants.{Unique, Check, ForeignKey}
use Rattle.syntax.specs.declared.definitions.TableConstraint.{TableConstraint}
use Rattle.syntax.specs.declared.definitions.TableElement.{TableElement}
use Rattle.syntax.specs.declared.definitions.TableElement.TheVariants as element
use Rattle.syntax.specs.declared.trees.Condition.{Condition}
use Rattle.syntax.specs.declared.trees.Condition.TheVariants.{Not, Exists}
use Rattle.syntax.specs.declared.trees.SelectList.TheVariants.{Star}
use Rattle.syntax.specs.declared.definitions.Attributes.{Attributes}
use Rattle.syntax.specs.declared.statements.Mode.{Mode}
use Rattle.syntax.specs.declared.definitions.Definition.{Definition}
use Rattle.syntax.specs.declared.definitions.Definition.TheVariants as d
use Rattle.syntax.specs.declared.statements.ScriptLine.{ScriptLine}
use Rattle.syntax.specs.declared.statements.Event.{Event}
use Rattle.syntax.specs.declared.wants.PartInParentheses.{PartInParentheses}
use Rattle.syntax.specs.Grammar.{digits_value, name, name_of, inner_cond, nested}
use Rattle.syntax.specs.StatementGrammar.{insert, check_time, one_event}
use Rattle.syntax.specs.Language.{Lexeme, Language, ◌>>=◌, ◌>>◌, ◌<$>◌, ◌∪◌, pure, token, token_where, optional, list, parens, Behind, Some_level}

-- a number from 1 to 255
abbrev pub is_width : Lexeme → Bool
is_width x = nat_le 1 (digits_value x) && nat_le (digits_value x) 255

-- the type of texts up to the length that a number's token says
abbrev pub varchar_of : Lexeme → ColType
varchar_of x = kind_of.Varchar (digits_value x)

-- type: INTEGER | INT | VARCHAR "(" number ")"
unfoldable pub column_type : Language ColType
column_type =
    (token k.Integer >> pure kind_of.Integer) ∪ (token k.Int >> pure kind_of.Integer) ∪
    (token k.Varchar >> parens (varchar_of <$> token_where k.Number is_width))

-- NOT NULL
abbrev pub not_null : Language Lexeme
not_null = token k.Not >> token k.Null

-- PRIMARY KEY
abbrev pub primary_key : Language Lexeme
primary_key = token k.Primary >> token k.Key

-- when: INITIALLY ( DEFERRED | IMMEDIATE )
unfoldable pub initially : Language Mode
initially = token k.Initially >> check_time

-- defer: [NOT] DEFERRABLE
unfoldable pub deferrable : Language Bool
deferrable = (token k.Deferrable >> pure true) ∪ (token k.Not >> (token k.Deferrable >> pure false))

-- the tree of an assertion's constraint attributes, of which each may be missing
abbrev pub attributes_of : Option Mode → Option Bool → Attributes
attributes_of initially deferrable = record { initially = initially; deferrable = deferrable }

-- [ when [defer] | defer [when] ]
unfoldable pub attributes : Language Attributes
attributes =
    pure (attributes_of None None) ∪ (initially >>= (λ mode. attributes_of (Some mode) <$> optional deferrable))
    ∪ (deferrable >>= (λ may. (λ mode. attributes_of mode (Some may)) <$> optional initially))

-- [ when [DEFERRABLE] | DEFERRABLE [when] ], behind a column: there NOT is that of NOT NULL
unfoldable pub column_attributes : Language Attributes
column_attributes =
    pure (attributes_of None None)
    ∪ (initially >>= (λ mode. attributes_of (Some mode) <$> optional (token k.Deferrable >> pure true)))
    ∪ (token k.Deferrable >> ((λ mode. attributes_of mode (Some true)) <$> optional initially))

-- "(" name { "," name } ")"
abbrev pub names : Language (List (List ℕ))
names = parens (list name)

-- ---- the trees of constraints and of tables

-- The condition that a CHECK of a table stands for (11.9): NOT EXISTS (SELECT * FROM table WHERE NOT (condition)).
abbrev pub is_false_of_no_row : (table : List ℕ) → Condition → Condition
is_false_of_no_row table condition = Not (Exists (record {
  select_list = Star;
  table = table;
  correlation_name = None;
  keeps = Some (Not condition);
  group = None;
  having = None;
}))

-- the tree of a CHECK, which may stand behind a column
abbrev pub check_of : (table : List ℕ) → (column : Option (List ℕ)) → Condition → Constraint
check_of table column condition = Check column (is_false_of_no_row table condition)

-- the tree of a foreign key: the columns that refer, the table that they refer to, and its columns where they
-- are written
abbrev pub foreign_key : (columns : List (List ℕ)) → (table : List ℕ) → Option (List (List ℕ)) → Constraint
foreign_key columns table referenced = ForeignKey (record { columns = columns; table = table; referenced = referenced })

-- a constraint with its name and its attributes
abbrev pub constraint_of : Option (List ℕ) → Constraint → Attributes → TableConstraint
constraint_of name constraint attributes = record { name = name; constraint = constraint; attributes = attributes }

-- [ CONSTRAINT name ], what a constraint says, and its attributes
abbrev pub constrained : Language Constraint → Language Attributes → Language TableConstraint
constrained rule attributes =
    optional (token k.Constraint >> name) >>= (λ name. rule >>= (λ c. constraint_of name c <$> attributes))

-- whether it is NOT NULL
abbrev pub is_not_null : ColumnConstraint → Bool
is_not_null on_column.NotNull = true
is_not_null on_column.PrimaryKey = false
is_not_null (on_column.Constraint c) = false

-- the key that PRIMARY KEY makes of a column
abbrev pub key_by : (column : List ℕ) → ColumnConstraint → List (List (List ℕ))
key_by column on_column.NotNull = []
key_by column on_column.PrimaryKey = (column ∷ []) ∷ []
key_by column (on_column.Constraint c) = []

-- the constraint that stands behind a column
abbrev pub constraint_by : ColumnConstraint → List TableConstraint
constraint_by on_column.NotNull = []
constraint_by on_column.PrimaryKey = []
constraint_by (on_column.Constraint c) = c ∷ []

-- the column that a table element defines
abbrev pub column_in : TableElement → List ColumnDefinition
column_in (element.Column name kind constraints) =
    record { name = name; kind = kind; not_null = list_any is_not_null constraints } ∷ []
column_in (element.PrimaryKey columns) = []
column_in (element.Constraint c) = []

-- the columns of each PRIMARY KEY of a table element
abbrev pub keys_in : TableElement → List (List (List ℕ))
keys_in (element.Column name kind constraints) = flat_map (key_by name) constraints
keys_in (element.PrimaryKey columns) = columns ∷ []
keys_in (element.Constraint c) = []

-- the constraints of a table element
abbrev pub constraints_in : TableElement → List TableConstraint
constraints_in (element.Column column kind constraints) = flat_map constraint_by constraints
constraints_in (element.PrimaryKey columns) = []
constraints_in (element.Constraint c) = c ∷ []

-- the tree of a table definition
abbrev pub table_of : (name : List ℕ) → List TableElement → Definition
table_of name elements = d.Table (record {
  name = name;
  columns = flat_map column_in elements;
  keys = flat_map keys_in elements;
  constraints = flat_map constraints_in elements;
})

-- INDEX, which is a name wherever no index is created
abbrev pub is_index : Lexeme → Bool
is_index x = bytes_eq (name_of x) (codes "INDEX")

-- CREATE INDEX name ON name "(" name ")"
unfoldable pub index : Language Definition
index =
    token k.Create >> (token_where k.Name is_index >> (name >>= (λ index.
    token k.On >> (name >>= (λ table. d.Index index table <$> parens name)))))

-- the tree of a line of a script: the name of a session, and its event
abbrev pub script_line_of : List ℕ → Event → ScriptLine
script_line_of session event = record { session = session; event = event }

module _ (inner : Language PartInParentheses) where
  -- CHECK "(" cond ")", of a table and the column behind which it stands, if it stands behind one
  unfoldable pub check : (table : List ℕ) → (column : Option (List ℕ)) → Language Constraint
  check table column = token k.Check >> (check_of table column <$> parens (inner_cond inner))

  -- what a column may be bound to: UNIQUE | CHECK "(" cond ")" | REFERENCES name [ "(" name ")" ]
  unfoldable pub column_rule : (table column : List ℕ) → Language Constraint
  column_rule table column =
      (token k.Unique >> pure (Unique (column ∷ []))) ∪ check table (Some column) ∪
      (token k.References >> (name >>= (λ other.
      foreign_key (column ∷ []) other <$> optional ((λ x. x ∷ []) <$> parens name))))

  -- colcon: NOT NULL | PRIMARY KEY | [ CONSTRAINT name ] ( UNIQUE | .. ) [cattrs]
  unfoldable pub column_constraint : (table column : List ℕ) → Language ColumnConstraint
  column_constraint table column =
      (not_null >> pure on_column.NotNull) ∪ (primary_key >> pure on_column.PrimaryKey) ∪
      (on_column.Constraint <$> constrained (column_rule table column) column_attributes)

  -- tabcon: UNIQUE names | CHECK "(" cond ")" | FOREIGN KEY names REFERENCES name [names]
  unfoldable pub table_rule : (table : List ℕ) → Language Constraint
  table_rule table =
      (token k.Unique >> (Unique <$> names)) ∪ check table None ∪
      (token k.Foreign >> (token k.Key >> (names >>= (λ columns.
      token k.References >> (name >>= (λ other. foreign_key columns other <$> optional names))))))

  -- name type { colcon }
  unfoldable pub column : (table : List ℕ) → Language TableElement
  column table =
      name >>= (λ name. column_type >>= (λ kind.
      element.Column name kind <$> Behind [] (column_constraint table name)))

  -- element: name type { colcon } | PRIMARY KEY names | [ CONSTRAINT name ] tabcon [attrs]
  unfoldable pub table_element : (table : List ℕ) → Language TableElement
  table_element table =
      column table ∪ (primary_key >> (element.PrimaryKey <$> names)) ∪
      (element.Constraint <$> constrained (table_rule table) attributes)

  -- CREATE TABLE name "(" element { "," element } ")"
  unfoldable pub table : Language Definition
  table =
      token k.Create >> (token k.Table >> (name >>= (λ name.
      table_of name <$> parens (list (table_element name)))))

  -- CREATE ASSERTION name CHECK "(" cond ")" [attrs]
  unfoldable pub assertion : Language Definition
  assertion =
      token k.Create >> (token k.Assertion >> (name >>= (λ name.
      token k.Check >> (parens (inner_cond inner) >>= (λ c. d.Assertion name c <$> attributes)))))

  -- def: a table definition, an assertion definition (11.34), an index or an insert statement
  unfoldable pub definition : Language Definition
  definition = table ∪ assertion ∪ index ∪ (d.Insert <$> insert)

  -- def ";"
  unfoldable pub ended_definition : Language Definition
  ended_definition = definition >>= (λ x. token k.Semicolon >> pure x)

  -- { def ";" }
  unfoldable pub definitions : Language (List Definition)
  definitions = Behind [] ended_definition

  -- name ":" event ";"
  unfoldable pub script_line : Language ScriptLine
  script_line =
      name >>= (λ session.
      token k.Colon >> (one_event inner >>= (λ event. token k.Semicolon >> pure (script_line_of session event))))

  -- { name ":" event ";" }
  unfoldable pub script : Language (List ScriptLine)
  script = Behind [] script_line

-- definitions, with parentheses nested less deep than the number
abbrev pub schemas : ℕ → Language (List Definition)
schemas n = definitions (nested n)

-- scripts, with parentheses nested less deep than the number
abbrev pub scripts : ℕ → Language (List ScriptLine)
scripts n = script (nested n)

-- definitions, whose parentheses nest as deep as they like: what DEFS has to be
abbrev pub IsSchema : Language (List Definition)
IsSchema = Some_level schemas

-- a script, whose parentheses nest as deep as they like: what SCRIPT has to be
abbrev pub IsScript : Language (List ScriptLine)
IsScript = Some_level scripts
