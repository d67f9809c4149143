-- The constraints of a table (11.7 to 11.9): the assertion that each of them is.
use Rattle.std.specs.Prelude.{ℕ, pos, ◌==◌, Bool, false, ◌&&◌, ◌||◌, List, [], ◌∷◌, ◌++◌, map, length, slice_get, Option, Some, None, is_some, unwrap_or, Result, Ok, if◌then◌else◌, codes}
use Rattle.std.specs.List.{flat_map, list_any, list_all, zip}
use Rattle.std.specs.Option.{option_map_or}
use Rattle.std.specs.Str.{bytes_eq}
use Rattle.value.specs.declared.refusals.Refusal.{Refusal}
use Rattle.value.specs.declared.refusals.Refusal.TheVariants.{NameTaken, OutsideClass, TypeMismatch, UnknownName}
use Rattle.value.specs.declared.comparisons.Comparison.TheVariants.{Equal, Greater}
use Rattle.value.specs.Results.{and_then, if_holds, result_of_name, unless}
use Rattle.table.specs.Rows.{Layout, Tables, layout_of, column_of}
use Rattle.syntax.specs.declared.trees.ColumnName.{ColumnName}
use Rattle.syntax.specs.declared.trees.Condition.{Condition}
use Rattle.syntax.specs.declared.trees.Condition.TheVariants.{And, Compare, Exists, IsNull, Not}
use Rattle.syntax.specs.declared.trees.Expression.TheVariants.{Column, CountRows, Number}
use Rattle.syntax.specs.declared.trees.SelectList.TheVariants.{Star}
use Rattle.syntax.specs.declared.trees.Query.{Query}
use Rattle.syntax.specs.declared.definitions.Constraint.{Constraint}
use Rattle.syntax.specs.declared.definitions.Constraint.TheVariants as constraint
use Rattle.syntax.specs.declared.definitions.Definition.{Definition}
use Rattle.syntax.specs.declared.definitions.Definition.TheVariants as definition
use Rattle.syntax.specs.declared.definitions.ForeignKey.{ForeignKey}
use Rattle.syntax.specs.declared.definitions.TableConstraint.{TableConstraint}
use Rattle.syntax.specs.declared.definitions.TableDefinition.{TableDefinition}
use Rattle.definitions.specs.declared.constraints.UniqueColumns.{UniqueColumns}

-- ---- names

-- a name behind a `_`
abbrev pub behind_line : List ℕ → List ℕ
behind_line name = codes "_" ++ name

-- names, each behind a `_`
abbrev pub joined : List (List ℕ) → List ℕ
joined names = flat_map behind_line names

-- the names of a constraint's columns in its own name
abbrev pub joined_columns : Constraint → List ℕ
joined_columns (constraint.Unique columns) = joined columns
joined_columns (constraint.Check (Some column) condition) = behind_line column
joined_columns (constraint.Check None condition) = []
joined_columns (constraint.ForeignKey key) = joined key.columns

-- the word at the end of a constraint's name
abbrev pub last_word : Constraint → List ℕ
last_word (constraint.Unique columns) = codes "_UNIQUE"
last_word (constraint.Check column condition) = codes "_CHECK"
last_word (constraint.ForeignKey key) = codes "_FOREIGN"

-- the name of a constraint's assertion: that which CONSTRAINT gives it, or else one that is made of its table's
abbrev pub constraint_name : (table : List ℕ) → TableConstraint → List ℕ
constraint_name table c = unwrap_or c.name (table ++ joined_columns c.constraint ++ last_word c.constraint)

-- ---- trees

-- The names that rows go by in the assertions of constraints: they have a blank, so that no token spells them, and no
-- table and no correlation name of a text is one.
abbrev pub own_row : List ℕ
own_row = codes "own row"

abbrev pub other_row : List ℕ
other_row = codes "other row"

-- a column of a row
abbrev pub column_of_row : (row column : List ℕ) → ColumnName
column_of_row row column = record { qualifier = Some row; name = column }

-- row.column IS NOT NULL
abbrev pub is_there : (row column : List ℕ) → Condition
is_there row column = Not (IsNull (Column (column_of_row row column)))

-- all of these, of which there is one at least
abbrev pub all_of : List Condition → Condition
all_of (part ∷ []) = part
all_of parts = And parts

-- NOT EXISTS (query)
abbrev pub no_row : Query → Condition
no_row query = Not (Exists query)

-- the column by which groups are made: GROUP BY takes one, and of several there is no such query
abbrev pub only_column : (row : List ℕ) → List (List ℕ) → Option ColumnName
only_column row (column ∷ []) = Some (column_of_row row column)
only_column row columns = None

-- NOT EXISTS (SELECT * FROM table WHERE columns IS NOT NULL GROUP BY columns HAVING COUNT(*) > 1)
abbrev pub no_two_agree : (table : List ℕ) → (columns : List (List ℕ)) → Condition
no_two_agree table columns = no_row (record {
  select_list = Star;
  table = table;
  correlation_name = Some own_row;
  keeps = Some (all_of (map (is_there own_row) columns));
  group = only_column own_row columns;
  having = Some (Compare CountRows Greater (Number (pos 1)));
})

-- that a column of the row that is referred to is equal to one of the row that refers
abbrev pub agree : List ℕ → List ℕ × List ℕ → Condition
agree own p = Compare (Column (column_of_row other_row p.1)) Equal (Column (column_of_row own p.0))

-- SELECT * FROM other WHERE its columns are equal to those of the row around
abbrev pub rows_referred_to : (own : List ℕ) → ForeignKey → (referenced : List (List ℕ)) → Query
rows_referred_to own key referenced = record {
  select_list = Star;
  table = key.table;
  correlation_name = Some other_row;
  keeps = Some (all_of (map (agree own) (zip key.columns referenced)));
  group = None;
  having = None;
}

-- NOT EXISTS (SELECT * FROM table WHERE columns IS NOT NULL AND NOT EXISTS (SELECT * FROM other WHERE they agree))
abbrev pub each_is_there : (table : List ℕ) → ForeignKey → (referenced : List (List ℕ)) → Condition
each_is_there table key referenced = no_row (record {
  select_list = Star;
  table = table;
  correlation_name = Some own_row;
  keeps = Some (all_of (map (is_there own_row) key.columns ++ no_row (rows_referred_to own_row key referenced) ∷ []));
  group = None;
  having = None;
})

-- ---- faults

-- whether a table has the column
abbrev pub has_column : Tables → (table name : List ℕ) → Bool
has_column tables table name =
    option_map_or (λ layout. is_some (column_of name layout.columns)) (layout_of table tables) false

-- whether a name is among others
abbrev pub has_name : List ℕ → List (List ℕ) → Bool
has_name name names = list_any (λ other. bytes_eq other name) names

-- the fault of the first name that is no column of the table, or that stands before it
abbrev pub columns_fault_from : Tables → (table : List ℕ) → (before names : List (List ℕ)) → Option Refusal
columns_fault_from tables table before [] = None
columns_fault_from tables table before (name ∷ rest) =
    if has_column tables table name
    then (if has_name name before then Some (NameTaken name)
    else columns_fault_from tables table (before ++ name ∷ []) rest)
    else Some (UnknownName name)

-- the fault of some columns that a constraint lists
abbrev pub columns_fault : Tables → (table : List ℕ) → (names : List (List ℕ)) → Option Refusal
columns_fault tables table names = columns_fault_from tables table [] names

-- ---- UNIQUE (11.7)

-- the condition of UNIQUE
abbrev pub unique_condition : Tables → (table : List ℕ) → (columns : List (List ℕ)) → Result Condition Refusal
unique_condition tables table columns = unless (columns_fault tables table columns) (Ok (no_two_agree table columns))

-- the columns under UNIQUE of a constraint
abbrev pub unique_by_constraint : (table : List ℕ) → Constraint → List UniqueColumns
unique_by_constraint table (constraint.Unique columns) = record { table = table; columns = columns } ∷ []
unique_by_constraint table (constraint.Check column condition) = []
unique_by_constraint table (constraint.ForeignKey key) = []

abbrev pub unique_by : (table : List ℕ) → TableConstraint → List UniqueColumns
unique_by table c = unique_by_constraint table c.constraint

-- those of a table
abbrev pub unique_of : TableDefinition → List UniqueColumns
unique_of t = flat_map (unique_by t.name) t.constraints

-- those of a definition
abbrev pub unique_in : Definition → List UniqueColumns
unique_in (definition.Table t) = unique_of t
unique_in (definition.Assertion name condition attributes) = []
unique_in (definition.Insert insert) = []
unique_in (definition.Index name table column) = []

-- ---- FOREIGN KEY (11.8)

-- the name of a table's key
abbrev pub key_columns : Layout → List (List ℕ)
key_columns layout = option_map_or (λ column. column.name ∷ []) (slice_get layout.columns layout.key) []

-- the columns that a foreign key refers to: those that are written, or else the key of its table
abbrev pub referenced_columns : Tables → ForeignKey → Result (List (List ℕ)) Refusal
referenced_columns tables key =
    and_then (result_of_name key.table (layout_of key.table tables)) (λ layout.
    Ok (unwrap_or key.referenced (key_columns layout)))

-- whether some columns, none of which stands twice, are as many as others and among them
abbrev pub has_columns : (among columns : List (List ℕ)) → Bool
has_columns among columns = (length among == length columns) && list_all (λ column. has_name column among) columns

-- whether a UNIQUE of a table has these columns, in any order
abbrev pub are_under_unique : List UniqueColumns → (table : List ℕ) → (columns : List (List ℕ)) → Bool
are_under_unique unique table columns =
    list_any (λ u. bytes_eq u.table table && has_columns u.columns columns) unique

-- whether these columns are the key of a table
abbrev pub is_key : Tables → (table : List ℕ) → (columns : List (List ℕ)) → Bool
is_key tables table (column ∷ []) =
    option_map_or (λ layout. option_map_or (λ place. place == layout.key) (column_of column layout.columns) false)
    (layout_of table tables) false
is_key tables table columns = false

-- whether no two rows of a table can agree in these columns: they are its key, or under UNIQUE
abbrev pub is_one_row : Tables → List UniqueColumns → (table : List ℕ) → (columns : List (List ℕ)) → Bool
is_one_row tables unique table columns = is_key tables table columns || are_under_unique unique table columns

-- the condition of FOREIGN KEY
abbrev pub foreign_key_condition : Tables → List UniqueColumns → (table : List ℕ) → ForeignKey
    → Result Condition Refusal
foreign_key_condition tables unique table key =
    unless (columns_fault tables table key.columns) (
    and_then (referenced_columns tables key) (λ referenced.
    unless (columns_fault tables key.table referenced) (
    if_holds (length referenced == length key.columns) TypeMismatch (
    if_holds (is_one_row tables unique key.table referenced) OutsideClass (
    Ok (each_is_there table key referenced))))))

-- ---- each

-- the condition of a constraint's assertion; that of a CHECK is in its tree
abbrev pub condition_of : Tables → List UniqueColumns → (table : List ℕ) → Constraint → Result Condition Refusal
condition_of tables unique table (constraint.Unique columns) = unique_condition tables table columns
condition_of tables unique table (constraint.Check column condition) = Ok condition
condition_of tables unique table (constraint.ForeignKey key) = foreign_key_condition tables unique table key
