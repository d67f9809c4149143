-- Under which keys a WHERE and a check of an assertion read, over the written tree.
use Rattle.std.specs.Prelude.{◌≡◌, ◌⊎◌, ℕ, Bool, false, ◌==◌, IsNone, List, [], ◌∷◌, ◌++◌, map, filter, filter_map, flat_map, find}
use Rattle.std.specs.Prelude.{Option, Some, None, option_to_list, Ok, if◌then◌else◌}
use Rattle.std.specs.Option.{option_or}
use Rattle.value.specs.declared.values.Value.{Value}
use Rattle.value.specs.declared.values.Value.TheVariants.{Int, Text}
use Rattle.value.specs.declared.values.Root.{Root}
use Rattle.value.specs.declared.values.Root.TheVariants as root
use Rattle.value.specs.declared.comparisons.Comparison.TheVariants.{Equal}
use Rattle.table.specs.declared.rows.Change.{Change}
use Rattle.table.specs.Rows.{RowValues, Tables, layouts_of, position_of, row_at, value_in}
use Rattle.table.specs.Aggregates.{is_there}
use Rattle.table.specs.declared.conds.Cond.{Cond}
use Rattle.syntax.specs.declared.trees.ColumnName.{ColumnName}
use Rattle.syntax.specs.declared.trees.Condition.{Condition, out-Condition}
use Rattle.syntax.specs.declared.trees.Condition.TheOpen.{Condition-F, Expression-F}
use Rattle.syntax.specs.declared.trees.Expression.{Expression, out-Expression}
use Rattle.syntax.specs.declared.trees.SelectList.{SelectList}
use Rattle.syntax.specs.declared.trees.Query.{Query, out-Query}
use Rattle.syntax.specs.Grammar.{and_layer}
use Rattle.syntax.specs.declared.statements.Assignment.{Assignment}
use Rattle.syntax.specs.declared.statements.Statement.TheVariants as statement
use Rattle.syntax.specs.declared.statements.Select.{Select as Written}
use Rattle.assertion.specs.declared.forms.Form.{Form}
use Rattle.assertion.specs.Declarations.{Declared}
use Rattle.assertion.specs.Meaning.{State, rows_of}
use Rattle.assertion.specs.declared.queries.Link.{Link}
use Rattle.form_check.specs.Scopes.{Scope, own_column}
use Rattle.form_check.specs.Forms.{form_of}
use Rattle.form_check.specs.Queries.{row_filter}
use Rattle.assertcheck.specs.declared.deletes.Delete.{Delete}
use Rattle.assertcheck.specs.declared.selects.Select.{Select}
use Rattle.assertcheck.specs.declared.updates.Update.{Update}
use Rattle.assertcheck.specs.Selects.{select_of}
use Rattle.assertcheck.specs.Statements.{delete_of}
use Rattle.assertcheck.specs.Updates.{update_of}
use Rattle.siread.specs.declared.keys.LockKey.{LockKey}
use Rattle.siread.specs.declared.keys.LockKey.TheVariants as key
use Rattle.alone.specs.Alone.{Standing, Step, step_alone}
use Rattle.alone.specs.Checks.{keys_for, finding_keys, tables_in}
use Rattle.alone.specs.Reads.{Equality, filter_key}
use Rattle.alone.specs.Resolve.{resolution_of}
use Rattle.meaning.specs.Class.{Piece, Pieces, Exists, Value as Worth, pieces_in, read_by}
use Rattle.meaning.specs.Class.{IsColumnAt, IsLinkedWhere, IsDenied}
use Rattle.meaning.specs.Laws.{Pairs}

-- ---- WHERE

-- a number, with or without a sign, or a text
abbrev pub literal : Expression-F Condition Expression SelectList Query → Option Value
literal (Expression-F.Number n) = Some (Int n)
literal (Expression-F.Text t) = Some (Text t)
literal other = None

-- a column of the table
abbrev pub column : Scope → Expression-F Condition Expression SelectList Query → Option ℕ
column scope (Expression-F.Column name) = own_column scope name
column scope other = None

-- column = literal
abbrev pub equality : Option ℕ → Option Value → Option Equality
equality None value = None
equality (Some column) None = None
equality (Some column) (Some value) = Some (record { column = column; value = value })

-- either way round
abbrev pub equality_of : Scope → Condition-F Condition Expression SelectList Query → Option Equality
equality_of scope (Condition-F.Compare left Equal right) =
    option_or (equality (column scope (out-Expression left)) (literal (out-Expression right)))
    (equality (column scope (out-Expression right)) (literal (out-Expression left)))
equality_of scope other = None

-- those among the parts that AND joins at the top, from the left; a WHERE that is missing has none
abbrev pub equalities : Scope → Option Condition → List Equality
equalities scope None = []
equalities scope (Some condition) =
    filter_map (λ part. equality_of scope (out-Condition part)) (and_layer condition (out-Condition condition))

-- the row of the first key = literal, else the rows of the first column = literal, else the table
abbrev pub first_key : ℕ → Option Equality → List Equality → LockKey
first_key table (Some row) all = key.Row (record { table = table; key = row.value })
first_key table None (first ∷ rest) = key.Column table first.column first.value
first_key table None [] = key.Table table

-- the key under which a WHERE of a table reads, by its text; one that is missing reads the table
abbrev pub written_key : ℕ → Scope → Option Condition → LockKey
written_key table scope condition =
    first_key table (find (λ e. e.column == scope.layout.key) (equalities scope condition)) (equalities scope condition)

-- a table that is named, by its place and as names see it
pub record IsTable (tables : Tables) (name : List ℕ) (correlation_name : Option (List ℕ)) (table : ℕ) (scope : Scope) :
    Type 0 where
  pub placed : position_of name tables ≡ Some table
  pub reads : read_by tables name correlation_name ≡ Some scope

-- the key of a statement's table and WHERE
abbrev pub IsWrittenKey : Tables → List ℕ → Option (List ℕ) → Option Condition → LockKey → Type 0
IsWrittenKey tables name correlation_name condition read =
    (table : ℕ) × (scope : Scope) × IsTable tables name correlation_name table scope
    × (read ≡ written_key table scope condition)

-- ---- checks of assertions

-- the rows of a table with a value in a column: the row under it, where that is the key
abbrev pub rows_with : ℕ → Scope → ℕ → Value → LockKey
rows_with table scope place v =
    if place == scope.layout.key then key.Row (record { table = table; key = v }) else key.Column table place v

-- those with x = y, where y is what the row has there, if there is a row and y is not NULL
abbrev pub joined_keys : ℕ → Scope → Link → Option RowValues → List LockKey
joined_keys table scope link None = []
joined_keys table scope link (Some row) =
    map (rows_with table scope link.inner) (filter is_there (value_in link.outer row ∷ []))

-- by d.x = r.y, for the root k of r and the row that stands there: where y is the key of r, the rows of d with x = k,
-- and else those with x = y
abbrev pub link_keys : Scope → Value → Option RowValues → ℕ → Scope → Link → List LockKey
link_keys root k row table scope link =
    if link.outer == root.layout.key then key.Column table link.inner k ∷ [] else joined_keys table scope link row

-- by d.x = r.y, for a change of d: where y is not the key of r, the rows of r with y = x, for x of the old and of the
-- new row, if it is not NULL
abbrev pub found_keys : Scope → ℕ → Change → ℕ → Link → List LockKey
found_keys root of_root change table link =
    if link.outer == root.layout.key then []
    else if table == change.table
    then map (key.Column of_root link.outer)
    (filter is_there (map (value_in link.inner) (option_to_list change.old ++ option_to_list change.new))) else []

-- what is read for the link of a query
pub record IsOfLink (tables : Tables) (root : Scope) (reads : ℕ → Scope → Link → List LockKey) (query : Query)
    (read : List LockKey) : Type 0 where
  pub table : ℕ
  pub scope : Scope
  pub of_table : IsTable tables (out-Query query).table (out-Query query).correlation_name table scope
  pub condition : Condition
  pub filter : (out-Query query).keeps ≡ Some condition
  pub link : Link
  pub linked : IsLinkedWhere scope root link condition
  pub is : read ≡ reads table scope link

-- its whole table
abbrev pub IsTableKey : Tables → Query → LockKey → Type 0
IsTableKey tables query read =
    (table : ℕ) × (position_of (out-Query query).table tables ≡ Some table) × (read ≡ key.Table table)

-- what is read for a query in a WHERE, and for one in a single condition, where it stands for its value
abbrev pub InWhere : {Read : Type 0} → (Query → Read → Type 0) → Piece → Read → Type 0
InWhere P (Exists query) read = P query read
InWhere P (Worth query) read = P query read
InWhere P other read = ⊥

-- the same in a single condition, where only a query that stands for its value may be
abbrev pub InSingle : (Query → LockKey → Type 0) → Piece → LockKey → Type 0
InSingle P (Worth query) read = P query read
InSingle P other read = ⊥

-- the queries in a WHERE
abbrev pub filter_pieces : Option Condition → Pieces
filter_pieces None = []
filter_pieces (Some condition) = pieces_in condition

-- what a check reads: at each root by the row that stands there, and to find the candidates of a change
pub record Looks : Type 0 where
  pub at : State → Root → List LockKey
  pub finds : Change → List LockKey

-- NOT EXISTS (SELECT .. FROM t WHERE c): the row of t at the root, and what each query in c reads, from the left
pub record ReadsRow (tables : Tables) (condition : Condition) (looks : Looks) : Type 0 where
  pub query : Query
  pub denied : IsDenied condition query
  pub ungrouped : IsNone (out-Query query).group
  pub table : ℕ
  pub scope : Scope
  pub of_table : IsTable tables (out-Query query).table (out-Query query).correlation_name table scope
  pub others : State → Value → List (List LockKey)
  pub row : (state : State) (k : Value) → looks.at state (root.Of k)
      ≡ key.Row (record { table = table; key = k }) ∷ flat_map (λ reads. reads) (others state k)
  pub linked : (state : State) (k : Value)
      → Pairs (InWhere (IsOfLink tables scope (link_keys scope k (row_at scope.layout.key k (rows_of table state)))))
      (filter_pieces (out-Query query).keeps) (others state k)
  pub whole : (state : State) → looks.at state root.All ≡ []
  pub found : Change → List (List LockKey)
  pub finding : (change : Change) → looks.finds change ≡ flat_map (λ reads. reads) (found change)
  pub joins : (change : Change) → Pairs (InWhere (IsOfLink tables scope (λ t child. found_keys scope table change t)))
      (filter_pieces (out-Query query).keeps) (found change)

-- with GROUP BY: the rows of the group
pub record ReadsGroup (tables : Tables) (condition : Condition) (looks : Looks) : Type 0 where
  pub query : Query
  pub denied : IsDenied condition query
  pub name : ColumnName
  pub grouped : (out-Query query).group ≡ Some name
  pub table : ℕ
  pub scope : Scope
  pub of_table : IsTable tables (out-Query query).table (out-Query query).correlation_name table scope
  pub column : ℕ
  pub is_own : IsColumnAt scope column name
  pub group : (state : State) (v : Value) → looks.at state (root.Of v) ≡ key.Column table column v ∷ []
  pub whole : (state : State) → looks.at state root.All ≡ []
  pub finding : (change : Change) → looks.finds change ≡ []

-- a single condition: what each query in it reads, from the left
pub record ReadsTables (tables : Tables) (condition : Condition) (looks : Looks) : Type 0 where
  pub queried : (state : State) → Pairs (InSingle (IsTableKey tables)) (pieces_in condition) (looks.at state root.All)
  pub none : (state : State) (v : Value) → looks.at state (root.Of v) ≡ []
  pub finding : (change : Change) → looks.finds change ≡ []

-- a check reads what its condition's text says: by rows, by groups or single
abbrev pub ReadsAsWritten : Tables → Condition → Looks → Type 0
ReadsAsWritten tables condition looks =
    ReadsRow tables condition looks ⊎ (ReadsGroup tables condition looks ⊎ ReadsTables tables condition looks)

-- VERDICT reads whole tables: of the query under NOT EXISTS and of those in its WHERE, or of those in a single
-- condition
abbrev pub ReadsWhole : Tables → Condition → List LockKey → Type 0
ReadsWhole tables condition reads =
    ((query : Query) × IsDenied condition query
    × Pairs (InWhere (IsTableKey tables)) (Exists query ∷ filter_pieces (out-Query query).keeps) reads)
    ⊎ Pairs (InSingle (IsTableKey tables)) (pieces_in condition) reads

-- ---- the laws

-- a WHERE over the rows of one table reads under the key of its text
abbrev pub WhereReads : Type 0
WhereReads = (scope : Scope) (condition : Option Condition) (made : Cond) → row_filter scope condition ≡ Ok made
    → (table : ℕ) → filter_key table scope.layout.key made ≡ written_key table scope condition

-- a SELECT that is taken reads under the key of its text, in a read-only transaction too, and a DELETE and an UPDATE,
-- in one that is not, before what their checks read
abbrev pub StepReads : Tables → List ℕ → Option Condition → Step → Type 0
StepReads tables name condition step =
    (read : LockKey) × (checks : List LockKey) × IsWrittenKey tables name None condition read
    × (step.reads ≡ read ∷ checks)

-- a SELECT that is taken reads under the key of its text, and nothing else
abbrev pub SelectReads : Type 0
SelectReads = (declared : Declared) (read_only : Bool) (start : State) (now : Standing)
    → (written : Written) (select : Select)
    → select_of declared.tables written ≡ Ok select
    → (read : LockKey)
    × IsWrittenKey declared.tables written.table written.correlation_name written.keeps read
    × ((step_alone declared start now (resolution_of declared read_only (statement.Select written))).reads ≡ read ∷ [])

-- a DELETE that is taken, where the transaction may write, reads under the key of its text before its checks
abbrev pub DeleteReads : Type 0
DeleteReads = (declared : Declared) (start : State) (now : Standing)
    → (name : List ℕ) (condition : Option Condition) (delete : Delete)
    → delete_of declared.tables name condition ≡ Ok delete
    → StepReads declared.tables name condition
    (step_alone declared start now (resolution_of declared false (statement.Delete name condition)))

-- an UPDATE that is taken, where the transaction may write, reads under the key of its text before its checks
abbrev pub UpdateReads : Type 0
UpdateReads = (declared : Declared) (start : State) (now : Standing)
    → (name : List ℕ) (sets : List Assignment) (condition : Option Condition) (update : Update)
    → update_of declared.tables name sets condition ≡ Ok update
    → StepReads declared.tables name condition
    (step_alone declared start now (resolution_of declared false (statement.Update name sets condition)))

-- a check reads under the keys of the assertion's text, at a root and to find its candidates, and VERDICT the tables
-- of its text
abbrev pub looks_of : Tables → Form → Looks
looks_of tables form = record {
  at = λ state. keys_for (layouts_of tables) state form;
  finds = finding_keys (layouts_of tables) form;
}

-- a WHERE has one link alone, so that `IsOfLink` leaves no choice of what is read
abbrev pub HasOneLink : Type 0
HasOneLink = (child root : Scope) (condition : Condition) (link other : Link)
    → IsLinkedWhere child root link condition → IsLinkedWhere child root other condition → link ≡ other

-- a check of the form that a condition has reads what the condition's text says
abbrev pub CheckReads : Type 0
CheckReads = (tables : Tables) (condition : Condition) (form : Form) → form_of tables condition ≡ Ok form
    → ReadsAsWritten tables condition (looks_of tables form)

-- VERDICT of the form that a condition has reads the tables of the condition's text
abbrev pub VerdictReads : Type 0
VerdictReads = (tables : Tables) (condition : Condition) (form : Form) → form_of tables condition ≡ Ok form
    → ReadsWhole tables condition (map key.Table (tables_in form))
