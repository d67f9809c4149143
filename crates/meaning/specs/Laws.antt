-- The laws of what is written and what is resolved.
use Rattle.std.specs.Prelude.{◌≡◌, ◌↔◌, ℕ, Bool, true, false, ◌||◌, is_some, Contains, IsNone, IsTrue, List, [], ◌∷◌, ◌++◌, filter, map}
use Rattle.std.specs.Prelude.{Option, Some, None, option_map, Ok}
use Rattle.std.specs.Bool.{IsFalse}
use Rattle.value.specs.declared.values.Value.{Value}
use Rattle.value.specs.declared.values.Value.TheVariants as value
use Rattle.value.specs.declared.values.Root.{Root}
use Rattle.table.specs.Rows.{RowValues, Tables, layouts_of}
use Rattle.table.specs.declared.exprs.Expr.{Expr}
use Rattle.table.specs.declared.conds.Cond.{Cond}
use Rattle.table.specs.Eval as resolved
use Rattle.assertion.specs.declared.forms.Form.{Form}
use Rattle.assertion.specs.declared.assertions.Assertion.{Assertion}
use Rattle.assertion.specs.declared.queries.Link.{Link}
use Rattle.assertion.specs.Meaning.{State, rows_of, filtered_rows, bad_roots, verdict_of, least_bad_of}
use Rattle.syntax.specs.declared.trees.ColumnName.{ColumnName}
use Rattle.syntax.specs.declared.trees.Condition.{Condition, out-Condition}
use Rattle.syntax.specs.Grammar.{and_layer}
use Rattle.syntax.specs.declared.trees.Expression.{Expression}
use Rattle.syntax.specs.declared.definitions.Attributes.{Attributes}
use Rattle.syntax.specs.declared.statements.UpdateSource.{UpdateSource}
use Rattle.syntax.specs.declared.statements.UpdateSource.TheVariants.{Null, To}
use Rattle.syntax.specs.declared.statements.Assignment.{Assignment}
use Rattle.syntax.specs.declared.statements.DerivedColumn.{DerivedColumn}
use Rattle.syntax.specs.declared.statements.Select.{Select as Written}
use Rattle.form_check.specs.Scopes.{Scope, named_in}
use Rattle.form_check.specs.Names.{condition_fault}
use Rattle.form_check.specs.Forms.{form_of}
use Rattle.form_check.specs.Queries.{row_condition, row_expression}
use Rattle.assertcheck.specs.Forms.{is_typed_form}
use Rattle.assertcheck.specs.Widths.{is_bounded_form}
use Rattle.assertcheck.specs.declared.deletes.Delete.{Delete}
use Rattle.assertcheck.specs.declared.selects.Select.{Select}
use Rattle.assertcheck.specs.declared.updates.Setting.{Setting}
use Rattle.assertcheck.specs.declared.updates.Update.{Update}
use Rattle.assertcheck.specs.Assertions.{are_at_odds, attributes_of, checked_assertion}
use Rattle.assertcheck.specs.Selects.{select_of}
use Rattle.assertcheck.specs.Statements.{delete_of, places_from}
use Rattle.assertcheck.specs.Updates.{update_of}
use Rattle.alone.specs.Groups.{groups_by}
use Rattle.alone.specs.Statements.{listed_rows}
use Rattle.meaning.specs.Class.{Each, IsInClass, IsLinkedWhere, IsOverBoth, JoinsRow}
use Rattle.meaning.specs.Meaning.{Reference, References, truth, evaluation_of, passes, with_rows, table_of}
use Rattle.meaning.specs.Meaning.{any_sets, column_values, first_value, values_at}
use Rattle.meaning.specs.Meaning.{written_truth, written_bad_roots, written_least}

-- a table as names see it, with rows at hand
abbrev pub reference_to : Scope → List RowValues → Reference
reference_to scope rows = record { table = scope; rows = rows }

-- ---- rows

-- a WHERE over the rows of one table has on each row the truth of its resolved condition, whatever stands around it; so
-- it keeps the same rows
abbrev pub KeepsRows : Type 0
KeepsRows = (scope : Scope) (condition : Condition) (made : Cond) → row_condition scope condition ≡ Ok made
    → (tables : Tables) (state : State) (row : RowValues) (outer : References)
    → truth tables state condition (reference_to scope (row ∷ []) ∷ outer) ≡ resolved.truth row [] made

-- an expression over the rows of one table has on each row the value of its resolved expression
abbrev pub GivesValues : Type 0
GivesValues = (scope : Scope) (expression : Expression) (made : Expr) → row_expression scope expression ≡ Ok made
    → (tables : Tables) (state : State) (row : RowValues) (outer : References)
    → (evaluation_of tables state expression).value (reference_to scope (row ∷ []) ∷ outer)
    ≡ resolved.answer row [] made

-- ---- forms

-- on every state a form is bad at the roots of what is written, true, false or unknown as it is, and its least bad root
-- is that one's
abbrev pub HasRootsOf : Tables → Condition → Form → Type 0
HasRootsOf tables condition form = (state : State) (r : Root)
    → Contains (written_bad_roots tables state condition) r ↔ Contains (bad_roots (layouts_of tables) form state) r

-- on every state a form is true, false or unknown as what is written
abbrev pub HasTruthOf : Tables → Condition → Form → Type 0
HasTruthOf tables condition form = (state : State)
    → written_truth tables state condition ≡ verdict_of (layouts_of tables) form state

-- on every state a form has the least bad root of what is written
abbrev pub HasLeastOf : Tables → Condition → Form → Type 0
HasLeastOf tables condition form = (state : State)
    → written_least tables state condition ≡ least_bad_of (layouts_of tables) form state

-- so it is of the form that a condition has
abbrev pub HasWrittenRoots : Type 0
HasWrittenRoots = (tables : Tables) (condition : Condition) (form : Form)
    → form_of tables condition ≡ Ok form → HasRootsOf tables condition form

-- the form that a condition has has the truth of its text
abbrev pub HasWrittenTruth : Type 0
HasWrittenTruth = (tables : Tables) (condition : Condition) (form : Form)
    → form_of tables condition ≡ Ok form → HasTruthOf tables condition form

-- a condition has a form exactly where it is in the class
abbrev pub HasFormInClass : Type 0
HasFormInClass = (tables : Tables) (condition : Condition)
    → ((form : Form) × (form_of tables condition ≡ Ok form)) ↔ IsInClass tables condition

-- a WHERE has a link wherever one of its parts joins the two and the others are over both rows
abbrev pub HasALink : Type 0
HasALink = (child root : Scope) (condition part : Condition) (before behind : List Condition)
    → and_layer condition (out-Condition condition) ≡ before ++ part ∷ behind
    → JoinsRow child root part → Each (IsOverBoth child root) (before ++ behind)
    → (link : Link) × IsLinkedWhere child root link condition

-- the form that a condition has has the least bad root of its text
abbrev pub HasWrittenLeast : Type 0
HasWrittenLeast = (tables : Tables) (condition : Condition) (form : Form)
    → form_of tables condition ≡ Ok form → HasLeastOf tables condition form

-- and it keeps its form where more tables come after those that it was given one over
abbrev pub KeepsForm : Type 0
KeepsForm = (tables more : Tables) (condition : Condition) (form : Form)
    → form_of tables condition ≡ Ok form → form_of (tables ++ more) condition ≡ Ok form

-- ---- assertions

-- an assertion is the one that is written: it has the name and the attributes of its text, and on every state the bad
-- roots, the truth and the least bad root of its condition
pub record IsWritten (tables : Tables) (name : List ℕ) (condition : Condition) (attributes : Attributes)
    (assertion : Assertion) : Type 0 where
  pub named : assertion.name ≡ name
  pub attributed : assertion.attributes ≡ attributes_of attributes
  pub roots : HasRootsOf tables condition assertion.form
  pub truth : HasTruthOf tables condition assertion.form
  pub least : HasLeastOf tables condition assertion.form

-- an assertion that is taken is the one that is written
abbrev pub TakesWritten : Type 0
TakesWritten = (tables : Tables) (name : List ℕ) (condition : Condition) (attributes : Attributes)
    → (assertion : Assertion) → checked_assertion tables name condition attributes ≡ Ok assertion
    → IsWritten tables name condition attributes assertion

-- and it stays that where more tables are created after it
abbrev pub StaysWritten : Type 0
StaysWritten = (tables more : Tables) (name : List ℕ) (condition : Condition) (attributes : Attributes)
    → (assertion : Assertion) → checked_assertion tables name condition attributes ≡ Ok assertion
    → IsWritten (tables ++ more) name condition attributes assertion

-- what may be taken: attributes without contradiction, known names, a condition of the class, and in its form values of
-- one type compared and expressions with a bound
pub record MayBeTaken (tables : Tables) (condition : Condition) (attributes : Attributes) : Type 0 where
  pub agreed : IsFalse (are_at_odds attributes)
  pub known : IsNone (condition_fault tables condition [])
  pub shaped : IsInClass tables condition
  pub typed : (form : Form) → form_of tables condition ≡ Ok form → IsTrue (is_typed_form (layouts_of tables) form)
  pub bounded : (form : Form) → form_of tables condition ≡ Ok form → IsTrue (is_bounded_form form)

-- exactly that is taken
abbrev pub TakesExactly : Type 0
TakesExactly = (tables : Tables) (name : List ℕ) (condition : Condition) (attributes : Attributes)
    → ((assertion : Assertion) × (checked_assertion tables name condition attributes ≡ Ok assertion))
    ↔ MayBeTaken tables condition attributes

-- ---- statements

-- the rows of a table for which a WHERE is true, as it is written
abbrev pub rows_by_filter : Tables → State → List ℕ → Option (List ℕ) → Option Condition → List RowValues
rows_by_filter tables state name correlation_name condition =
    let table = table_of tables state name correlation_name in
    filter (λ row. passes (option_map (truth tables state) condition) (with_rows table (row ∷ []) [])) table.rows

-- a DELETE is of the rows that its WHERE says
abbrev pub DeletesRows : Type 0
DeletesRows = (tables : Tables) (name : List ℕ) (condition : Option Condition) (delete : Delete)
    → delete_of tables name condition ≡ Ok delete
    → (state : State)
    → rows_by_filter tables state name None condition ≡ filtered_rows delete.filter (rows_of delete.table state)

-- what a SELECT lists of some rows at hand, as it is written: its derived columns, or for * those of its table (7.9)
abbrev pub written_columns : Tables → State → Reference → Option (List DerivedColumn) → List RowValues → RowValues
written_columns tables state table None rows =
    map (λ place. first_value (values_at (Some place) rows)) (places_from 0 table.table.layout.columns)
written_columns tables state table (Some columns) rows =
    map (λ column. (evaluation_of tables state column.value).value (with_rows table rows [])) columns

-- whether a set function stands in what a SELECT lists
abbrev pub lists_sets : Tables → State → Option (List DerivedColumn) → Bool
lists_sets tables state None = false
lists_sets tables state (Some columns) = any_sets (map (λ column. evaluation_of tables state column.value) columns)

-- the values of a row in the columns of GROUP BY
abbrev pub grouping_values : Reference → List ColumnName → RowValues → List Value
grouping_values table names row = map (λ name. first_value (column_values name (with_rows table (row ∷ []) []))) names

-- what a SELECT lists something of, as it is written: the groups that GROUP BY makes of its rows, in the order of their
-- values (7.7; it has a column in every text); with HAVING or a set function alone one group of them all, and else each
-- row on its own (7.9)
abbrev pub written_groups : Reference → Option (List ColumnName) → Bool → List RowValues → List (List RowValues)
written_groups table (Some []) sets rows = rows ∷ []
written_groups table (Some (name ∷ names)) sets rows = groups_by (grouping_values table (name ∷ names)) rows
written_groups table None true rows = rows ∷ []
written_groups table None false rows = map (λ row. row ∷ []) rows

-- the rows that a SELECT gives, as it is written: FROM and WHERE, GROUP BY, HAVING and the list, one after the other
abbrev pub written_select : Tables → State → Written → List RowValues
written_select tables state select =
    let table = table_of tables state select.table select.correlation_name in
    map (written_columns tables state table select.columns) (
    filter (λ rows. passes (option_map (truth tables state) select.having) (with_rows table rows [])) (
    written_groups table select.group_by (is_some select.having || lists_sets tables state select.columns) (
    rows_by_filter tables state select.table select.correlation_name select.keeps)))

-- a SELECT gives the rows that are written
abbrev pub SelectsWritten : Type 0
SelectsWritten = (tables : Tables) (written : Written) (select : Select)
    → select_of tables written ≡ Ok select
    → (state : State)
    → written_select tables state written
    ≡ listed_rows select.listing (filtered_rows select.filter (rows_of select.table state))

-- an UPDATE changes the rows that its WHERE says
abbrev pub UpdatesRows : Type 0
UpdatesRows = (tables : Tables) (name : List ℕ) (sets : List Assignment) (condition : Option Condition)
    → (update : Update)
    → update_of tables name sets condition ≡ Ok update
    → (state : State)
    → rows_by_filter tables state name None condition ≡ filtered_rows update.filter (rows_of update.table state)

-- two lists are as long as each other, and so is each pair of them
abbrev pub Pairs : {X Y : Type 0} → (X → Y → Type 0) → List X → List Y → Type 0
Pairs P [] [] = Unit {0}
Pairs P [] (y ∷ ys) = ⊥
Pairs P (x ∷ xs) [] = ⊥
Pairs P (x ∷ xs) (y ∷ ys) = P x y × Pairs P xs ys

-- a name is of the column at a place of a table
abbrev pub IsPlaceOf : Scope → List ℕ → ℕ → Type 0
IsPlaceOf scope name place = named_in name scope ≡ Some place

-- the value that an UPDATE writes for a column of a row, over the row as it was (13.10)
abbrev pub written_value : Tables → State → Reference → UpdateSource → RowValues → Value
written_value tables state table Null row = value.Null
written_value tables state table (To expression) row =
    (evaluation_of tables state expression).value (with_rows table (row ∷ []) [])

-- the value that it gives
abbrev pub given_value : Option Expr → RowValues → Value
given_value None row = value.Null
given_value (Some made) row = resolved.answer row [] made

-- a column gets what is assigned to its name
pub record Gives (tables : Tables) (state : State) (table : Reference) (assignment : Assignment) (setting : Setting) :
    Type 0 where
  pub column : IsPlaceOf table.table assignment.column setting.column
  pub value : (row : RowValues) → written_value tables state table assignment.value row ≡ given_value setting.value row

-- an UPDATE gives the columns that are written the values that are written
abbrev pub UpdatesColumns : Type 0
UpdatesColumns = (tables : Tables) (name : List ℕ) (sets : List Assignment) (condition : Option Condition)
    → (update : Update)
    → update_of tables name sets condition ≡ Ok update
    → (state : State) → Pairs (Gives tables state (table_of tables state name None)) sets update.sets
