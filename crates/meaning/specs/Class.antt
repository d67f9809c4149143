-- Which conditions an assertion may have: by rows, by groups or single (a part of what ISO/IEC 9075:1992, 11.34, lets a
-- search condition be). What a condition is made of, and not how it is found.
use Rattle.std.specs.Prelude.{◌≡◌, ◌⊎◌, ℕ, IsSome, IsNone, List, [], ◌∷◌, ◌++◌, flat_map}
use Rattle.std.specs.Prelude.{Option, Some, None, option_map, unwrap_or}
use Rattle.std.specs.Bool.{IsFalse}
use Rattle.value.specs.declared.comparisons.Comparison.TheVariants.{Equal}
use Rattle.table.specs.Rows.{Layout, Tables, layout_of}
use Rattle.assertion.specs.declared.queries.Link.{Link}
use Rattle.syntax.specs.declared.trees.Aggregate.{Aggregate}
use Rattle.syntax.specs.declared.trees.Argument.{Argument}
use Rattle.syntax.specs.declared.trees.ColumnName.{ColumnName}
use Rattle.syntax.specs.declared.trees.Condition.{Condition, out-Condition}
use Rattle.syntax.specs.declared.trees.Condition.TheOpen.{Condition-F, Expression-F, SelectList-F}
use Rattle.syntax.specs.declared.trees.Condition.TheFolds.{fold-Condition, para-Condition}
use Rattle.syntax.specs.declared.trees.Expression.{Expression, out-Expression}
use Rattle.syntax.specs.declared.trees.SelectList.{SelectList, out-SelectList}
use Rattle.syntax.specs.declared.trees.Query.{Query, out-Query}
use Rattle.syntax.specs.Grammar.{and_layer}
use Rattle.form_check.specs.Scopes.{Scope, is_name_of, own_column}

-- each of a list is so
abbrev pub Each : {X : Type 0} → (X → Type 0) → List X → Type 0
Each P [] = Unit {0}
Each P (x ∷ xs) = P x × Each P xs

-- what is written, if it is, is so
abbrev pub IfWritten : (Condition → Type 0) → Option Condition → Type 0
IfWritten P None = Unit {0}
IfWritten P (Some condition) = P condition

-- ---- what stands in a condition

-- what stands there beside columns and literals: COUNT(*), a set function of a column, EXISTS of a query, and a query
-- that stands for its value
pub data Piece : Type 0 where
  Rows : Piece
  Of : Aggregate → Argument → Piece
  Exists : Query → Piece
  Value : Query → Piece

-- the set functions and queries of a condition, from the left
abbrev pub Pieces : Type 0
Pieces = List Piece

-- the columns outside its set functions and queries
abbrev pub expression_columns :
    Expression-F (List ColumnName) (List ColumnName) (Unit {0}) (Unit {0}) → List ColumnName
expression_columns (Expression-F.Number n) = []
expression_columns (Expression-F.Text t) = []
expression_columns (Expression-F.Column column) = column ∷ []
expression_columns Expression-F.CountRows = []
expression_columns (Expression-F.Aggregate function argument) = []
expression_columns (Expression-F.Subquery query) = []
expression_columns (Expression-F.Negation part) = part
expression_columns (Expression-F.Sum parts) = flat_map (λ part. part) parts
expression_columns (Expression-F.Product parts) = flat_map (λ part. part) parts

-- those of a condition, by those of its parts
abbrev pub condition_columns : Condition-F (List ColumnName) (List ColumnName) (Unit {0}) (Unit {0}) → List ColumnName
condition_columns (Condition-F.Or parts) = flat_map (λ part. part) parts
condition_columns (Condition-F.And parts) = flat_map (λ part. part) parts
condition_columns (Condition-F.Not part) = part
condition_columns (Condition-F.Is part truth) = part
condition_columns (Condition-F.Exists query) = []
condition_columns (Condition-F.Compare left comparison right) = left ++ right
condition_columns (Condition-F.IsNull part) = part
condition_columns (Condition-F.Between x low high) = x ++ (low ++ high)
condition_columns (Condition-F.In x list) = x ++ flat_map (λ part. part) list

-- the columns that a condition names, from the left
abbrev pub columns_in : Condition → List ColumnName
columns_in =
    fold-Condition (List ColumnName) (List ColumnName) (Unit {0}) (Unit {0})
    condition_columns expression_columns (λ l. tt) (λ q. tt)

-- its set functions and queries, and not what stands in those
abbrev pub expression_pieces :
    Expression-F (Condition × Pieces) (Expression × Pieces) (SelectList × Unit {0}) (Query × Unit {0}) → Pieces
expression_pieces (Expression-F.Number n) = []
expression_pieces (Expression-F.Text t) = []
expression_pieces (Expression-F.Column column) = []
expression_pieces Expression-F.CountRows = Rows ∷ []
expression_pieces (Expression-F.Aggregate function argument) = Of function argument ∷ []
expression_pieces (Expression-F.Subquery query) = Value query.0 ∷ []
expression_pieces (Expression-F.Negation part) = part.1
expression_pieces (Expression-F.Sum parts) = flat_map (λ part. part.1) parts
expression_pieces (Expression-F.Product parts) = flat_map (λ part. part.1) parts

-- those of a condition, by those of its parts
abbrev pub condition_pieces :
    Condition-F (Condition × Pieces) (Expression × Pieces) (SelectList × Unit {0}) (Query × Unit {0}) → Pieces
condition_pieces (Condition-F.Or parts) = flat_map (λ part. part.1) parts
condition_pieces (Condition-F.And parts) = flat_map (λ part. part.1) parts
condition_pieces (Condition-F.Not part) = part.1
condition_pieces (Condition-F.Is part truth) = part.1
condition_pieces (Condition-F.Exists query) = Exists query.0 ∷ []
condition_pieces (Condition-F.Compare left comparison right) = left.1 ++ right.1
condition_pieces (Condition-F.IsNull part) = part.1
condition_pieces (Condition-F.Between x low high) = x.1 ++ (low.1 ++ high.1)
condition_pieces (Condition-F.In x list) = x.1 ++ flat_map (λ part. part.1) list

-- the set functions and queries in a condition, from the left
unfoldable pub pieces_in : Condition → Pieces
pieces_in = para-Condition Pieces Pieces (Unit {0}) (Unit {0}) condition_pieces expression_pieces (λ l. tt) (λ q. tt)

-- ---- tables and select lists

-- the table that a query reads, as names in the query see it (6.3, 7.4)
abbrev pub named_as : List ℕ → Layout → Scope
named_as name layout = record { exposed_name = name; layout = layout }

-- the table that a query names, under its correlation name where one is written, if there is one
abbrev pub read_by : Tables → List ℕ → Option (List ℕ) → Option Scope
read_by tables table correlation_name =
    option_map (named_as (unwrap_or correlation_name table)) (layout_of table tables)

-- a name means a column of this table, the innermost
abbrev pub IsOwn : Scope → ColumnName → Type 0
IsOwn scope column = IsSome (own_column scope column)

-- a name means this column of it
abbrev pub IsColumnAt : Scope → ℕ → ColumnName → Type 0
IsColumnAt scope place column = own_column scope column ≡ Some place

-- a literal, or a column that is so
abbrev pub IsSimple : (ColumnName → Type 0) → Expression-F Condition Expression SelectList Query → Type 0
IsSimple P (Expression-F.Number n) = Unit {0}
IsSimple P (Expression-F.Text t) = Unit {0}
IsSimple P (Expression-F.Column column) = P column
IsSimple P other = ⊥

-- what EXISTS may list: *, or one literal or column that is so
abbrev pub IsSimpleList : (ColumnName → Type 0) → SelectList-F Condition Expression SelectList Query → Type 0
IsSimpleList P SelectList-F.Star = Unit {0}
IsSimpleList P (SelectList-F.One expression) = IsSimple P (out-Expression expression)

-- one set function over a table's rows
abbrev pub IsSet : Scope → Expression-F Condition Expression SelectList Query → Type 0
IsSet scope Expression-F.CountRows = Unit {0}
IsSet scope (Expression-F.Aggregate function argument) = IsOwn scope argument.column
IsSet scope other = ⊥

-- what a query lists that stands for its value: one set function
abbrev pub IsSetList : Scope → SelectList-F Condition Expression SelectList Query → Type 0
IsSetList scope SelectList-F.Star = ⊥
IsSetList scope (SelectList-F.One expression) = IsSet scope (out-Expression expression)

-- ---- conditions of one table

-- over columns of a table and literals, without set function and query
pub record IsOverRows (scope : Scope) (condition : Condition) : Type 0 where
  pub columns : Each (IsOwn scope) (columns_in condition)
  pub alone : pieces_in condition ≡ []

-- ---- single

-- (SELECT aggregate FROM t WHERE f)
pub record IsPlainQuery (tables : Tables) (query : Query) : Type 0 where
  pub scope : Scope
  pub reads : read_by tables (out-Query query).table (out-Query query).correlation_name ≡ Some scope
  pub lists : IsSetList scope (out-SelectList (out-Query query).select_list)
  pub filter : IfWritten (IsOverRows scope) (out-Query query).keeps
  pub ungrouped : IsNone (out-Query query).group
  pub whole : IsNone (out-Query query).having

-- what a single condition may have: such a query, which stands for its value
abbrev pub IsPlainPiece : Tables → Piece → Type 0
IsPlainPiece tables Rows = ⊥
IsPlainPiece tables (Of function argument) = ⊥
IsPlainPiece tables (Exists query) = ⊥
IsPlainPiece tables (Value query) = IsPlainQuery tables query

-- a condition without EXISTS over literals and such queries
pub record IsSingle (tables : Tables) (condition : Condition) : Type 0 where
  pub columns : columns_in condition ≡ []
  pub queries : Each (IsPlainPiece tables) (pieces_in condition)

-- ---- by groups

-- what a HAVING may have: COUNT(*), or a set function of a column of the table
abbrev pub IsSetFunction : Scope → Piece → Type 0
IsSetFunction scope Rows = Unit {0}
IsSetFunction scope (Of function argument) = IsOwn scope argument.column
IsSetFunction scope (Exists query) = ⊥
IsSetFunction scope (Value query) = ⊥

-- SELECT k FROM t WHERE f GROUP BY k HAVING h
pub record IsGroupQuery (tables : Tables) (query : Query) : Type 0 where
  pub scope : Scope
  pub column : ColumnName
  pub group : ℕ
  pub having : Condition
  pub reads : read_by tables (out-Query query).table (out-Query query).correlation_name ≡ Some scope
  pub grouped : (out-Query query).group ≡ Some column
  pub is_own : IsColumnAt scope group column
  pub lists : IsSimpleList (IsColumnAt scope group) (out-SelectList (out-Query query).select_list)
  pub filter : IfWritten (IsOverRows scope) (out-Query query).keeps
  pub filtered : (out-Query query).having ≡ Some having
  pub columns : Each (IsColumnAt scope group) (columns_in having)
  pub sets : Each (IsSetFunction scope) (pieces_in having)

-- ---- by rows

-- an expression that is a column of a table
abbrev pub IsColumn : (ColumnName → Type 0) → Expression → Type 0
IsColumn P expression = (name : ColumnName) × (out-Expression expression ≡ Expression-F.Column name) × P name

-- a column of the row around, by a name that is not of the child
abbrev pub IsOuterColumn : Scope → Scope → ℕ → ColumnName → Type 0
IsOuterColumn child root column name =
    IsFalse (is_name_of name.qualifier name.name child) × (own_column root name ≡ Some column)

-- a column of the child on one side, and one of the row around on the other
abbrev pub Joins : Scope → Scope → Link → Expression → Expression → Type 0
Joins child root link inner outer =
    IsColumn (IsColumnAt child link.inner) inner × IsColumn (IsOuterColumn child root link.outer) outer

-- d.x = r.y, either way round
pub record IsLink (child root : Scope) (link : Link) (part : Condition) : Type 0 where
  pub left : Expression
  pub right : Expression
  pub equality : out-Condition part ≡ Condition-F.Compare left Equal right
  pub sides : Joins child root link left right ⊎ Joins child root link right left

-- a part joins the two, by some columns; and one joins the child's key with the row around
abbrev pub JoinsRow : Scope → Scope → Condition → Type 0
JoinsRow child root part = (link : Link) × IsLink child root link part

-- a part joins the child's key with a column of the row around
abbrev pub JoinsKey : Scope → Scope → Condition → Type 0
JoinsKey child root part = (link : Link) × IsLink child root link part × (link.inner ≡ child.layout.key)

-- a name of the child means its column, and any other a column of the row around
abbrev pub IsOfEither : Scope → Scope → ColumnName → Type 0
IsOfEither child root name = IsOwn child name ⊎ ((column : ℕ) × IsOuterColumn child root column name)

-- over a row of the child and the row around it: columns of the two and literals, without set function and query
pub record IsOverBoth (child root : Scope) (condition : Condition) : Type 0 where
  pub columns : Each (IsOfEither child root) (columns_in condition)
  pub alone : pieces_in condition ≡ []

-- none of a list is so
abbrev pub NoneOf : (Condition → Type 0) → List Condition → Type 0
NoneOf P parts = Each (λ part. P part → ⊥) parts

-- the link of these columns, behind the parts before it, is the first part that joins the child's key with the row; or,
-- where none of all does, the first that joins the two
abbrev pub IsFirstLink : Scope → Scope → Link → List Condition → List Condition → Type 0
IsFirstLink child root columns before all =
    ((columns.inner ≡ child.layout.key) × NoneOf (JoinsKey child root) before)
    ⊎ (NoneOf (JoinsKey child root) all × NoneOf (JoinsRow child root) before)

-- a WHERE of which AND joins a link, of these columns, and conditions over both rows. Such a condition may join the two
-- as well; which of several is the link bears on the keys of reads, and not on what is in the class
pub record IsLinkedWhere (child root : Scope) (columns : Link) (condition : Condition) : Type 0 where
  pub before : List Condition
  pub link : Condition
  pub behind : List Condition
  pub parts : and_layer condition (out-Condition condition) ≡ before ++ link ∷ behind
  pub links : IsLink child root columns link
  pub others : Each (IsOverBoth child root) (before ++ behind)
  pub first : IsFirstLink child root columns before (before ++ link ∷ behind)

-- what a query over a table may list
abbrev pub MayList : Type 1
MayList = Scope → SelectList-F Condition Expression SelectList Query → Type 0

-- SELECT .. FROM d WHERE d.x = r.y AND f, where f is over a row of d and the row of r
pub record IsLinkedQuery (tables : Tables) (root : Scope) (Lists : MayList) (query : Query) : Type 0 where
  pub scope : Scope
  pub condition : Condition
  pub reads : read_by tables (out-Query query).table (out-Query query).correlation_name ≡ Some scope
  pub lists : Lists scope (out-SelectList (out-Query query).select_list)
  pub filter : (out-Query query).keeps ≡ Some condition
  pub link : Link
  pub linked : IsLinkedWhere scope root link condition
  pub ungrouped : IsNone (out-Query query).group
  pub whole : IsNone (out-Query query).having

-- what a WHERE over a row may have: EXISTS of a linked query, and one that stands for its value
abbrev pub IsLinkedPiece : Tables → Scope → Piece → Type 0
IsLinkedPiece tables root Rows = ⊥
IsLinkedPiece tables root (Of function column) = ⊥
IsLinkedPiece tables root (Exists query) = IsLinkedQuery tables root (λ child. IsSimpleList (IsOwn child)) query
IsLinkedPiece tables root (Value query) = IsLinkedQuery tables root IsSetList query

-- a condition over a row and its queries
pub record IsRowWhere (tables : Tables) (root : Scope) (condition : Condition) : Type 0 where
  pub columns : Each (IsOwn root) (columns_in condition)
  pub queries : Each (IsLinkedPiece tables root) (pieces_in condition)

-- SELECT * FROM t r WHERE c
pub record IsRowQuery (tables : Tables) (query : Query) : Type 0 where
  pub scope : Scope
  pub reads : read_by tables (out-Query query).table (out-Query query).correlation_name ≡ Some scope
  pub lists : IsSimpleList (IsOwn scope) (out-SelectList (out-Query query).select_list)
  pub filter : IfWritten (IsRowWhere tables scope) (out-Query query).keeps
  pub ungrouped : IsNone (out-Query query).group
  pub whole : IsNone (out-Query query).having

-- ---- the class

-- NOT EXISTS of a query
pub record IsDenied (condition : Condition) (query : Query) : Type 0 where
  pub part : Condition
  pub denies : out-Condition condition ≡ Condition-F.Not part
  pub exists : out-Condition part ≡ Condition-F.Exists query

-- by rows: no row of a table for which a condition is true
abbrev pub IsByRows : Tables → Condition → Type 0
IsByRows tables condition = (query : Query) × IsDenied condition query × IsRowQuery tables query

-- by groups: no group of a table's rows for which a condition is true
abbrev pub IsByGroups : Tables → Condition → Type 0
IsByGroups tables condition = (query : Query) × IsDenied condition query × IsGroupQuery tables query

-- the conditions that an assertion may have: by rows, by groups or single
abbrev pub IsInClass : Tables → Condition → Type 0
IsInClass tables condition = IsByRows tables condition ⊎ (IsByGroups tables condition ⊎ IsSingle tables condition)
