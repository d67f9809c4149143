-- Queries that are linked to the row around them: one of the parts that AND joins in WHERE is an equality of a column
-- of the query's table and a column of the row, and the others are over a row of the query's table and that row.
use Rattle.std.specs.Prelude.{ℕ, ◌==◌, Bool, true, false, List, [], ◌∷◌, find, Option, Some, None, is_some, Result, if◌then◌else◌}
use Rattle.std.specs.Option.{option_and_then}
use Rattle.value.specs.declared.refusals.Refusal.{Refusal}
use Rattle.value.specs.declared.comparisons.Comparison.TheVariants.{Equal}
use Rattle.table.specs.declared.conds.Cond.{Cond}
use Rattle.assertion.specs.declared.queries.Link.{Link}
use Rattle.syntax.specs.declared.trees.ColumnName.{ColumnName}
use Rattle.syntax.specs.declared.trees.Condition.{Condition, out-Condition}
use Rattle.syntax.specs.declared.trees.Condition.TheOpen.{Condition-F, Expression-F}
use Rattle.syntax.specs.declared.trees.Expression.{Expression, out-Expression}
use Rattle.syntax.specs.declared.trees.SelectList.{SelectList}
use Rattle.syntax.specs.declared.trees.Query.{Query}
use Rattle.form_check.specs.Scopes.{Scope, own_column}
use Rattle.form_check.specs.Columns.{outer_column}
use Rattle.value.specs.Results.{each}
use Rattle.form_check.specs.Queries.{joint_condition}

-- the parts that AND joins at the top of a condition
abbrev pub parts_in : Condition → Condition-F Condition Expression SelectList Query → List Condition
parts_in whole (Condition-F.And parts) = parts
parts_in whole other = whole ∷ []

-- the same of a condition alone; one that is no AND is its only part
abbrev pub top_parts : Condition → List Condition
top_parts condition = parts_in condition (out-Condition condition)

-- the column that an expression is, where it is one
abbrev pub name_in : Expression-F Condition Expression SelectList Query → Option ColumnName
name_in (Expression-F.Column column) = Some column
name_in other = None

-- the link of two columns, if both are there
abbrev pub link_by : Option ℕ → Option ℕ → Option Link
link_by None outer = None
link_by (Some inner) None = None
link_by (Some inner) (Some outer) = Some (record { inner = inner; outer = outer })

-- the link of a column of the child and one of the row around, if that is what the names mean
abbrev pub link_of_names : Scope → Scope → ColumnName → ColumnName → Option Link
link_of_names child root inner outer = link_by (own_column child inner) (outer_column child root outer)

-- the first that is there
abbrev pub either : Option Link → Option Link → Option Link
either None other = other
either (Some link) other = Some link

-- the link of two sides that are columns, whichever of them is the child's
abbrev pub link_between : Scope → Scope → Option ColumnName → Option ColumnName → Option Link
link_between child root None right = None
link_between child root (Some left) None = None
link_between child root (Some left) (Some right) =
    either (link_of_names child root left right) (link_of_names child root right left)

-- the link that a condition is, if it is an equality of two columns
abbrev pub link_in : Scope → Scope → Condition-F Condition Expression SelectList Query → Option Link
link_in child root (Condition-F.Compare left Equal right) =
    link_between child root (name_in (out-Expression left)) (name_in (out-Expression right))
link_in child root other = None

-- the columns of the child and of the row around that a part joins, if it is a link
abbrev pub link_of : Scope → Scope → Condition → Option Link
link_of child root part = link_in child root (out-Condition part)

-- whether a link is by this column of the child, if one is given
abbrev pub is_by : Option ℕ → Option Link → Bool
is_by column None = false
is_by None (Some link) = true
is_by (Some column) (Some link) = link.inner == column

-- whether a part is a link, by this column of the child, if one is given
abbrev pub is_link : Scope → Scope → Option ℕ → Condition → Bool
is_link child root column part = is_by column (link_of child root part)

-- the child's key, if one of the parts is a link by it
abbrev pub key_linked : Scope → Scope → List Condition → Option ℕ
key_linked child root parts =
    if is_some (find (is_link child root (Some child.layout.key)) parts) then Some child.layout.key else None

-- whether a part may be the link among these: one by the child's key, if there is one
abbrev pub may_link : Scope → Scope → List Condition → Condition → Bool
may_link child root parts = is_link child root (key_linked child root parts)

-- the link among the parts: the first of the child's key, and else the first of all
abbrev pub first_link : Scope → Scope → List Condition → Option Link
first_link child root parts = option_and_then (link_of child root) (find (may_link child root parts) parts)

-- all but the first that passes a test
abbrev pub beside : (Condition → Bool) → List Condition → List Condition
beside passes [] = []
beside passes (part ∷ rest) = if passes part then rest else part ∷ beside passes rest

-- the parts beside the link, as conditions over a row of the child and the row around it
abbrev pub filter_parts : Scope → Scope → List Condition → Result (List Cond) Refusal
filter_parts child root parts = each (joint_condition child root) (beside (may_link child root parts) parts)
