-- What is lent, as what it shows.
use Rattle.std.specs.Prelude.{ℕ, List, map, Option}
use Rattle.syntax.specs.declared.trees.ColumnName.{ColumnName}
use Rattle.table.specs.declared.exprs.Expr.{Expr}
use Rattle.form_check.specs.Scopes.{own_column}
use Rattle.form_check.specs.ShownScopes.{lent_scope}
use Rattle.form_check.specs.Columns.{no_column, grouping_column, grouped_column, at_place, of_both}
use Rattle.form_check.specs.declared.leaves.Leaf.{Leaf as Lent}
use Rattle.form_check.specs.declared.leaves.Leaf.TheVariants as lent
use Rattle.form_check.specs.declared.leaves.Columns.{Columns}
use Rattle.form_check.specs.declared.leaves.Columns.TheVariants as columns
use Rattle.form_check.specs.Leaves.{Leaf, Leaves, Rows, Of, Exists, Value}

-- what stands in a slot, of a lent tree
abbrev pub shown_leaf : Lent → Leaf
shown_leaf lent.Rows = Rows
shown_leaf (lent.Of function argument) = Of function argument.now
shown_leaf (lent.Exists query) = Exists query.now
shown_leaf (lent.Value query) = Value query.now

-- what stands in the slots of a condition, of lent trees
abbrev pub shown_leaves : List Lent → Leaves
shown_leaves leaves = map shown_leaf leaves

-- the column of the row at hand that a name means, of those that may stand there
abbrev pub place : Columns → ColumnName → Option ℕ
place columns.None = no_column
place (columns.Own scope) = own_column (lent_scope scope)
place (columns.Grouping scope group) = grouping_column (lent_scope scope) group
place (columns.Grouped scope grouping) = grouped_column (lent_scope scope) grouping.now
place (columns.Both child root) = own_column (lent_scope child)

-- what a name means, where it may stand there
abbrev pub meaning_of : Columns → ColumnName → Option Expr
meaning_of columns.None = at_place no_column
meaning_of (columns.Own scope) = at_place (own_column (lent_scope scope))
meaning_of (columns.Grouping scope group) = at_place (grouping_column (lent_scope scope) group)
meaning_of (columns.Grouped scope grouping) = at_place (grouped_column (lent_scope scope) grouping.now)
meaning_of (columns.Both child root) = of_both (lent_scope child) (lent_scope root)
