-- Queries whose filter asks what the row around holds: each row around is a group.
use Rattle.std.specs.Prelude.{◌≡◌, ℕ, Bool, true, false, ◌&&◌, List, map, filter, Option, Some, None, if◌then◌else◌}
use Rattle.value.specs.declared.values.Value.{Value}
use Rattle.value.specs.declared.values.Value.TheVariants.{Null}
use Rattle.value.specs.declared.comparisons.Comparison.TheVariants.{Equal}
use Rattle.value.specs.declared.truths.Truth.TheVariants.{True}
use Rattle.value.specs.Truths.{is_of}
use Rattle.table.specs.Rows.{RowValues, value_in, row_at}
use Rattle.table.specs.Values.{comparison_truth}
use Rattle.table.specs.Eval.{keeps}
use Rattle.table.specs.declared.conds.Cond.{Cond}
use Rattle.assertion.specs.declared.queries.Query.{Query}
use Rattle.assertion.specs.Meaning.{links}
use Rattle.groups.specs.Answers.{value_for}
use Rattle.groups.specs.Totals.{Members, AreWithin}
use Rattle.roots.specs.declared.grouped.Around.{Around}
use Rattle.roots.specs.declared.grouped.Grouping.{Grouping}
use Rattle.roots.specs.Summaries.{rows_beside, rows_beside_one}

-- whether an equality of two values is true
abbrev pub is_equal : Value → Value → Bool
is_equal v w = is_of (comparison_truth Equal v w) True

-- what a row, if there is one, has in a column; NULL if there is none
abbrev pub value_in_one : ℕ → Option RowValues → Value
value_in_one column None = Null
value_in_one column (Some row) = value_in column row

-- what the set function looks at in the rows beside a row
abbrev pub values_beside : Around → Query Grouping → List RowValues → RowValues → List Value
values_beside around q rows row = map (value_for q.aggregate) (rows_beside around.link q.filter rows row)

-- what the set function looks at in those of some rows that the filter keeps, with these slots
abbrev pub kept_values : Query Grouping → List Value → List RowValues → List Value
kept_values q slots rows = map (value_for q.aggregate) (filter (λ row. keeps row slots q.filter) rows)

-- each row around, under its key, with what the set function looks at in the rows beside it
abbrev pub around_members : Around → Query Grouping → List RowValues → List RowValues → Members
around_members around q outer rows =
    λ v. map (value_for q.aggregate) (rows_beside_one around.link q.filter rows (row_at around.key v outer))

-- the group of a row by one row around: that one's key, where it is linked and kept beside it
abbrev pub place_beside : Around → Cond → RowValues → RowValues → Option Value
place_beside around restriction row linked =
    if links around.link row linked && keeps linked row restriction then Some (value_in around.key row) else None

-- whether the row around, if there is one, has this value in the column of the link
abbrev pub is_linked_to : Around → Value → Option RowValues → Bool
is_linked_to around v None = false
is_linked_to around v (Some row) = is_equal v (value_in around.link.outer row)

-- the groups of the rows around that have a value in the column of the link turn from those of some rows to those of
-- others, and all other groups stay
pub record IsTurn (around : Around) (q : Query Grouping) (outer : List RowValues) (value : Value)
    (rows changed : List RowValues) (before after : Members) : Type 0 where
  pub elsewhere : (v : Value) → is_linked_to around value (row_at around.key v outer) ≡ false → after v ≡ before v
  pub old : (v : Value) (row : RowValues) → row_at around.key v outer ≡ Some row
      → is_equal value (value_in around.link.outer row) ≡ true → before v ≡ values_beside around q rows row
  pub new : (v : Value) (row : RowValues) → row_at around.key v outer ≡ Some row
      → is_equal value (value_in around.link.outer row) ≡ true → after v ≡ values_beside around q changed row
  pub within : AreWithin before
  pub within_after : AreWithin after
