-- The rows of a table by groups: which group each goes to, if any, and which value it counts by there.
use Rattle.std.specs.Prelude.{Bool, false, List, map, filter, Option, Some, None}
use Rattle.std.specs.Option.{option_map}
use Rattle.std.specs.Ordering.{eq_by_cmp}
use Rattle.value.specs.declared.values.Value.{Value}
use Rattle.value.specs.ValueOrder.{value_cmp}
use Rattle.table.specs.Rows.{RowValues}
use Rattle.groups.specs.declared.members.Member.{Member}
use Rattle.groups.specs.Totals.{Members}

-- whether a row that goes to this group, or to none, is one of the group v
abbrev pub is_placed : Value → Option Value → Bool
is_placed v None = false
is_placed v (Some group) = eq_by_cmp value_cmp v group

module _ (place : RowValues → Option Value) where
  -- the rows of a group
  abbrev pub rows_in : List RowValues → Value → List RowValues
  rows_in rows v = filter (λ row. is_placed v (place row)) rows

  module _ (value : RowValues → Value) where
    -- each group with the values of its rows
    abbrev pub members_of : List RowValues → Members
    members_of rows = λ v. map value (rows_in rows v)

    -- what a row, if there is one, is to its group, if it has one
    abbrev pub member_of : Option RowValues → Option Member
    member_of None = None
    member_of (Some row) = option_map (λ group. record { group = group; value = value row }) (place row)
