-- The roots whose totals a change can turn, where each row around is a group: those of the rows beside which its old or
-- its new row is. The totals of all others stay, and the same row with the same totals has the same truth.
use Rattle.std.specs.Prelude.{◌≡◌, ◌==◌, Bool, true, false, ◌&&◌, ◌||◌, List, [], ◌∷◌, ◌++◌, All, Option, Some, None, filter, flat_map, is_some, if◌then◌else◌}
use Rattle.std.specs.Ordering.{eq_by_cmp}
use Rattle.value.specs.declared.values.Root.{Root}
use Rattle.value.specs.declared.values.Root.TheVariants.{Of}
use Rattle.value.specs.ValueOrder.{value_cmp}
use Rattle.table.specs.declared.rows.Change.{Change}
use Rattle.table.specs.Rows.{RowValues, value_in}
use Rattle.table.specs.declared.conds.Cond.{Cond}
use Rattle.table.specs.Eval.{keeps}
use Rattle.assertion.specs.declared.queries.Query.{Query}
use Rattle.assertion.specs.Meaning.{State, links, rows_of}
use Rattle.roots.specs.declared.grouped.Around.{Around}
use Rattle.roots.specs.declared.grouped.Grouping.{Grouping}
use Rattle.roots.specs.Around.{is_equal, value_in_one}
use Rattle.roots.specs.Summaries.{around_of}

-- whether a row, if there is one, is linked to a row around, and the filter keeps it beside that
abbrev pub is_beside : Around → Cond → RowValues → Option RowValues → Bool
is_beside around restriction row None = false
is_beside around restriction row (Some linked) = links around.link row linked && keeps linked row restriction

-- the root of a row around, where the old or the new row of a change is beside it
abbrev pub turned_root : Around → Cond → Change → RowValues → List Root
turned_root around restriction change row =
    if is_beside around restriction row change.old || is_beside around restriction row change.new
    then Of (value_in around.key row) ∷ [] else []

-- the rows around that are linked to the old row of a change, and to the new one where that has another value
abbrev pub linked_around : Around → Change → List RowValues → List RowValues
linked_around around change outer =
    filter (λ row. is_equal (value_in_one around.link.inner change.old) (value_in around.link.outer row)) outer
    ++ (if eq_by_cmp value_cmp (value_in_one around.link.inner change.old) (value_in_one around.link.inner change.new)
    then []
    else filter (λ row. is_equal (value_in_one around.link.inner change.new) (value_in around.link.outer row)) outer)

-- the roots that a change turns in the totals for rows around, as these stand after it
abbrev pub turned_around : Around → State → Change → Query Grouping → List Root
turned_around around after change s =
    if s.table == change.table
    then flat_map (turned_root around s.filter change) (linked_around around change (rows_of around.table after)) else []

-- the roots that a change turns in the totals of a summary; where its groups are no rows around, none are said
abbrev pub turned_by : State → Change → Query Grouping → Option Around → List Root
turned_by after change s None = []
turned_by after change s (Some around) = turned_around around after change s

-- the roots that a change turns in the totals of some summaries
abbrev pub turned_roots : State → Change → List (Query Grouping) → List Root
turned_roots after change summaries = flat_map (λ s. turned_by after change s (around_of s.grouping)) summaries

-- each row around is a group, in all of some summaries
abbrev pub AreAllAround : List (Query Grouping) → Type 0
AreAllAround summaries = All (λ s. is_some (around_of s.grouping) ≡ true) summaries
