-- Whether a single root is bad.
use Rattle.std.specs.Prelude.{◌≡◌, ℕ, Bool, false, ◌&&◌, nat_lt, List, length, Option, Some, None, is_some}
use Rattle.value.specs.declared.values.Value.{Value}
use Rattle.value.specs.declared.values.Root.{Root}
use Rattle.value.specs.declared.values.Root.TheVariants.{All, Of}
use Rattle.value.specs.ValueOrder.{root_cmp}
use Rattle.value.specs.Ordered as ordered
use Rattle.value.specs.Truths.{is_of}
use Rattle.value.specs.declared.truths.Truth.TheVariants.{False}
use Rattle.table.specs.declared.aggregates.Aggregate.{Aggregate}
use Rattle.table.specs.Rows.{RowValues, Layout, row_at, key_of}
use Rattle.table.specs.Aggregates.{rows_of_group}
use Rattle.table.specs.declared.conds.Cond.{Cond}
use Rattle.assertion.specs.declared.queries.Query.{Query}
use Rattle.assertion.specs.declared.queries.Link.{Link}
use Rattle.assertion.specs.declared.forms.Form.{Form}
use Rattle.assertion.specs.declared.forms.Form.TheVariants.{ByRow, ByGroup, Single}
use Rattle.assertion.specs.Meaning.{State, rows_of, filtered_rows, lists_row, lists_group, single_truth}

-- whether there is a row and it is listed
abbrev pub is_bad_row : State → Cond → List (Query Link) → Option RowValues → Bool
is_bad_row state condition queries None = false
is_bad_row state condition queries (Some row) = lists_row state condition queries row

-- whether a group has a row and is listed
abbrev pub is_bad_group : List RowValues → ℕ → Cond → List Aggregate → Value → Bool
is_bad_group rows group having aggregates v =
    nat_lt 0 (length (rows_of_group group v rows)) && lists_group rows group having aggregates v

-- whether an assertion is false at a root
abbrev pub is_bad_root : List Layout → Form → State → Root → Bool
is_bad_root layouts (ByRow table condition queries) state All = false
is_bad_root layouts (ByRow table condition queries) state (Of v) =
    is_bad_row state condition queries (row_at (key_of table layouts) v (rows_of table state))
is_bad_root layouts (ByGroup table restriction group having aggregates) state All = false
is_bad_root layouts (ByGroup table restriction group having aggregates) state (Of v) =
    is_bad_group (filtered_rows restriction (rows_of table state)) group having aggregates v
is_bad_root layouts (Single condition queries) state All = is_of (single_truth state condition queries) False
is_bad_root layouts (Single condition queries) state (Of v) = false

-- whether a root stands in a list that is in order
abbrev pub is_among : Root → List Root → Bool
is_among r roots = is_some (ordered.at root_cmp (λ k. k) r roots)

-- the list is in order, and has exactly the roots at which the assertion is false
pub record AreBad (layouts : List Layout) (form : Form) (state : State) (bad : List Root) : Type 0 where
  pub in_order : ordered.IsAscending root_cmp (λ k. k) bad
  pub exact : (r : Root) → is_among r bad ≡ is_bad_root layouts form state r
