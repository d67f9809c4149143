-- Rows that are looked at: one, and then others; and the groups of the rows of a change.
use Rattle.std.specs.Prelude.{ℕ, ◌==◌, ◌++◌, List, [], map, Option, Some, None, option_to_list, if◌then◌else◌}
use Rattle.table.specs.declared.rows.Change.{Change}
use Rattle.table.specs.Rows.{RowValues, value_in}
use Rattle.assertion.specs.Candidates.{rows_of_change}
use Rattle.siread.specs.declared.keys.LockKey.{LockKey}
use Rattle.siread.specs.declared.keys.LockKey.TheVariants.{Column as InColumn}

-- the first of two lists that is there
abbrev pub rest_of : Option (List RowValues) → Option (List RowValues) → List RowValues
rest_of None None = []
rest_of None (Some rows) = rows
rest_of (Some found) rows = found

-- the one row, if there is one, and then those that an index found, if it was asked, or else the others
abbrev pub looked_at : Option RowValues → Option (List RowValues) → Option (List RowValues) → List RowValues
looked_at one found rows = option_to_list one ++ rest_of found rows

-- the keys of the groups of the old and the new row, where the change is of the table
abbrev pub group_keys : ℕ → ℕ → Change → List LockKey
group_keys table group change =
    if table == change.table then map (λ row. InColumn table group (value_in group row)) (rows_of_change change) else []
