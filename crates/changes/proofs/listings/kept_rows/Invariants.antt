use Rattle.std.proofs.Common.{◌≡◌, ◌++◌, map}
use Rattle.assertion.specs.Meaning.{filtered_rows}
use Rattle.changes.proofs.listings.kept_rows.Given as goal

-- the rows so far, and those that are left
abbrev pub invariant-loop-row : goal.invariant-loop-row
invariant-loop-row l =
    map (λ row. row.now) l.kept.items ++ l.row-iterator ≡ filtered_rows l.filter.condition l.rows
