use Rattle.std.proofs.Common.{◌≡◌, ◌++◌, drop, map}
use Rattle.table.specs.Rows.{value_in}
use Rattle.changes.proofs.groupings.values_in.Given as goal

-- the values so far, and those in the other columns
abbrev pub invariant-loop-column : goal.invariant-loop-column
invariant-loop-column l =
    l.values.items ++ map (λ c. value_in c l.row) (drop l.column-index l.columns) ≡ map (λ c. value_in c l.row) l.columns
