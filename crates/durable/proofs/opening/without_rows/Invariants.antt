use Rattle.std.proofs.Common.{◌≡◌, [], replicate}
use Rattle.durable.proofs.opening.without_rows.Given as goal

-- a table without rows for each that was counted
abbrev pub invariant-loop-table : goal.invariant-loop-table
invariant-loop-table l = l.rows.items ≡ replicate l.table []
