use Rattle.std.proofs.Common.{◌≡◌}
use Rattle.delta.proofs.versions.settle_tables.Given as goal

-- the tables are as they were
abbrev pub invariant-loop-table : goal.invariant-loop-table
invariant-loop-table l = l.tables ≡ l.fn.tables
