use Rattle.std.proofs.Common.{◌≡◌, take}
use Rattle.delta.proofs.declarations.copy_catalog.Given as goal

-- the tables so far
abbrev pub invariant-loop-table : goal.invariant-loop-table
invariant-loop-table l = l.copy ≡ take l.table l.catalog
