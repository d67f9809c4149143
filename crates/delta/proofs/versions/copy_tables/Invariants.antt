use Rattle.std.proofs.Common.{◌≡◌, take}
use Rattle.delta.specs.Maintained.{AreShort}
use Rattle.delta.proofs.versions.copy_tables.Given as goal

-- the tables so far, which can be counted
abbrev pub invariant-loop-table : goal.invariant-loop-table
invariant-loop-table l = record { equal : l.made.items ≡ take l.table l.tables; short : AreShort l.made.items }
