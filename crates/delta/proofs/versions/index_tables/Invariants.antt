use Rattle.std.proofs.Common.{◌≡◌}
use Rattle.delta.specs.Maintained.{AreShort}
use Rattle.delta.proofs.versions.index_tables.Given as goal

-- the tables are equal to those that were given, and can be counted
abbrev pub invariant-loop-assertion : goal.invariant-loop-assertion
invariant-loop-assertion l = record { equal : l.made.items ≡ l.tables; short : AreShort l.made.items }
