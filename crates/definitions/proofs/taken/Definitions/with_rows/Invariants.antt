use Rattle.std.proofs.Common.{◌≡◌, drop}
use Rattle.changes.specs.Insertions.{tables_with_rows}
use Rattle.definitions.proofs.taken.Definitions.with_rows.Given as goal

-- what is made so far leads through the rows that are left to all, and its tables are as declared
abbrev pub invariant-loop-row : goal.invariant-loop-row
invariant-loop-row l =
    (tables_with_rows l.table (drop l.row-index l.rows) l.made ≡ tables_with_rows l.table l.rows l.fn.self)
    × (l.made.declared ≡ l.fn.self.declared)
