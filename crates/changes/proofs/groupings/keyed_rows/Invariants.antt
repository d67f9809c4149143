use Rattle.std.proofs.Common.{◌≡◌, ◌++◌, drop, map}
use Rattle.std.specs.Prelude.{All}
use Rattle.changes.specs.Keyed.{IsKeyed, row_of}
use Rattle.changes.proofs.groupings.keyed_rows.Given as goal

-- the rows so far, each beside its values, and those that are left
abbrev pub invariant-loop-row : goal.invariant-loop-row
invariant-loop-row l = record {
  rows : map row_of l.keyed.items ++ map (λ row. row.now) (drop l.row-index l.rows) ≡ map (λ row. row.now) l.rows;
  keyed : All (IsKeyed l.columns) l.keyed.items;
}
