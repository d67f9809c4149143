use Rattle.std.proofs.Common.{◌≡◌, ◌++◌, drop, map}
use Rattle.changes.specs.Keyed.{row_of}
use Rattle.changes.proofs.groupings.rows_of.Given as goal

-- the rows so far, and those that are left
abbrev pub invariant-loop-keyed : goal.invariant-loop-keyed
invariant-loop-keyed l = map (λ row. row.now) l.rows.items ++ map row_of (drop l.keyed-index l.run) ≡ map row_of l.run
