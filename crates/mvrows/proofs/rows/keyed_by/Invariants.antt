use Rattle.std.proofs.Common.{◌≡◌, take}
use Rattle.mvrows.specs.Keyed.{rows_of, AreKeyed}
use Rattle.mvrows.proofs.rows.keyed_by.Given as goal

-- the rows so far, each under its key
abbrev pub invariant-loop-at : goal.invariant-loop-at
invariant-loop-at l = record {
  rows : rows_of l.made ≡ take l.at (rows_of l.pages);
  keyed : AreKeyed l.key_column l.made;
}
