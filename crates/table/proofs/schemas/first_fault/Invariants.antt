use Rattle.std.proofs.Common.{◌≡◌, drop}
use Rattle.table.specs.Faults.{row_fault}
use Rattle.table.proofs.schemas.first_fault.Given as goal

-- the first fault is that of the rest
abbrev pub invariant-loop-i : goal.invariant-loop-i
invariant-loop-i l = row_fault (drop l.i l.columns) (drop l.i l.values) ≡ row_fault l.columns l.values
