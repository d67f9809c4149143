use Rattle.std.proofs.Common.{◌≡◌, take, drop}
use Rattle.definitions.specs.Constraints.{columns_fault, columns_fault_from}
use Rattle.definitions.proofs.constraints.require_columns.Given as goal

-- no name has been found wrong so far
abbrev pub invariant-loop-i : goal.invariant-loop-i
invariant-loop-i l = columns_fault_from l.catalog l.table (take l.i l.names) (drop l.i l.names) ≡ columns_fault l.catalog l.table l.names
