use Rattle.std.proofs.Common.{◌≡◌, drop}
use Rattle.table.specs.Faults.{are_typed}
use Rattle.table.proofs.schemas.are_typed.Given as goal

-- the values are of the types where the rest is
abbrev pub invariant-loop-i : goal.invariant-loop-i
invariant-loop-i l = are_typed (drop l.i l.columns) (drop l.i l.values) ≡ are_typed l.columns l.values
