use Rattle.std.proofs.Common.{◌≡◌, [], take, drop}
use Rattle.definitions.specs.Tables.{repeated_name}
use Rattle.definitions.proofs.tables.refuse_repeated_name.Given as goal

-- no name has been found twice so far
abbrev pub invariant-loop-i : goal.invariant-loop-i
invariant-loop-i l = repeated_name (take l.i l.columns) (drop l.i l.columns) ≡ repeated_name [] l.columns
