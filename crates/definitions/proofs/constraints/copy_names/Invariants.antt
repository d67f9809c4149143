use Rattle.std.proofs.Common.{◌≡◌, ◌++◌, drop}
use Rattle.definitions.proofs.constraints.copy_names.Given as goal

-- the copies and what is to come are the whole
abbrev pub invariant-loop-name : goal.invariant-loop-name
invariant-loop-name l = l.copies.items ++ drop l.name-index l.names ≡ l.names
