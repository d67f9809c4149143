use Rattle.std.proofs.Common.{◌≡◌, ◌++◌, drop}
use Rattle.definitions.specs.Constraints.{joined}
use Rattle.definitions.proofs.constraints.push_names.Given as goal

-- what was put and what is to come is the whole
abbrev pub invariant-loop-name : goal.invariant-loop-name
invariant-loop-name l = l.bytes.items ++ joined (drop l.name-index l.names) ≡ l.initial.bytes.items ++ joined l.names
