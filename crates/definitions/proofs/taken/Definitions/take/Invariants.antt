use Rattle.std.proofs.Common.{◌≡◌, drop}
use Rattle.definitions.specs.Taken.{taken_of, with_all}
use Rattle.definitions.proofs.taken.Definitions.take.Given as goal

-- what is taken so far leads through the other definitions to all
abbrev pub invariant-loop-definition : goal.invariant-loop-definition
invariant-loop-definition l = with_all (drop l.definition-index l.definitions) l.taking ≡ taken_of l.definitions
