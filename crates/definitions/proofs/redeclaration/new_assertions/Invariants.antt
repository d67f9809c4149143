use Rattle.std.proofs.Common.{◌≡◌, ◌++◌, length, map, reverse}
use Rattle.definitions.specs.Redeclaration.{definition_of}
use Rattle.definitions.proofs.redeclaration.new_assertions.Given as goal

-- the definitions that are left, and then those that were taken, of which the first was the last
abbrev pub invariant-turn : goal.invariant-turn
invariant-turn l = l.definitions ++ map definition_of (reverse l.new.items) ≡ l.initial.definitions

abbrev pub decreases-turn : goal.decreases-turn
decreases-turn l = length l.definitions
