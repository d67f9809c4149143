use Rattle.std.proofs.Common.{◌≡◌, ◌++◌, length, reverse}
use Rattle.std.specs.List.{flat_map}
use Rattle.syntax.specs.SchemaGrammar.{constraint_by}
use Rattle.parse.proofs.tables.move_constraints.Given as goal

-- what was moved and what is left is the whole
abbrev pub invariant-turn : goal.invariant-turn
invariant-turn l = l.all ++ flat_map constraint_by (reverse l.rest) ≡ l.initial.all ++ flat_map constraint_by l.fn.constraints

abbrev pub decreases-turn : goal.decreases-turn
decreases-turn l = length l.rest
