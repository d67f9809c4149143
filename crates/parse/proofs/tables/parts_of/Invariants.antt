use Rattle.std.proofs.Common.{◌≡◌, ◌++◌, length, reverse}
use Rattle.std.specs.List.{flat_map}
use Rattle.syntax.specs.SchemaGrammar.{column_in, constraints_in, keys_in}
use Rattle.parse.proofs.tables.parts_of.Given as goal

-- what was added and what is left is the whole
abbrev pub invariant-turn : goal.invariant-turn
invariant-turn l =
    (l.parts.columns ++ flat_map column_in (reverse l.rest) ≡ flat_map column_in l.fn.elements)
    × (l.parts.keys ++ flat_map keys_in (reverse l.rest) ≡ flat_map keys_in l.fn.elements)
    × (l.parts.constraints ++ flat_map constraints_in (reverse l.rest) ≡ flat_map constraints_in l.fn.elements)

abbrev pub decreases-turn : goal.decreases-turn
decreases-turn l = length l.rest
