use Rattle.std.proofs.Common.{◌≡◌, ◌++◌, length, reverse}
use Rattle.leaf_parser.proofs.parts.reverse.Given as goal

abbrev pub invariant-turn : goal.invariant-turn
invariant-turn g l = l.turned ++ reverse l.items ≡ reverse l.initial.items

abbrev pub decreases-turn : goal.decreases-turn
decreases-turn g l = length l.items
