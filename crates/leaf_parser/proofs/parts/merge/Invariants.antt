use Rattle.std.proofs.Common.{◌≡◌, ◌++◌, length, reverse}
use Rattle.std.specs.List.{flat_map}
use Rattle.leaf_parser.proofs.parts.merge.Given as goal

abbrev pub invariant-merge : goal.invariant-merge
invariant-merge g l = l.all ++ flat_map g.J.Joint.parts (reverse l.rest) ≡ flat_map g.J.Joint.parts l.fn.parts

abbrev pub decreases-merge : goal.decreases-merge
decreases-merge g l = length l.rest
