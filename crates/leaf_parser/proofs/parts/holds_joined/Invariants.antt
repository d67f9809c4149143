use Rattle.std.proofs.Common.{◌≡◌, take}
use Rattle.std.specs.List.{flat_map}
use Rattle.leaf_parser.proofs.parts.holds_joined.Given as goal

abbrev pub invariant-loop-part : goal.invariant-loop-part
invariant-loop-part g l = flat_map g.J.Joint.parts (take l.part-index l.fn.parts) ≡ take l.part-index l.fn.parts
