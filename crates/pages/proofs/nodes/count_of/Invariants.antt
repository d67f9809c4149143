use Rattle.std.proofs.Common.{◌≡◌, ◌+◌, drop, length, map}
use Rattle.std.specs.Arc.{arc_value}
use Rattle.pages.specs.Levels.{entries_of}
use Rattle.pages.proofs.nodes.count_of.Given as goal

-- those so far, and those to come
abbrev pub invariant-loop-node : goal.invariant-loop-node
invariant-loop-node g l = l.count + length (entries_of (drop l.node-index (map arc_value l.nodes))) ≡ length (entries_of (map arc_value l.nodes))
