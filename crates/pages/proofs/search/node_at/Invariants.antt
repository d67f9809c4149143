use Rattle.std.proofs.Common.{◌≡◌, ◌<◌, drop, length, map}
use Rattle.std.specs.Arc.{arc_value}
use Rattle.pages.specs.Levels.{entries_of}
use Rattle.pages.proofs.search.node_at.Given as goal

-- the entry is behind the nodes so far
abbrev pub invariant-loop-place : goal.invariant-loop-place
invariant-loop-place g l = record {
  within : l.rest < length (entries_of (drop l.place (map arc_value l.nodes)));
  entries : drop l.number (entries_of (map arc_value l.nodes)) ≡ drop l.rest (entries_of (drop l.place (map arc_value l.nodes)));
}
