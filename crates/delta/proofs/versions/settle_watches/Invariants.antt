use Rattle.std.proofs.Common.{map}
use Rattle.std.specs.Arc.{arc_value}
use Rattle.delta.specs.Maintained.{AreAllAlike}
use Rattle.delta.proofs.versions.settle_watches.Given as goal

-- the watches keep the same
abbrev pub invariant-loop-at : goal.invariant-loop-at
invariant-loop-at l = AreAllAlike (map arc_value l.watches) (map arc_value l.fn.watches)
