use Rattle.std.proofs.Common.{map}
use Rattle.std.specs.Arc.{arc_value}
use Rattle.delta.specs.Maintained.{AreWatched}
use Rattle.delta.proofs.versions.watches_of.Given as goal

-- the watches so far are right for the first assertions
abbrev pub invariant-loop-index : goal.invariant-loop-index
invariant-loop-index l = AreWatched l.schemas l.tables l.assertions l.index (map arc_value l.made.items)
