use Rattle.std.proofs.Common.{◌≡◌, take, map}
use Rattle.std.specs.Arc.{arc_value}
use Rattle.delta.proofs.versions.copy_watches.Given as goal

-- the watches so far
abbrev pub invariant-loop-watch : goal.invariant-loop-watch
invariant-loop-watch l = map arc_value l.made.items ≡ map arc_value (take l.watch-index l.watches)
