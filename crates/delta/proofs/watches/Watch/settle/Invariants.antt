use Rattle.delta.specs.Maintained.{AreAlike}
use Rattle.delta.proofs.watches.Watch.settle.Given as goal

-- the watch keeps the same
abbrev pub invariant-loop-at : goal.invariant-loop-at
invariant-loop-at l = AreAlike l.self l.fn.self
