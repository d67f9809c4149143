use Rattle.std.proofs.Common.{◌≡◌, ◌++◌, drop}
use Rattle.alone.specs.Modes.{initial_modes}
use Rattle.alone.proofs.modes.Modes.initial.Given as goal

-- the modes so far and those of the assertions that are left are those of all
abbrev pub invariant-loop-assertion : goal.invariant-loop-assertion
invariant-loop-assertion l = l.immediate.items ++ initial_modes (drop l.assertion-index l.assertions) ≡ initial_modes l.assertions
