use Rattle.std.proofs.Common.{◌≡◌, ◌++◌, drop}
use Rattle.alone.specs.Modes.{named_immediate}
use Rattle.alone.proofs.modes.Modes.named_immediate.Given as goal

-- the modes so far and those of the assertions that are left are those of all
abbrev pub invariant-loop-assertion : goal.invariant-loop-assertion
invariant-loop-assertion l = l.immediate.items ++ named_immediate l.names (drop l.assertion-index l.assertions) ≡ named_immediate l.names l.assertions
