use Rattle.std.proofs.Common.{◌≡◌, ◌++◌, drop}
use Rattle.alone.specs.Modes.{deferrable_names}
use Rattle.alone.proofs.names.deferrable_names.Given as goal

-- the names so far and those of the assertions that are left are those of all
abbrev pub invariant-loop-assertion : goal.invariant-loop-assertion
invariant-loop-assertion l = l.names.items ++ deferrable_names (drop l.assertion-index l.assertions) ≡ deferrable_names l.assertions
