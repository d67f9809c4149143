use Rattle.std.proofs.Common.{◌≡◌, take}
use Rattle.delta.proofs.declarations.copy_assertions.Given as goal

-- the assertions so far
abbrev pub invariant-loop-assertion : goal.invariant-loop-assertion
invariant-loop-assertion l = l.made.items ≡ take l.assertion-index l.assertions
