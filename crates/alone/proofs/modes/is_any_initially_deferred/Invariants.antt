use Rattle.std.proofs.Common.{◌≡◌, drop}
use Rattle.std.specs.List.{list_any}
use Rattle.alone.proofs.modes.is_any_initially_deferred.Given as goal

-- one of those that are left is where one of all is
abbrev pub invariant-loop-assertion : goal.invariant-loop-assertion
invariant-loop-assertion l = list_any (λ a. a.attributes.initially_deferred) (drop l.assertion-index l.assertions) ≡ list_any (λ a. a.attributes.initially_deferred) l.assertions
