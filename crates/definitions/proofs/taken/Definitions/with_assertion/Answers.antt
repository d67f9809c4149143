use Rattle.definitions.proofs.GoodTables.{bounded_more}
use Rattle.definitions.proofs.taken.Definitions.with_assertion.Goals as goal

pub invariant_of-result : goal.invariant_of-result
invariant_of-result c =
    (bounded_more c.self.inside.assertions.items c.push.new.self.items c.in_ok-assertion.assertion c.in_ok-push.ensures.items c.self.invariant.0 c.in_ok-assertion.ensures.bounded, c.self.invariant.1)
