use Rattle.std.proofs.Common.{◌∙◌, sym, ap}
use Rattle.std.specs.Arc.{arc_value}
use Rattle.pages.proofs.Halves.{over_one}
use Rattle.pages.proofs.nodes.over.Goals as goal

pub invariant_of-result : goal.invariant_of-result
invariant_of-result g c =
    over_one (arc_value c.in_ok-seps.seps).items c.push.new.self.items c.new-nodes.result.items c.in_ok-below.below c.deref.result.now c.count-count.result (ap (λ v. v.items) c.in_ok-seps.ensures.ok ∙ c.new.ensures.items) c.new-nodes.ensures.items c.in_ok-push.ensures.items (c.in_ok-below.ensures ∙ sym c.deref.ensures) c.count-count.ensures.count c.count-count.ensures.order
