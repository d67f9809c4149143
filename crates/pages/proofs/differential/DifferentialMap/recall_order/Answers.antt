use Rattle.std.proofs.Common.{ap, arith, length, subst}
use Rattle.pages.specs.Reach.{AreInOrder}
use Rattle.pages.proofs.Merging.{order_with, short_with}
use Rattle.pages.proofs.differential.DifferentialMap.recall_order.Goals as goal

pub returns-clause-order : goal.returns-clause-order
returns-clause-order g c =
    subst AreInOrder c.self.view_is (order_with c.self.inside.differences.items c.self.inside.main c.self.invariant.order)

pub returns-clause-short : goal.returns-clause-short
returns-clause-short g c =
    omega (arith, ap length c.self.view_is, short_with c.self.inside.differences.items c.self.inside.main, c.self.invariant.short)
