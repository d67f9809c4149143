use Rattle.std.proofs.Common.{arith, map}
use Rattle.std.specs.Arc.{arc_value}
use Rattle.pages.proofs.Orders.{shared_there}
use Rattle.pages.proofs.Trees.{count_left}
use Rattle.pages.proofs.nodes.count_of.Goals as goal

pub loop-node-preserved : goal.loop-node-preserved
loop-node-preserved g c =
    let there = shared_there c.args.nodes.now c.loop-node.node-index c.node-item.result c.deref.result.now c.loop-node-test.true c.node-item.is c.deref.ensures in
    omega (arith, c.loop-node.invariant, c.in-Some.ensures.1, c.count.ensures.count, count_left (map arc_value c.args.nodes.now) c.loop-node.node-index c.deref.result.now there.within there.is)
