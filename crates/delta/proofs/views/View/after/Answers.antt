use Rattle.std.proofs.Common.{arith}
use Rattle.assertion.specs.Declarations.{layouts_in}
use Rattle.assertion.specs.Changes.{state_after_all}
use Rattle.delta.proofs.PutIn.{next_is, next_fits, left_after, leads_after}
use Rattle.delta.proofs.views.View.after.Goals as goal

pub with-requires-clause-is : goal.with-requires-clause-is
with-requires-clause-is c = next_is c.args.self.now.declared c.args.changes.now c.loop-change.change-index c.change-item.result c.loop-change.view (omega arith) c.change-item.is c.loop-change.invariant.left

pub with-requires-clause-fits : goal.with-requires-clause-fits
with-requires-clause-fits c = next_fits c.args.self.now.declared c.args.changes.now c.loop-change.change-index c.change-item.result c.loop-change.view (omega arith) c.change-item.is c.loop-change.invariant.left

pub loop-change-preserved : goal.loop-change-preserved
loop-change-preserved c = record {
  left = left_after c.args.self.now.declared c.args.changes.now c.loop-change.change-index c.change-item.result c.loop-change.view (omega arith) c.change-item.is c.loop-change.invariant.left c.in_ok-view-2.view c.in_ok-view-2.ensures;
  leads = leads_after c.args.self.now.declared c.args.changes.now c.loop-change.change-index c.change-item.result c.loop-change.view (omega arith) c.change-item.is c.loop-change.invariant.left c.in_ok-view-2.view c.in_ok-view-2.ensures (state_after_all (layouts_in c.args.self.now.declared) c.args.changes.now c.args.self.now.state) c.loop-change.invariant.leads;
}
