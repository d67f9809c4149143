use Rattle.delta.proofs.TableLemmas.{good_order, good_small}
use Rattle.delta.proofs.WatchLemmas.{step_within}
use Rattle.delta.proofs.watches.Watch.after.Goals as goal

pub maintained_after-requires-clause-step : goal.maintained_after-requires-clause-step
maintained_after-requires-clause-step c = step_within c.args.schemas.now c.args.change.now c.args.before.now c.args.after.now c.requires.step

pub maintained_after-requires-clause-totals : goal.maintained_after-requires-clause-totals
maintained_after-requires-clause-totals c = rw c.deref.ensures.value c.requires.watched.totals

pub truth_of-requires-clause-small : goal.truth_of-requires-clause-small
truth_of-requires-clause-small c = good_small c.args.schemas.now c.args.after.now c.requires.step.good_after

pub truth_of-requires-clause-totals : goal.truth_of-requires-clause-totals
truth_of-requires-clause-totals c = rw c.deref-2.ensures.value c.in_ok-totals.ensures.totals

pub returns : goal.returns
returns c = record {
  totals = c.in_ok-totals.ensures.totals;
  bad = c.in_ok-totals.ensures.bad;
  truth = c.in_ok-truth.ensures (good_order c.args.schemas.now c.args.after.now c.requires.step.good_after) c.in_ok-totals.ensures.bad;
}
