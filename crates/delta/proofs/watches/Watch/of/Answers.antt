use Rattle.delta.proofs.TableLemmas.{good_order, good_small}
use Rattle.delta.proofs.watches.Watch.of.Goals as goal

pub totals_of-requires-clause-small : goal.totals_of-requires-clause-small
totals_of-requires-clause-small c = good_small c.args.schemas.now c.args.tables.now c.requires.good

pub totals_of-requires-clause-in_order : goal.totals_of-requires-clause-in_order
totals_of-requires-clause-in_order c = good_order c.args.schemas.now c.args.tables.now c.requires.good

pub bad_of-requires-clause-small : goal.bad_of-requires-clause-small
bad_of-requires-clause-small c = good_small c.args.schemas.now c.args.tables.now c.requires.good

pub bad_of-requires-clause-totals : goal.bad_of-requires-clause-totals
bad_of-requires-clause-totals c = rw c.deref.ensures.value c.in_ok-totals.ensures

pub truth_of-requires-clause-small : goal.truth_of-requires-clause-small
truth_of-requires-clause-small c = good_small c.args.schemas.now c.args.tables.now c.requires.good

pub truth_of-requires-clause-totals : goal.truth_of-requires-clause-totals
truth_of-requires-clause-totals c = rw c.deref-2.ensures.value c.in_ok-totals.ensures

pub returns : goal.returns
returns c = record {
  totals = c.in_ok-totals.ensures;
  bad = c.in_ok-bad.ensures;
  truth = c.in_ok-truth.ensures (good_order c.args.schemas.now c.args.tables.now c.requires.good) c.in_ok-bad.ensures;
}
