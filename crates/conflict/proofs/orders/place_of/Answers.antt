use Rattle.conflict.proofs.Puts.{found_at, last_left, nobody, one_less}
use Rattle.conflict.proofs.orders.place_of.Goals as goal

pub rank_in-requires-clause-there : goal.rank_in-requires-clause-there
rank_in-requires-clause-there c =
    let here = last_left c.args.committed.now c.args.places.now c.requires.log c.requires.places
    c.args.order.now c.loop-at.at c.requires.order c.loop-at-test.true c.loop-at.auto.at in
    (here.positive, here.within)

pub returns-then-rank_in-rank : goal.returns-then-rank_in-rank
returns-then-rank_in-rank c =
    let here = last_left c.args.committed.now c.args.places.now c.requires.log c.requires.places
    c.args.order.now c.loop-at.at c.requires.order c.loop-at-test.true c.loop-at.auto.at in
    found_at c.args.committed.now c.args.places.now c.requires.log c.requires.places
    c.args.rank c.loop-at.at _ c.rank_in.result here c.loop-at-test.true (c.rank_in.ensures nobody)
    c.if-rank_in-rank.true c.loop-at.invariant

pub loop-at-preserved : goal.loop-at-preserved
loop-at-preserved c =
    let here = last_left c.args.committed.now c.args.places.now c.requires.log c.requires.places
    c.args.order.now c.loop-at.at c.requires.order c.loop-at-test.true c.loop-at.auto.at in
    one_less c.args.committed.now c.args.places.now c.requires.log c.requires.places
    c.args.rank c.loop-at.at _ c.rank_in.result here c.loop-at-test.true (c.rank_in.ensures nobody)
    c.if-rank_in-rank.false c.loop-at.invariant
