use Rattle.commit.proofs.Living.{live_at_beginning}
use Rattle.commit.proofs.engine.Engine.with_few_sessions.Goals as goal

pub invariant_of-result : goal.invariant_of-result
invariant_of-result c =
    live_at_beginning c.args.limit c.args.loaded c.in_ok-core-in-Some.core c.args.lines.now c.in-Some.seats.items c.in_ok-core-in-Some.ensures
    (rw c.in-Some.is at c.in_ok-seats.ensures.seats)
