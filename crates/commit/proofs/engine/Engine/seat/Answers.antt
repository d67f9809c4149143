use Rattle.commit.proofs.Living.{live_with_seat}
use Rattle.commit.proofs.engine.Engine.seat.Goals as goal

-- the open transactions live on, with the seat and without it
pub invariant_of-self : goal.invariant_of-self
invariant_of-self c =
    live_with_seat c.self.inside.core c.self.inside.seats.items c.seat_session.new.seats.items c.args.session.now c.seat_session.result
    c.seat_session.ensures.seated c.seat_session.ensures.same c.self.invariant
