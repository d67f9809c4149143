use Rattle.replay.proofs.Printing.{ended}
use Rattle.replay.proofs.write_ending.Goals as goal

pub returns : goal.returns
returns g c =
    ended c.write_closing_part.result c.args.engine.now c.seats.result.now c.core.result.now
    (g.W.Write.contents c.args.out.now) (g.W.Write.contents c.write_left_seats.new.out) (g.W.Write.contents c.write_closing_part.new.out)
    c.seats.ensures c.core.ensures c.in_ok-write_left_seats.ensures c.write_closing_part.ensures
