use Rattle.std.proofs.Common.{drop}
use Rattle.report.proofs.Chains.{GoesOn}
use Rattle.replay.specs.Lines.{left_lines}
use Rattle.replay.proofs.write_left_seats.Given as goal

-- what is written so far, and the lines of the seats that are left
abbrev pub invariant-loop-seat : goal.invariant-loop-seat
invariant-loop-seat g l =
    GoesOn (g.W.Write.contents l.initial.out) (g.W.Write.contents l.out) (left_lines (drop l.seat-index l.seats)) (left_lines l.seats)
