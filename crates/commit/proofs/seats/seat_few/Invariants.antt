use Rattle.std.proofs.Common.{◌≡◌, [], drop}
use Rattle.commit.specs.Runs.{seats_with_all}
use Rattle.commit.proofs.seats.seat_few.Given as goal

abbrev pub invariant-loop-line : goal.invariant-loop-line
invariant-loop-line l = seats_with_all l.seats.items (drop l.line-index l.lines) ≡ seats_with_all [] l.lines
