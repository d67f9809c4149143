use Rattle.std.proofs.Common.{◌≡◌, ◌++◌, drop, map}
use Rattle.std.specs.Option.{option_map}
use Rattle.commit.specs.Verdicts.{live_truths}
use Rattle.commit.proofs.verdicts.list_live_truths.Given as goal

-- the truths of the seats so far, and those of the seats that are left
abbrev pub invariant-loop-seat : goal.invariant-loop-seat
invariant-loop-seat l = map (option_map (λ truths. truths.items)) l.live.items ++ map live_truths (drop l.seat-index l.seats) ≡ map live_truths l.seats
