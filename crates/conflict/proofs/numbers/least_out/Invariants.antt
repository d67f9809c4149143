use Rattle.std.proofs.Common.{◌≡◌, take, reverse}
use Rattle.alone.specs.Order.{least_out}
use Rattle.conflict.specs.Candidates.{record_of}
use Rattle.conflict.proofs.numbers.least_out.Given as goal

abbrev pub invariant-loop-other : goal.invariant-loop-other
invariant-loop-other l = l.least ≡ least_out (reverse (take l.other-index l.others)) (record_of l.candidate)
