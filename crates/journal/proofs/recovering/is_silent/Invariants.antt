use Rattle.std.proofs.Common.{◌≡◌, length}
use Rattle.journal.specs.Recovery.{is_silent}
use Rattle.journal.proofs.recovering.is_silent.Given as goal

-- all that was passed over is silent
abbrev pub invariant-loop-rest : goal.invariant-loop-rest
invariant-loop-rest l = is_silent l.number l.rest ≡ is_silent l.number l.tail

abbrev pub decreases-loop-rest : goal.decreases-loop-rest
decreases-loop-rest l = length l.rest
