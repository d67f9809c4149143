use Rattle.threads.specs.Scripts.{AreAnswered}
use Rattle.threads.proofs.runs.settle_all.Given as goal

abbrev pub invariant-loop-at : goal.invariant-loop-at
invariant-loop-at l = AreAnswered l.scripts l.answered
