use Rattle.conflict.proofs.Steps.{least_more}
use Rattle.conflict.specs.Candidates.{record_of}
use Rattle.conflict.proofs.numbers.least_out.Goals as goal

pub loop-other-preserved : goal.loop-other-preserved
loop-other-preserved c = least_more c.args.others.now c.loop-other.other-index c.other-item.result (record_of c.args.candidate.now) c.loop-other.least c.least_with-least.result c.loop-other-test.true c.other-item.is c.loop-other.invariant c.least_with-least.ensures
