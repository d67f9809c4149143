use Rattle.std.proofs.Common.{sym, subst, slice_index_or, arith}
use Rattle.threads.specs.Scripts.{IsAnswered}
use Rattle.threads.proofs.Lists.{answered_at}
use Rattle.threads.proofs.runs.settle_at.Goals as goal

pub settle-requires : goal.settle-requires
settle-requires c =
    subst (λ script. IsAnswered script (slice_index_or c.args.answered.now c.args.at c.index-answered-at.result)) (sym c.index-scripts-at.is)
    (answered_at c.args.scripts.now c.args.answered.now c.args.at c.index-scripts-at.result c.index-answered-at.result c.requires
    (let outside = c.if-at-scripts.false in omega (arith, outside)) (let outside = c.if-at-answered.false in omega (arith, outside)))
