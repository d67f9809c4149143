use Rattle.commit.proofs.Answering.{so_far_more, so_far_none}
use Rattle.commit.proofs.engine.answer_all.Goals as goal

pub loop-line-init : goal.loop-line-init
loop-line-init c = so_far_none c.args.engine.now c.args.lines.now c.args.answers.now.items c.requires

pub loop-line-preserved : goal.loop-line-preserved
loop-line-preserved c =
    so_far_more c.args.engine.now c.args.lines.now c.loop-line.line-index c.loop-line.engine c.answer_next.new.engine c.loop-line.answers.items c.answer_next.new.answers.items c.line-item.result
    c.loop-line-test.true c.line-item.is c.loop-line.invariant (c.answer_next.ensures.answered c.if-not-answer_next.false)
