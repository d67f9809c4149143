use Rattle.std.proofs.Common.{◌+◌, arith, drop, subst}
use Rattle.std.proofs.lemmas.List.{drop_all}
use Rattle.value.proofs.Lists.{drop_item}
use Rattle.replay.proofs.Printing.{IsPrinted, ends, goes_on}
use Rattle.replay.proofs.print_answers.Goals as goal

pub loop-line-preserved : goal.loop-line-preserved
loop-line-preserved g c =
    goes_on c.args.engine.now c.args.lines.now c.loop-line.engine c.line-item.result (drop (c.loop-line.line-index + 1) c.args.lines.now) c.print_answer.new.engine
    (g.W.Write.contents c.args.out.now) (g.W.Write.contents c.loop-line.out) (g.W.Write.contents c.print_answer.new.out)
    (subst (λ left. IsPrinted c.args.engine.now c.args.lines.now c.loop-line.engine left (g.W.Write.contents c.args.out.now) (g.W.Write.contents c.loop-line.out))
    (drop_item c.args.lines.now c.loop-line.line-index c.line-item.result c.loop-line-test.true c.line-item.is) c.loop-line.invariant)
    c.in_ok-print_answer.ensures.written

pub returns-clause-written : goal.returns-clause-written
returns-clause-written g c =
    ends c.args.engine.now c.args.lines.now c.loop-line.engine (g.W.Write.contents c.args.out.now) (g.W.Write.contents c.loop-line.out)
    (subst (λ left. IsPrinted c.args.engine.now c.args.lines.now c.loop-line.engine left (g.W.Write.contents c.args.out.now) (g.W.Write.contents c.loop-line.out))
    (drop_all c.loop-line.line-index c.args.lines.now (omega arith)) c.loop-line.invariant)
