use Rattle.std.proofs.Common.{ap, length}
use Rattle.txn.specs.Transactions.{truths_on}
use Rattle.replay.proofs.Verdicts.{counted}
use Rattle.replay.proofs.closing.write_verdicts.Goals as goal

pub returns : goal.returns
returns g c =
    counted c.write_verdict_lines.result c.args.tables.now.declared.assertions (truths_on c.args.tables.now) (length c.assertions.result.now)
    (g.W.Write.contents c.args.out.now) (g.W.Write.contents c.write_count.new.out) (g.W.Write.contents c.write_verdict_lines.new.out)
    (ap length c.assertions.ensures.value) c.in_ok-write_count.ensures c.write_verdict_lines.ensures
