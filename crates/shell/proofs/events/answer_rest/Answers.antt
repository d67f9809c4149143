use Rattle.shell.proofs.Refusals.{breaks_fault}
use Rattle.shell.proofs.events.answer_rest.Goals as goal

pub returns : goal.returns
returns g c =
    breaks_fault (record { at = c.args.at; bytes = c.args.bytes.now }) (g.W.Write.contents c.args.out.now) c.write_refusal.result c.refuse_rest-refusal.result
    (g.W.Write.contents c.write_refusal.new.out) c.refuse_rest-refusal.ensures c.write_refusal.ensures
