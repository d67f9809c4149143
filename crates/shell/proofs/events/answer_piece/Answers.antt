use Rattle.shell.proofs.Refusals.{answers_reply}
use Rattle.shell.proofs.events.answer_piece.Goals as goal

pub returns-in-Ok : goal.returns-in-Ok
returns-in-Ok g c =
    answers_reply (record { at = c.args.at; bytes = c.args.bytes.now }) (g.W.Write.contents c.args.out.now) c.write_reply-written.result c.args.engine.now c.in-Ok.line c.in-Ok.answer
    c.run_piece.new.engine (g.W.Write.contents c.write_reply-written.new.out) c.in-Ok.ensures.read c.in-Ok.ensures.answered c.write_reply-written.ensures
