use Rattle.calls.proofs.Telling.{executes_read}
use Rattle.calls.proofs.databases.Database.execute.Goals as goal

pub returns-in-Ok : goal.returns-in-Ok
returns-in-Ok c =
    executes_read c.args.text.now c.args.session c.in-Ok.event c.args.self.now c.answer.new.self c.answer.result
    (record { has = c.in-Ok.ensures.found.0; shallow = c.in-Ok.ensures.found.1 }) c.answer.ensures
