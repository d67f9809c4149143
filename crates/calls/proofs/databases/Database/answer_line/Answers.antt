use Rattle.calls.proofs.Telling.{answered_line, unanswered_line}
use Rattle.calls.proofs.databases.Database.answer_line.Goals as goal

pub returns-in-Ok : goal.returns-in-Ok
returns-in-Ok c = answered_line c.args.script_line c.in-Ok.answer c.args.self.now c.answer.new.self c.in-Ok.ensures

pub returns-in-Err : goal.returns-in-Err
returns-in-Err c = unanswered_line c.args.script_line c.in-Err.why c.args.self.now c.answer.new.self c.unanswered_response.result c.in-Err.ensures c.unanswered_response.ensures
