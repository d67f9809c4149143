use Rattle.calls.proofs.Telling.{runs_kept}
use Rattle.calls.proofs.databases.Database.run_statement.Goals as goal

pub returns-in-Ok : goal.returns-in-Ok
returns-in-Ok c =
    runs_kept (record { session = c.args.session; statement = c.args.statement; values = c.args.values.now }) c.in-Some.prepared.now c.in-Ok.event
    c.args.self.now c.answer.new.self c.answer.result c.in-Some.ensures c.in-Ok.ensures.made c.answer.ensures
