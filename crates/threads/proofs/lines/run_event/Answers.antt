use Rattle.threads.proofs.lines.run_event.Goals as goal

pub returns-in-Run-clause-told : goal.returns-in-Run-clause-told
returns-in-Run-clause-told g c = rw c.in-Run.is c.run.ensures.told

pub returns-in-Rollback-clause-told : goal.returns-in-Rollback-clause-told
returns-in-Rollback-clause-told g c = rw c.in-Rollback.is (c.roll_back.ensures.told c.args.session.now.seen)
