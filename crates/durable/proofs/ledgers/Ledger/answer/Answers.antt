use Rattle.durable.proofs.Said.{ready_after, says_behind}
use Rattle.durable.proofs.ledgers.Ledger.answer.Goals as goal

pub returns-clause-ready : goal.returns-clause-ready
returns-clause-ready g c =
    ready_after g.D.Device.seen g.D.Device.may_leave g.D.Device.moment g.D.Device.left_since c.args.self.now.writer
    c.answer_kept.new.keeper c.args.self.now.engine.core.records c.answer_kept.new.self.core.records c.answer_kept.result
    c.answer_kept.ensures.asked c.requires.ready

pub returns-clause-says : goal.returns-clause-says
returns-clause-says g c = λ before.
    says_behind g.D.Device.seen g.D.Device.may_leave g.D.Device.moment g.D.Device.left_since before c.args.self.now.writer
    c.answer_kept.new.keeper c.args.self.now.engine.core.records c.answer_kept.new.self.core.records c.answer_kept.result
    c.answer_kept.ensures.asked
