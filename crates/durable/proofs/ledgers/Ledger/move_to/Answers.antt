use Rattle.std.proofs.Common.{◌+◌, length}
use Rattle.durable.proofs.ledgers.Ledger.move_to.Goals as goal

pub returns-clause-ready : goal.returns-clause-ready
returns-clause-ready g c = c.move_to.ensures.ready (length c.args.self.now.engine.core.records + 1) c.requires.ready
