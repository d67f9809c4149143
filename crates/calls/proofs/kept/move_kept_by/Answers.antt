use Rattle.std.proofs.Common.{◌+◌, length}
use Rattle.calls.proofs.kept.move_kept_by.Goals as goal

pub returns-clause-step : goal.returns-clause-step
returns-clause-step c = c.move_to.ensures.ready (length c.args._engine.now.core.records + 1) c.requires.step
