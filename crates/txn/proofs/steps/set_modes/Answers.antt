use Rattle.alone.proofs.Immediates.{set_long}
use Rattle.txn.proofs.steps.set_modes.Goals as goal

pub returns-clause-long : goal.returns-clause-long
returns-clause-long c = rw (c.in_ok-after.ensures, c.assertions.ensures.value) (set_long c.args.names.now _ c.args.own.now.declared.assertions c.args.modes.now c.requires.modes)
