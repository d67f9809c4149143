use Rattle.alone.proofs.Ones.{so_many}
use Rattle.alone.proofs.modes.Modes.all_immediate.Goals as goal

pub returns : goal.returns
returns c = so_many c.args.assertions.now
