use Rattle.alone.proofs.CheckedOnce.{read_once}
use Rattle.alone.proofs.laws.immediate_checks_are_read_once.Goals as goal

pub returns : goal.returns
returns c = read_once
