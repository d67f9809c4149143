use Rattle.definitions.proofs.Says.{check_says}
use Rattle.definitions.proofs.laws.check_says_what_is_written.Goals as goal

pub returns : goal.returns
returns c = check_says
