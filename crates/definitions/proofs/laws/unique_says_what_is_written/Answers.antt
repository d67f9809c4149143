use Rattle.definitions.proofs.Says.{unique_says}
use Rattle.definitions.proofs.laws.unique_says_what_is_written.Goals as goal

pub returns : goal.returns
returns c = unique_says
