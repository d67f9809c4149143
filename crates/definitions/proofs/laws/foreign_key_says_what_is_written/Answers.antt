use Rattle.definitions.proofs.Says.{foreign_key_says}
use Rattle.definitions.proofs.laws.foreign_key_says_what_is_written.Goals as goal

pub returns : goal.returns
returns c = foreign_key_says
