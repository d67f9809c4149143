use Rattle.journal.proofs.Headed.{header_again}
use Rattle.journal.proofs.laws.written_header_is_read.Goals as goal

pub returns : goal.returns
returns c = header_again
