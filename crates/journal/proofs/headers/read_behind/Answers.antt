use Rattle.journal.proofs.Headed.{stripped}
use Rattle.journal.proofs.headers.read_behind.Goals as goal

pub returns : goal.returns
returns c = stripped c.strip_prefix.result c.args.front.now c.args.bytes.now _ c.strip_prefix.ensures.cases
