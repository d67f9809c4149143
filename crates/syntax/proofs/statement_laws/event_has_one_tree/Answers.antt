use Rattle.syntax.specs.StatementGrammar as g
use Rattle.syntax.specs.StatementReaders as r
use Rattle.syntax.proofs.StatementFinders.{exact_events}
use Rattle.syntax.proofs.Whole as whole
use Rattle.syntax.proofs.statement_laws.event_has_one_tree.Goals as goal

pub returns : goal.returns
returns c = λ ts a b h k. whole.one_tree g.events r.one_event exact_events ts a b h k
