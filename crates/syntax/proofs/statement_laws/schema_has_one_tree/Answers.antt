use Rattle.syntax.specs.SchemaGrammar as g
use Rattle.syntax.specs.SchemaReaders as r
use Rattle.syntax.proofs.SchemaFinders.{exact_schemas}
use Rattle.syntax.proofs.Whole as whole
use Rattle.syntax.proofs.statement_laws.schema_has_one_tree.Goals as goal

pub returns : goal.returns
returns c = λ ts a b h k. whole.one_tree g.schemas r.definitions exact_schemas ts a b h k
