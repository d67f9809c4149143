use Rattle.syntax.specs.Grammar as g
use Rattle.syntax.specs.Readers as r
use Rattle.syntax.proofs.Finders.{exact_conditions}
use Rattle.syntax.proofs.Whole as whole
use Rattle.syntax.proofs.laws.condition_has_one_tree.Goals as goal

pub returns : goal.returns
returns c = λ ts a b h k. whole.one_tree g.conditions r.cond_at exact_conditions ts a b h k
