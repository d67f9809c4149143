use Rattle.roots.proofs.UpdateLemmas.{touched-before}
use Rattle.roots.proofs.updates.is_repeated.Goals as goal

pub returns-in-Equal : goal.returns-in-Equal
returns-in-Equal c = λ _ root.
    touched-before c.args.touched.now c.args.index c.index-touched-index.result c.index-touched-index-2.result c.if-index-eq0.false c.requires c.index-touched-index.is c.index-touched-index-2.is (c.order_roots.ensures.exact.0 c.in-Equal.is) root
