use Rattle.value.proofs.ValueOrders.{root_cmp_total, root_cmp-equal, derived-root_cmp}
use Rattle.value.proofs.values.order_roots.Goals as goal

pub returns-clause-total : goal.returns-clause-total
returns-clause-total c = root_cmp_total

pub returns-clause-exact : goal.returns-clause-exact
returns-clause-exact c = rw (c.cmp.ensures, derived-root_cmp c.args.left.now c.args.right.now) (root_cmp-equal c.args.left.now c.args.right.now)
