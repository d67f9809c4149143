use Rattle.value.proofs.ValueOrders.{value_cmp_total, value_cmp-equal, derived-value_cmp}
use Rattle.value.proofs.values.order.Goals as goal

pub returns-clause-total : goal.returns-clause-total
returns-clause-total c = value_cmp_total

pub returns-clause-exact : goal.returns-clause-exact
returns-clause-exact c = rw (c.cmp.ensures, derived-value_cmp c.args.a.now c.args.b.now) (value_cmp-equal c.args.a.now c.args.b.now)
