use Rattle.alone.proofs.Nets.{net_all, net_exact, put_net}
use Rattle.alone.proofs.Orders.{net_only, net_is_real}
use Rattle.alone.proofs.laws.net_change_is_what_differs.Goals as goal

pub returns-clause-all : goal.returns-clause-all
returns-clause-all c = net_all

pub returns-clause-exact : goal.returns-clause-exact
returns-clause-exact c = net_exact

pub returns-clause-leads : goal.returns-clause-leads
returns-clause-leads c = put_net

pub returns-clause-only : goal.returns-clause-only
returns-clause-only c = λ layouts before after f g changes d. net_only layouts before after f g changes d

pub returns-clause-real : goal.returns-clause-real
returns-clause-real c = λ layouts state fit changes due. net_is_real layouts state fit changes due
