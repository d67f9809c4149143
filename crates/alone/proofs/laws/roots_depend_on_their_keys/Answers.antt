use Rattle.value.proofs.ValueOrders.{root_exact}
use Rattle.assertion.specs.Candidates.{candidates_of}
use Rattle.assertion.proofs.ListLemmas.{has-missing}
use Rattle.alone.specs.States.{net_change}
use Rattle.alone.proofs.Forms.{root_same}
use Rattle.alone.proofs.Checks.{others_stay}
use Rattle.alone.proofs.laws.roots_depend_on_their_keys.Goals as goal

pub returns-clause-by_keys : goal.returns-clause-by_keys
returns-clause-by_keys c = root_same

pub returns-clause-others : goal.returns-clause-others
returns-clause-others c = λ layouts before after f g form root none.
    others_stay layouts form before after f g root (has-missing root_exact (candidates_of layouts after (net_change layouts before after) form) root none)
