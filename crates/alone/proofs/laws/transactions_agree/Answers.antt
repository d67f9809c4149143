use Rattle.alone.proofs.Induction.{outcome_same, keys_same}
use Rattle.alone.proofs.laws.transactions_agree.Goals as goal

pub returns-clause-same : goal.returns-clause-same
returns-clause-same c = λ declared one other sound sound' trace under. outcome_same declared one other sound sound' trace under

pub returns-clause-keys : goal.returns-clause-keys
returns-clause-keys c = λ declared one other sound sound' trace under. keys_same declared one other sound sound' trace under
