use Rattle.durable.proofs.Kept.{some_restored}
use Rattle.durable.proofs.laws.what_was_kept_is_restored.Goals as goal

pub returns : goal.returns
returns c = λ declared start log epoch loaded entries pairs number. some_restored declared start epoch.admitted.fit loaded log epoch.accepted epoch.history entries pairs number
