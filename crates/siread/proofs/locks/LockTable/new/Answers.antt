use Rattle.std.proofs.Common.{subst, sym}
use Rattle.siread.specs.Locks.{readers_at, AreBelow}
use Rattle.siread.proofs.Members.{not_in_nil}
use Rattle.siread.proofs.locks.LockTable.new.Goals as goal

pub returns-clause-below : goal.returns-clause-below
returns-clause-below c = λ number. subst (λ es. AreBelow number (readers_at es)) (sym c.new.ensures.empty) (λ key reader m. absurd (not_in_nil reader m))
