use Rattle.alone.proofs.Safe.{is_accepted, stays_safe}
use Rattle.alone.proofs.commit_laws.safe_snapshots_have_no_danger.Goals as goal

pub returns-clause-accepted : goal.returns-clause-accepted
returns-clause-accepted c = λ log commit h only none safe. is_accepted log commit h only none safe

pub returns-clause-stays : goal.returns-clause-stays
returns-clause-stays c = stays_safe
