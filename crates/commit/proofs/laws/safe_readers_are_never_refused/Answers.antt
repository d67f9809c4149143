use Rattle.commit.proofs.Safe.{not_for_others, safe_begun, safe_committed, safe_ended, safe_refused}
use Rattle.commit.proofs.laws.safe_readers_are_never_refused.Goals as goal

pub returns-clause-answered : goal.returns-clause-answered
returns-clause-answered c = not_for_others

pub returns-clause-begun : goal.returns-clause-begun
returns-clause-begun c = safe_begun

pub returns-clause-ended : goal.returns-clause-ended
returns-clause-ended c = safe_ended

pub returns-clause-refused : goal.returns-clause-refused
returns-clause-refused c = safe_refused

pub returns-clause-committed : goal.returns-clause-committed
returns-clause-committed c = safe_committed
