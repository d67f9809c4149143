use Rattle.meaning.proofs.Checked.{TakesWritten-law, StaysWritten-law, TakesExactly-law}
use Rattle.meaning.proofs.laws.assertion_means_what_is_written.Goals as goal

pub returns-clause-written : goal.returns-clause-written
returns-clause-written c = TakesWritten-law

pub returns-clause-exact : goal.returns-clause-exact
returns-clause-exact c = TakesExactly-law

pub returns-clause-later : goal.returns-clause-later
returns-clause-later c = StaysWritten-law
