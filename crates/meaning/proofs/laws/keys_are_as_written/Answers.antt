use Rattle.meaning.proofs.Classes.{HasOneLink-law}
use Rattle.meaning.proofs.Keys.{WhereReads-law}
use Rattle.meaning.proofs.CheckKeys.{CheckReads-law, VerdictReads-law}
use Rattle.meaning.proofs.laws.keys_are_as_written.Goals as goal

pub returns-clause-conditions : goal.returns-clause-conditions
returns-clause-conditions c = WhereReads-law

pub returns-clause-links : goal.returns-clause-links
returns-clause-links c = HasOneLink-law

pub returns-clause-checks : goal.returns-clause-checks
returns-clause-checks c = CheckReads-law

pub returns-clause-verdicts : goal.returns-clause-verdicts
returns-clause-verdicts c = VerdictReads-law
