use Rattle.meaning.proofs.StatementKeys.{DeleteReads-law, SelectReads-law, UpdateReads-law}
use Rattle.meaning.proofs.laws.statements_read_written_keys.Goals as goal

pub returns-clause-delete : goal.returns-clause-delete
returns-clause-delete c = DeleteReads-law

pub returns-clause-select : goal.returns-clause-select
returns-clause-select c = SelectReads-law

pub returns-clause-update : goal.returns-clause-update
returns-clause-update c = UpdateReads-law
