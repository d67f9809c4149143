use Rattle.meaning.proofs.Checked.{DeletesRows-law, UpdatesRows-law, UpdatesColumns-law}
use Rattle.meaning.proofs.Selects.{SelectsWritten-law}
use Rattle.meaning.proofs.laws.statements_keep_written_rows.Goals as goal

pub returns-clause-delete : goal.returns-clause-delete
returns-clause-delete c = DeletesRows-law

pub returns-clause-select : goal.returns-clause-select
returns-clause-select c = SelectsWritten-law

pub returns-clause-update : goal.returns-clause-update
returns-clause-update c = UpdatesRows-law

pub returns-clause-columns : goal.returns-clause-columns
returns-clause-columns c = UpdatesColumns-law
