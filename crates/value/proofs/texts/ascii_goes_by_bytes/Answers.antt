use Rattle.value.proofs.Characters.{ascii_plain, ascii_counted}
use Rattle.value.proofs.texts.ascii_goes_by_bytes.Goals as goal

pub returns-clause-plain : goal.returns-clause-plain
returns-clause-plain c = ascii_plain

pub returns-clause-count : goal.returns-clause-count
returns-clause-count c = ascii_counted
