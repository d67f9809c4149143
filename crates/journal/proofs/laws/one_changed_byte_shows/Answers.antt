use Rattle.journal.proofs.Differing.{one_byte_shows}
use Rattle.journal.proofs.laws.one_changed_byte_shows.Goals as goal

pub returns : goal.returns
returns c = one_byte_shows
