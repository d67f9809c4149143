use Rattle.prepared.proofs.Events.{event_numbers}
use Rattle.prepared.proofs.laws.event_has_the_numbers_of_its_text.Goals as goal

pub returns : goal.returns
returns c = event_numbers
