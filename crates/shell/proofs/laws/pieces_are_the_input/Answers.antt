use Rattle.shell.proofs.Quotes.{pieces_rejoin}
use Rattle.shell.proofs.laws.pieces_are_the_input.Goals as goal

pub returns : goal.returns
returns c = pieces_rejoin
