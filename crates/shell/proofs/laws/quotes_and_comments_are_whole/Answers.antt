use Rattle.shell.proofs.Quotes.{comments_pass, quotes_pass}
use Rattle.shell.proofs.laws.quotes_and_comments_are_whole.Goals as goal

pub returns-clause-quotes : goal.returns-clause-quotes
returns-clause-quotes c = quotes_pass

pub returns-clause-comments : goal.returns-clause-comments
returns-clause-comments c = comments_pass
