use Rattle.messages.proofs.Again.{listed_again, number_again, text_again, value_again}
use Rattle.messages.proofs.laws.what_is_spelled_is_read.Goals as goal

pub returns-clause-numbers : goal.returns-clause-numbers
returns-clause-numbers c = number_again

pub returns-clause-texts : goal.returns-clause-texts
returns-clause-texts c = text_again

pub returns-clause-values : goal.returns-clause-values
returns-clause-values c = value_again

pub returns-clause-listed : goal.returns-clause-listed
returns-clause-listed c = listed_again
