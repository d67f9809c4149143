use Rattle.assertion.proofs.LawLemmas.{AnswersLeastBad-law, AnswersVerdict-law}
use Rattle.assertion.proofs.laws.bad_roots_answer.Goals as goal

pub returns-clause-least : goal.returns-clause-least
returns-clause-least c = AnswersLeastBad-law

pub returns-clause-verdict : goal.returns-clause-verdict
returns-clause-verdict c = AnswersVerdict-law
