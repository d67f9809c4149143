use Rattle.assertion.proofs.LawLemmas.{ListsBadRoots-law, IsFalseAtBadRoots-law, IsKnownUnlessSingle-law, NamesLeastBad-law}
use Rattle.assertion.proofs.laws.bad_roots_are_those_that_are_bad.Goals as goal

pub returns-clause-list : goal.returns-clause-list
returns-clause-list c = ListsBadRoots-law

pub returns-clause-verdict : goal.returns-clause-verdict
returns-clause-verdict c = IsFalseAtBadRoots-law

pub returns-clause-known : goal.returns-clause-known
returns-clause-known c = IsKnownUnlessSingle-law

pub returns-clause-least : goal.returns-clause-least
returns-clause-least c = NamesLeastBad-law
