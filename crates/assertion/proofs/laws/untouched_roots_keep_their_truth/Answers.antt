use Rattle.assertion.proofs.LawLemmas.{KeepsTruthAfterChange-law, KeepsTruthAfterChanges-law}
use Rattle.assertion.proofs.laws.untouched_roots_keep_their_truth.Goals as goal

pub returns-clause-one : goal.returns-clause-one
returns-clause-one c = KeepsTruthAfterChange-law

pub returns-clause-list : goal.returns-clause-list
returns-clause-list c = KeepsTruthAfterChanges-law
