use Rattle.std.proofs.Common.{◌∙◌, sym, ⊎_elim}
use Rattle.std.proofs.lemmas.Result.{IfOk-weaker}
use Rattle.value.specs.declared.truths.Truth.{Truth}
use Rattle.assertion.specs.Laws.{IsByRoots}
use Rattle.assertion.proofs.LawLemmas.{AnswersVerdict-law}
use Rattle.roots.proofs.BadLemmas.{whole-verdict}
use Rattle.roots.proofs.BoundLemmas.{whole-bounded}
use Rattle.roots.proofs.bad_roots.truth_of.Goals as goal

pub truth_of_whole-requires-clause-bounded : goal.truth_of_whole-requires-clause-bounded
truth_of_whole-requires-clause-bounded c = whole-bounded c.args.schemas.now c.args.form.now _ _ c.in-Single.is c.requires.bounded

pub returns-in-Single : goal.returns-in-Single
returns-in-Single c =
    IfOk-weaker c.truth_of_whole.result _ _ (λ (t : Truth) h. λ asc bad. h ∙ whole-verdict c.args.schemas.now c.args.tables.now c.args.form.now _ _ c.in-Single.is) c.truth_of_whole.ensures

pub returns-in-ByRow : goal.returns-in-ByRow
returns-in-ByRow c =
    let by_roots : IsByRoots c.args.form.now = ⊎_elim (λ e. rw e.3 tt) (λ e. rw e.5 tt) c.in-ByRow.is in
    λ asc bad. c.truth_by_roots.ensures ∙ sym (AnswersVerdict-law c.args.schemas.now c.args.form.now c.args.tables.now c.args.bad.now asc bad by_roots)
