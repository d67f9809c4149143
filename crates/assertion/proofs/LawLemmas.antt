-- The laws of candidates and of bad roots.
use Rattle.std.proofs.Common.{◌≡◌, true, List, refl, sym, ◌∙◌, ap}
use Rattle.value.specs.declared.values.Root.{Root}
use Rattle.value.specs.declared.values.Root.TheVariants.{All, Of}
use Rattle.value.specs.ValueOrder.{root_cmp}
use Rattle.value.proofs.OrderedLists.{has, first, least-first}
use Rattle.value.proofs.ValueOrders.{root_cmp_total, root_exact}
use Rattle.value.specs.declared.truths.Truth.{Truth}
use Rattle.value.specs.declared.truths.Truth.TheVariants.{True, False, Unknown}
use Rattle.value.specs.Truths.{is_of}
use Rattle.table.specs.Rows.{Layout}
use Rattle.table.specs.declared.conds.Cond.{Cond}
use Rattle.assertion.specs.declared.queries.Query.{Query}
use Rattle.assertion.specs.declared.queries.Whole.{Whole}
use Rattle.assertion.specs.declared.forms.Form.{Form}
use Rattle.assertion.specs.declared.forms.Form.TheVariants.{ByRow, ByGroup, Single}
use Rattle.assertion.specs.Meaning.{State, bad_roots, single_truth, truth_of_roots, verdict_of, least_bad_of}
use Rattle.assertion.specs.Candidates.{candidates, candidates_of}
use Rattle.assertion.specs.Roots.{is_bad_root, AreBad}
use Rattle.assertion.specs.Changes.{IsOrdered, state_after, state_after_all}
use Rattle.assertion.specs.Laws as law
use Rattle.assertion.proofs.ListLemmas.{has-contains, contains-has, has-missing}
use Rattle.assertion.proofs.KeptTruth.{kept_truth, kept_truth-all}
use Rattle.assertion.proofs.BadRoots.{has-bad}
use Rattle.assertion.proofs.RootLists.{truth-has, has-truth, truth-known, truth-first, first-slice_get, has-least_of, least-lowest, least-only}

pub KeepsTruthAfterChange-law : law.KeepsTruthAfterChange
KeepsTruthAfterChange-law layouts form change state r asc is n = kept_truth layouts change state is asc form r (has-missing root_exact (candidates layouts (state_after layouts change state) change form) r n)

pub KeepsTruthAfterChanges-law : law.KeepsTruthAfterChanges
KeepsTruthAfterChanges-law layouts form changes state r asc are n = kept_truth-all layouts changes state are asc form r (has-missing root_exact (candidates_of layouts (state_after_all layouts changes state) changes form) r n)

pub ListsBadRoots-law : law.ListsBadRoots
ListsBadRoots-law layouts form state r asc = (
  λ c. sym (has-bad layouts form state asc r) ∙ has-contains root_cmp_total (bad_roots layouts form state) r c,
  λ h. contains-has root_exact (bad_roots layouts form state) r (has-bad layouts form state asc r ∙ h),
)

is_of-false : (t : Truth) → is_of t False ≡ true → t ≡ False
is_of-false True h = cc
is_of-false False h = refl
is_of-false Unknown h = cc

-- a single condition that has a bad root is false
single_false : (layouts : List Layout) (c : Cond) (queries : List (Query Whole)) (state : State) (r : Root) → is_bad_root layouts (Single c queries) state r ≡ true → single_truth state c queries ≡ False
single_false layouts c queries state All h = is_of-false (single_truth state c queries) h
single_false layouts c queries state (Of v) h = cc

pub verdict-bad : (layouts : List Layout) (form : Form) (state : State) → IsOrdered layouts state → (r : Root) → is_bad_root layouts form state r ≡ true → verdict_of layouts form state ≡ False
verdict-bad layouts (ByRow table c queries) state asc r h = truth-has (bad_roots layouts (ByRow table c queries) state) r (has-bad layouts (ByRow table c queries) state asc r ∙ h)
verdict-bad layouts (ByGroup table restriction group having aggregates) state asc r h = truth-has (bad_roots layouts (ByGroup table restriction group having aggregates) state) r (has-bad layouts (ByGroup table restriction group having aggregates) state asc r ∙ h)
verdict-bad layouts (Single c queries) state asc r h = single_false layouts c queries state r h

-- where the list of bad roots makes it false, there is a bad root
bad_listed : (layouts : List Layout) (form : Form) (state : State) → IsOrdered layouts state → truth_of_roots (bad_roots layouts form state) ≡ False → (r : Root) × (is_bad_root layouts form state r ≡ true)
bad_listed layouts form state asc e =
    let one : (r : Root) × (has root_cmp r (bad_roots layouts form state) ≡ true) = has-truth (bad_roots layouts form state) e in
    (one.0, sym (has-bad layouts form state asc one.0) ∙ one.1)

pub bad-verdict : (layouts : List Layout) (form : Form) (state : State) → IsOrdered layouts state → verdict_of layouts form state ≡ False → (r : Root) × (is_bad_root layouts form state r ≡ true)
bad-verdict layouts (ByRow table c queries) state asc e = bad_listed layouts (ByRow table c queries) state asc e
bad-verdict layouts (ByGroup table restriction group having aggregates) state asc e = bad_listed layouts (ByGroup table restriction group having aggregates) state asc e
bad-verdict layouts (Single c queries) state asc e = (All, ap (λ t. is_of t False) e)

pub IsFalseAtBadRoots-law : law.IsFalseAtBadRoots
IsFalseAtBadRoots-law layouts form state asc = (bad-verdict layouts form state asc, λ one. verdict-bad layouts form state asc one.0 one.1)

pub IsKnownUnlessSingle-law : law.IsKnownUnlessSingle
IsKnownUnlessSingle-law layouts (ByRow table c queries) state by = truth-known (bad_roots layouts (ByRow table c queries) state)
IsKnownUnlessSingle-law layouts (ByGroup table restriction group having aggregates) state by = truth-known (bad_roots layouts (ByGroup table restriction group having aggregates) state)
IsKnownUnlessSingle-law layouts (Single c queries) state by = absurd by

pub NamesLeastBad-law : law.NamesLeastBad
NamesLeastBad-law layouts form state r asc =
    let rs : List Root = bad_roots layouts form state in (
      λ e. (sym (has-bad layouts form state asc r) ∙ has-least_of rs r e, λ q h. least-lowest rs r e q (has-bad layouts form state asc q ∙ h)),
      λ k. least-only rs r (has-bad layouts form state asc r ∙ k.0) (λ q h. k.1 q (sym (has-bad layouts form state asc q) ∙ h)),
    )

-- the first of a list in order with the bad roots and no other is the least
pub least-kept : (layouts : List Layout) (form : Form) (state : State) → IsOrdered layouts state → (bad : List Root) → AreBad layouts form state bad → least_bad_of layouts form state ≡ first bad
least-kept layouts form state asc bad are = least-first root_cmp_total root_exact bad (bad_roots layouts form state) (λ r. are.exact r ∙ sym (has-bad layouts form state asc r))

pub AnswersLeastBad-law : law.AnswersLeastBad
AnswersLeastBad-law layouts form state bad asc are = least-kept layouts form state asc bad are ∙ first-slice_get bad

pub AnswersVerdict-law : law.AnswersVerdict
AnswersVerdict-law layouts (ByRow table c queries) state bad asc are by = truth-first (bad_roots layouts (ByRow table c queries) state) bad (least-kept layouts (ByRow table c queries) state asc bad are)
AnswersVerdict-law layouts (ByGroup table restriction group having aggregates) state bad asc are by = truth-first (bad_roots layouts (ByGroup table restriction group having aggregates) state) bad (least-kept layouts (ByGroup table restriction group having aggregates) state asc bad are)
AnswersVerdict-law layouts (Single c queries) state bad asc are by = absurd by
