-- The laws of candidates and of bad roots.
use Rattle.std.specs.Prelude.{◌≡◌, ◌≢◌, ◌↔◌, IsTrue, Contains, List, Some, slice_get}
use Rattle.std.specs.declared.cmp.Ordering.TheVariants.{Less}
use Rattle.value.specs.declared.values.Root.{Root}
use Rattle.value.specs.ValueOrder.{root_cmp}
use Rattle.value.specs.declared.truths.Truth.TheVariants.{False, Unknown}
use Rattle.table.specs.declared.rows.Change.{Change}
use Rattle.table.specs.Rows.{Layout}
use Rattle.assertion.specs.declared.forms.Form.{Form}
use Rattle.assertion.specs.declared.forms.Form.TheVariants.{ByRow, ByGroup, Single}
use Rattle.assertion.specs.Meaning.{State, bad_roots, truth_of_roots, verdict_of, least_bad_of}
use Rattle.assertion.specs.Roots.{is_bad_root, AreBad}
use Rattle.assertion.specs.Changes.{IsOrdered, IsChangeOf, AreChangesOf, state_after, state_after_all}
use Rattle.assertion.specs.Candidates.{candidates, candidates_of}

-- a root that is no candidate of a change is bad after it exactly where it was bad before
abbrev pub KeepsTruthAfterChange : Type 0
KeepsTruthAfterChange =
    (layouts : List Layout) (form : Form) (change : Change) (state : State) (r : Root) → IsOrdered layouts state
    → IsChangeOf layouts change state → ¬ Contains (candidates layouts (state_after layouts change state) change form) r
    → is_bad_root layouts form (state_after layouts change state) r ≡ is_bad_root layouts form state r

-- a root that is a candidate of none of some changes is bad after them exactly where it was bad before
abbrev pub KeepsTruthAfterChanges : Type 0
KeepsTruthAfterChanges =
    (layouts : List Layout) (form : Form) (changes : List Change) (state : State) (r : Root) → IsOrdered layouts state
    → AreChangesOf layouts changes state
    → ¬ Contains (candidates_of layouts (state_after_all layouts changes state) changes form) r
    → is_bad_root layouts form (state_after_all layouts changes state) r ≡ is_bad_root layouts form state r

-- the bad roots from scratch are the roots that are bad of themselves
abbrev pub ListsBadRoots : Type 0
ListsBadRoots =
    (layouts : List Layout) (form : Form) (state : State) (r : Root) → IsOrdered layouts state
    → Contains (bad_roots layouts form state) r ↔ IsTrue (is_bad_root layouts form state r)

-- an assertion is false exactly where some root is bad
abbrev pub IsFalseAtBadRoots : Type 0
IsFalseAtBadRoots =
    (layouts : List Layout) (form : Form) (state : State) → IsOrdered layouts state
    → (verdict_of layouts form state ≡ False) ↔ ((r : Root) × IsTrue (is_bad_root layouts form state r))

-- a form whose truth is whether there is a bad root
abbrev pub IsByRoots : Form → Type 0
IsByRoots (ByRow table condition queries) = Unit {0}
IsByRoots (ByGroup table restriction group having aggregates) = Unit {0}
IsByRoots (Single condition queries) = ⊥

-- by rows and by groups the verdict is never unknown
abbrev pub IsKnownUnlessSingle : Type 0
IsKnownUnlessSingle =
    (layouts : List Layout) (form : Form) (state : State) → IsByRoots form → verdict_of layouts form state ≢ Unknown

-- the least bad root is the bad one that no bad one is below
abbrev pub NamesLeastBad : Type 0
NamesLeastBad = (layouts : List Layout) (form : Form) (state : State) (r : Root) → IsOrdered layouts state
    → (least_bad_of layouts form state ≡ Some r)
    ↔ (IsTrue (is_bad_root layouts form state r)
    × ((q : Root) → IsTrue (is_bad_root layouts form state q) → root_cmp q r ≢ Less))

-- the first of a list of the bad roots in order is the least bad root
abbrev pub AnswersLeastBad : Type 0
AnswersLeastBad =
    (layouts : List Layout) (form : Form) (state : State) (bad : List Root) → IsOrdered layouts state
    → AreBad layouts form state bad → least_bad_of layouts form state ≡ slice_get bad 0

-- by rows and by groups, the verdict is whether such a list is empty
abbrev pub AnswersVerdict : Type 0
AnswersVerdict =
    (layouts : List Layout) (form : Form) (state : State) (bad : List Root) → IsOrdered layouts state
    → AreBad layouts form state bad → IsByRoots form → verdict_of layouts form state ≡ truth_of_roots bad
