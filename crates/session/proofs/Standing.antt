-- How assertions stand on tables that make none false.
use Rattle.std.proofs.Common.{◌≡◌, ◌≢◌, ℕ, Bool, true, false, cond, List, [], ◌∷◌, Option, Some, None, length, refl, sym, subst}
use Rattle.std.specs.Str.{bytes_eq}
use Rattle.value.specs.Ordered.{least}
use Rattle.value.specs.ValueOrder.{root_cmp}
use Rattle.value.specs.declared.values.Root.{Root}
use Rattle.value.specs.declared.values.Root.TheVariants.{All}
use Rattle.value.specs.declared.truths.Truth.{Truth}
use Rattle.value.specs.declared.truths.Truth.TheVariants.{True, False, Unknown}
use Rattle.value.specs.Truths.{is_of}
use Rattle.table.specs.Rows.{Layout}
use Rattle.assertion.specs.declared.assertions.Assertion.{Assertion}
use Rattle.assertion.specs.declared.forms.Form.{Form}
use Rattle.assertion.specs.declared.forms.Form.TheVariants.{ByRow, ByGroup, Single}
use Rattle.assertion.specs.Declarations.{Declared, layouts_in}
use Rattle.assertion.specs.Meaning.{State, bad_roots, least_bad_of, single_truth, truth_of_roots, verdict_of}
use Rattle.alone.specs.Checks.{violation}
use Rattle.alone.proofs.Checks.{none_first}
use Rattle.alone.specs.Modes.{assertion_of}
use Rattle.txn.specs.Transactions.{truth_of}
use Rattle.alone.specs.Commits.{IsLog}
use Rattle.alone.specs.Epoch.{newest}
use Rattle.commit.specs.Cores.{CoreState, IsSerializable, log_of, newest_tables}
use Rattle.session.specs.Answers.{IsStanding, IsUpheld}
use Rattle.session.proofs.Tokens.{newest_at}

-- a form without a bad root is upheld
module _ (layouts : List Layout) (state : State) where
  no_roots : (roots : List Root) → (h : least root_cmp roots ≡ None) → truth_of_roots roots ≡ True
  no_roots [] h = refl
  no_roots (r ∷ rest) h = let no : ⊥ = cc in absurd no

  not_false : (t : Truth) → least root_cmp (cond (is_of t False) (All ∷ []) []) ≡ None → t ≢ False
  not_false True h = λ e. cc
  not_false Unknown h = λ e. cc
  not_false False h = λ e. cc

  upheld : (form : Form) → least_bad_of layouts form state ≡ None → IsUpheld form (Some (verdict_of layouts form state))
  upheld (ByRow table condition queries) h = no_roots (bad_roots layouts (ByRow table condition queries) state) h
  upheld (ByGroup table restriction group having aggregates) h = no_roots (bad_roots layouts (ByGroup table restriction group having aggregates) state) h
  upheld (Single condition queries) h = not_false (single_truth state condition queries) h

  abbrev truth : Option Assertion → Option Truth
  truth None = None
  truth (Some a) = Some (verdict_of layouts a.form state)

  here : (b : Bool) (a : Assertion) (other : Option Assertion) → IsUpheld a.form (Some (verdict_of layouts a.form state)) → IsStanding other (truth other)
      → IsStanding (cond b (Some a) other) (truth (cond b (Some a) other))
  here true a other h g = h
  here false a other h g = g

  found : (name : List ℕ) (assertions : List Assertion) → violation layouts assertions state ≡ None
      → IsStanding (assertion_of name assertions) (truth (assertion_of name assertions))
  found name [] h = refl
  found name (a ∷ rest) h =
      let parts = none_first a.name (least_bad_of layouts a.form state) (violation layouts rest state) h in
      here (bytes_eq a.name name) a (assertion_of name rest) (upheld a.form parts.0) (found name rest parts.1)

truth_same : (declared : Declared) (state : State) (o : Option Assertion) → truth (layouts_in declared) state o ≡ truth_of (record { declared = declared; state = state }) o
truth_same declared state None = refl
truth_same declared state (Some a) = refl

pub stands : (declared : Declared) (state : State) (name : List ℕ) → violation (layouts_in declared) declared.assertions state ≡ None
    → IsStanding (assertion_of name declared.assertions) (truth_of (record { declared = declared; state = state }) (assertion_of name declared.assertions))
stands declared state name good =
    subst (λ (o : Option Truth). IsStanding (assertion_of name declared.assertions) o) (truth_same declared state (assertion_of name declared.assertions)) (found (layouts_in declared) state name declared.assertions good)

pub stands_newest : (c : CoreState) (name : List ℕ) → IsLog (log_of c) → IsSerializable c → (answer : Option Truth)
    → answer ≡ truth_of (newest_tables c) (assertion_of name c.declared.assertions) → IsStanding (assertion_of name c.declared.assertions) answer
stands_newest c name log h answer is =
    let good : violation (layouts_in c.declared) c.declared.assertions (newest c.declared c.start (log_of c)) ≡ None =
    subst (λ (s : State). violation (layouts_in c.declared) c.declared.assertions s ≡ None) (newest_at c.declared c.start c.records log) (h.sound (length c.records)).good in
    subst (λ (o : Option Truth). IsStanding (assertion_of name c.declared.assertions) o) (sym is) (stands c.declared (newest c.declared c.start (log_of c)) name good)
