-- That the test of a form's width is what it tests.
use Rattle.std.proofs.Common.{◌≡◌, Bool, true, false, List, [], ◌∷◌, refl, sym, subst}
use Rattle.std.specs.Prelude.{◌↔◌, ◌&&◌, IsTrue, All}
use Rattle.std.specs.List.{list_all}
use Rattle.std.proofs.lemmas.List.Elements.{All-nil, All-cons, All-head, All-tail}
use Rattle.table.specs.Bounds.{is_bounded}
use Rattle.assertion.specs.declared.queries.Query.{Query}
use Rattle.assertion.specs.declared.queries.Link.{Link}
use Rattle.assertion.specs.declared.queries.Whole.{Whole}
use Rattle.assertion.specs.declared.forms.Form.{Form}
use Rattle.assertion.specs.declared.forms.Form.TheVariants.{ByRow, ByGroup, Single}
use Rattle.assertion.specs.Bounded.{IsBounded}
use Rattle.assertcheck.specs.Widths.{is_bounded_form}

both : (a b : Bool) → IsTrue (a && b) ↔ (IsTrue a × IsTrue b)
both true b = (λ h. (refl, h), λ h. h.1)
both false b = (λ h. cc, λ h. cc)

each : {X : Type 0} (p : X → Bool) (xs : List X) → IsTrue (list_all p xs) ↔ All (λ x. IsTrue (p x)) xs
each p [] = (λ h. All-nil (λ x. IsTrue (p x)), λ h. refl)
each p (x ∷ xs) = (
  λ h. let parts = (both (p x) (list_all p xs)).0 h in All-cons (λ x. IsTrue (p x)) x xs parts.0 ((each p xs).0 parts.1),
  λ h. (both (p x) (list_all p xs)).1 (All-head (λ x. IsTrue (p x)) x xs h, (each p xs).1 (All-tail (λ x. IsTrue (p x)) x xs h)),
)

-- a test and one of each of a list
both_each : {X : Type 0} (a : Bool) (p : X → Bool) (xs : List X) → IsTrue (a && list_all p xs) ↔ (IsTrue a × All (λ x. IsTrue (p x)) xs)
both_each a p xs = (
  λ h. let parts = (both a (list_all p xs)).0 h in (parts.0, (each p xs).0 parts.1),
  λ h. (both a (list_all p xs)).1 (h.0, (each p xs).1 h.1),
)

exact : (form : Form) → IsTrue (is_bounded_form form) ↔ IsBounded form
exact (ByRow table condition queries) = both_each _ (λ (q : Query Link). is_bounded [] q.filter) queries
exact (ByGroup table restriction group having aggregates) = both _ _
exact (Single condition queries) = both_each _ (λ (q : Query Whole). is_bounded [] q.filter) queries

pub is_exact : (b : Bool) (form : Form) → b ≡ is_bounded_form form → IsTrue b ↔ IsBounded form
is_exact b form e = subst (λ b. IsTrue b ↔ IsBounded form) (sym e) (exact form)
