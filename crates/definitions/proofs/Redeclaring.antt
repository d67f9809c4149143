-- The assertions that are created are those that are written.
use Rattle.std.proofs.Common.{◌≡◌, ℕ, Bool, true, false, List, [], ◌∷◌, ◌++◌, Result, Ok, map, reverse, append-nil, append_assoc, refl, sym, ◌∙◌, ap, subst}
use Rattle.std.specs.List.{list_all}
use Rattle.std.proofs.lemmas.List.{reverse-append}
use Rattle.std.specs.Prelude.{not, ◌&&◌, Err, IfOk}
use Rattle.value.specs.declared.refusals.Refusal.{Refusal}
use Rattle.value.specs.declared.refusals.Refusal.TheVariants.{NameTaken}
use Rattle.value.specs.Results.{and_then}
use Rattle.value.proofs.Results.{and_then_ok, ok_same, provided_ok}
use Rattle.syntax.specs.declared.definitions.Definition.{Definition}
use Rattle.assertion.specs.declared.assertions.Assertion.{Assertion}
use Rattle.assertcheck.specs.Assertions.{checked_assertion}
use Rattle.meaning.specs.Laws.{Pairs}
use Rattle.meaning.proofs.Checked.{TakesWritten-law}
use Rattle.delta.specs.Views.{ViewState}
use Rattle.definitions.specs.declared.redeclaration.NewAssertion.{NewAssertion}
use Rattle.definitions.specs.Redeclaration.{AreCreated, IsCreated, definition_of, with_new, without_names}
use Rattle.definitions.specs.Taken.{is_asserted, with_assertion}
use Rattle.definitions.specs.Written.{is_assertion}

-- one is created, and then others
new_first : (new : NewAssertion) (rest : List NewAssertion) (now next after : ViewState) → with_assertion new.name new.condition new.attributes now ≡ Ok next → AreCreated next rest after → AreCreated now (new ∷ rest) after
new_first new rest now next after e made =
    let make : Assertion → ViewState = λ a. record now { declared = record (now.declared) { assertions = now.declared.assertions ++ a ∷ [] } } in
    let step : Assertion → Result ViewState Refusal = λ a. Ok (make a) in
    let form : Result Assertion Refusal = checked_assertion now.declared.tables new.name new.condition new.attributes in
    let found = and_then_ok form step next (provided_ok (not (is_asserted new.name now.declared.assertions)) (NameTaken new.name) (and_then form step) next e) in
    let is : make found.0 ≡ next = ok_same (make found.0) next found.1.1 in
    record {
      more = found.0 ∷ made.more;
      assertions = made.assertions ∙ ap (λ (s : ViewState). s.declared.assertions ++ made.more) (sym is) ∙ append_assoc now.declared.assertions (found.0 ∷ []) made.more;
      written = (TakesWritten-law now.declared.tables new.name new.condition new.attributes found.0 found.1.0, subst (λ (s : ViewState). Pairs (IsCreated s.declared.tables) rest made.more) (sym is) made.written);
      tables = made.tables ∙ ap (λ (s : ViewState). s.declared.tables) (sym is);
      state = made.state ∙ ap (λ (s : ViewState). s.state) (sym is);
    }

new_written : (created : List NewAssertion) (now after : ViewState) → with_new created now ≡ Ok after → AreCreated now created after
new_written [] now after e =
    let same : now ≡ after = ok_same now after e in
    record {
      more = [];
      assertions = ap (λ (s : ViewState). s.declared.assertions) (sym same) ∙ sym (append-nil now.declared.assertions);
      written = tt;
      tables = ap (λ (s : ViewState). s.declared.tables) (sym same);
      state = ap (λ (s : ViewState). s.state) (sym same);
    }
new_written (new ∷ rest) now after e =
    let found = and_then_ok (with_assertion new.name new.condition new.attributes now) (with_new rest) after e in
    new_first new rest now found.0 after found.1.0 (new_written rest found.0 after found.1.1)

-- so it is of whatever was left
pub as_written : (dropped : List (List ℕ)) (created : List NewAssertion) (view now : ViewState) (result : Result ViewState Refusal) → without_names dropped view ≡ Ok now → IfOk result (λ next. with_new created now ≡ Ok next)
    → IfOk result (λ next. (left : ViewState) → without_names dropped view ≡ Ok left → AreCreated left created next)
as_written dropped created view now (Ok next) d h = λ left e.
    subst (λ (s : ViewState). AreCreated s created next) (ok_same now left (sym d ∙ e)) (new_written created now next h)
as_written dropped created view now (Err refusal) d h = tt

not_all : (rest more : List Definition) (d : Definition) → is_assertion d ≡ false → list_all is_assertion (rest ++ d ∷ more) ≡ false
not_all [] more d other = rw other refl
not_all (x ∷ xs) more d other = go (is_assertion x) (not_all xs more d other)
  where
    go : (b : Bool) → list_all is_assertion (xs ++ d ∷ more) ≡ false → (b && list_all is_assertion (xs ++ d ∷ more)) ≡ false
    go true rest = rest
    go false rest = refl

-- one definition more is taken from the end
pub turn_new : (left rest all : List Definition) (turned : List NewAssertion) (d : Definition) (new : NewAssertion) → left ≡ rest ++ d ∷ [] → d ≡ definition_of new → left ++ map definition_of (reverse turned) ≡ all
    → rest ++ map definition_of (reverse (turned ++ new ∷ [])) ≡ all
turn_new left rest all turned d new l n e =
    ap (λ (news : List NewAssertion). rest ++ map definition_of news) (reverse-append turned (new ∷ []))
    ∙ sym (append_assoc rest (definition_of new ∷ []) (map definition_of (reverse turned)))
    ∙ ap (λ (x : Definition). (rest ++ x ∷ []) ++ map definition_of (reverse turned)) (sym n)
    ∙ ap (λ (ds : List Definition). ds ++ map definition_of (reverse turned)) (sym l) ∙ e

-- one that is of something else is among all
pub turn_other : (left rest all more : List Definition) (d : Definition) → left ≡ rest ++ d ∷ [] → is_assertion d ≡ false → left ++ more ≡ all → list_all is_assertion all ≡ false
turn_other left rest all more d l other e =
    ap (list_all is_assertion) (sym e ∙ ap (λ (ds : List Definition). ds ++ more) l ∙ append_assoc rest (d ∷ []) more) ∙ not_all rest more d other
