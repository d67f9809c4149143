-- Definitions define the same without their indexes.
use Rattle.std.proofs.Common.{◌≡◌, List, [], ◌∷◌, ◌++◌, ℕ, Option, None, Result, Ok, refl, sym, ◌∙◌, ap, append-nil}
use Rattle.std.specs.Prelude.{is_some}
use Rattle.value.specs.declared.refusals.Refusal.{Refusal}
use Rattle.value.specs.declared.refusals.Refusal.TheVariants.{UnknownName}
use Rattle.value.specs.Results.{and_then, unless}
use Rattle.value.proofs.Results.{and_then_ok, ok_same, provided_ok, unless_ok}
use Rattle.table.specs.Rows.{column_of}
use Rattle.syntax.specs.declared.definitions.Definition.{Definition}
use Rattle.syntax.specs.declared.definitions.Definition.TheVariants as definition
use Rattle.assertcheck.specs.Conditions.{target_of}
use Rattle.delta.specs.Views.{ViewState}
use Rattle.definitions.specs.declared.constraints.UniqueColumns.{UniqueColumns}
use Rattle.definitions.specs.Constraints.{unique_in}
use Rattle.definitions.specs.Taken.{Taken, index_fault, index_in, nothing_taken, taken_of, taken_with, view_of_definitions, with_all, with_definition}
use Rattle.definitions.specs.Indexes.{without_indexes}

-- these define the same from what shows the same, whatever names indexes have
record Same (rest : List Definition) (from made : Taken) : Type 0 where
  left : Taken
  leads : with_all rest from ≡ Ok left
  shows : left.shown ≡ made.shown

-- what a definition that was taken in has made
record Step (d : Definition) (t next : Taken) : Type 0 where
  shown : ViewState
  made : with_definition (t.unique ++ unique_in d) d t.shown ≡ Ok shown
  shows : next.shown ≡ shown
  notes : next.unique ≡ t.unique ++ unique_in d

step : (d : Definition) (t next : Taken) → taken_with d t ≡ Ok next → Step d t next
step d t next e =
    let unique = t.unique ++ unique_in d in
    let make : ViewState → Taken = λ shown. record { shown = shown; indexes = t.indexes ++ index_in d; unique = unique } in
    let found = and_then_ok (with_definition unique d t.shown) (λ shown. Ok (make shown)) next (unless_ok (index_fault t.indexes d) (and_then (with_definition unique d t.shown) (λ shown. Ok (make shown))) next e) in
    let is : make found.0 ≡ next = ok_same (make found.0) next found.1.1 in
    record {
      shown = found.0;
      made = found.1.0;
      shows = sym (ap (λ (n : Taken). n.shown) is);
      notes = sym (ap (λ (n : Taken). n.unique) is);
    }

-- a definition that is no index is taken in on what shows the same, where the same columns are under UNIQUE
again : (d : Definition) (t u : Taken) (shown : ViewState) → t.shown ≡ u.shown → t.unique ≡ u.unique → index_fault u.indexes d ≡ None → with_definition (t.unique ++ unique_in d) d t.shown ≡ Ok shown
    → taken_with d u ≡ Ok (record { shown = shown; indexes = u.indexes ++ index_in d; unique = u.unique ++ unique_in d })
again d t u shown same alike free e =
    let unique = u.unique ++ unique_in d in
    let make : ViewState → Taken = λ s. record { shown = s; indexes = u.indexes ++ index_in d; unique = unique } in
    ap (λ (f : Option Refusal). unless f (and_then (with_definition unique d u.shown) (λ s. Ok (make s)))) free
    ∙ ap (λ (r : Result ViewState Refusal). and_then r (λ s. Ok (make s)))
    (ap (λ (q : List UniqueColumns). with_definition (q ++ unique_in d) d u.shown) (sym alike) ∙ ap (with_definition (t.unique ++ unique_in d) d) (sym same) ∙ e)

-- one that stays, and those behind it
stays : (d : Definition) (rest left : List Definition) (t u made : Taken) → t.shown ≡ u.shown → t.unique ≡ u.unique → index_fault u.indexes d ≡ None → with_all (d ∷ rest) t ≡ Ok made
    → ((next from : Taken) → next.shown ≡ from.shown → next.unique ≡ from.unique → with_all rest next ≡ Ok made → Same left from made) → Same (d ∷ left) u made
stays d rest left t u made same alike free e go =
    let next = and_then_ok (taken_with d t) (with_all rest) made e in
    let found = step d t next.0 next.1.0 in
    let from : Taken = record { shown = found.shown; indexes = u.indexes ++ index_in d; unique = u.unique ++ unique_in d } in
    let s = go next.0 from found.shows (found.notes ∙ ap (λ (q : List UniqueColumns). q ++ unique_in d) alike) next.1.1 in
    record {
      left = s.left;
      leads = ap (λ (r : Result Taken Refusal). and_then r (with_all left)) (again d t u found.shown same alike free found.made) ∙ s.leads;
      shows = s.shows;
    }

-- an index shows what was shown before it
index_shows : (name table column : List ℕ) (t next : Taken) → taken_with (definition.Index name table column) t ≡ Ok next → next.shown ≡ t.shown
index_shows name table column t next e =
    let found = step (definition.Index name table column) t next e in
    let target = and_then_ok (target_of t.shown.declared.tables table) _ found.shown found.made in
    found.shows ∙ sym (ok_same t.shown found.shown (provided_ok (is_some (column_of column target.0.scope.layout.columns)) (UnknownName column) (Ok t.shown) found.shown target.1.1))

-- and puts no column under UNIQUE
index_notes : (name table column : List ℕ) (t next : Taken) → taken_with (definition.Index name table column) t ≡ Ok next → next.unique ≡ t.unique
index_notes name table column t next e = (step (definition.Index name table column) t next e).notes ∙ append-nil t.unique

same_all : (definitions : List Definition) (t u made : Taken) → t.shown ≡ u.shown → t.unique ≡ u.unique → with_all definitions t ≡ Ok made → Same (without_indexes definitions) u made
same_all [] t u made same alike e = record { left = u; leads = refl; shows = sym same ∙ ap (λ (m : Taken). m.shown) (ok_same t made e) }
same_all (definition.Table table ∷ rest) t u made same alike e =
    stays (definition.Table table) rest (without_indexes rest) t u made same alike refl e (λ next from shows notes goes. same_all rest next from made shows notes goes)
same_all (definition.Assertion name condition attributes ∷ rest) t u made same alike e =
    stays (definition.Assertion name condition attributes) rest (without_indexes rest) t u made same alike refl e (λ next from shows notes goes. same_all rest next from made shows notes goes)
same_all (definition.Insert insert ∷ rest) t u made same alike e =
    stays (definition.Insert insert) rest (without_indexes rest) t u made same alike refl e (λ next from shows notes goes. same_all rest next from made shows notes goes)
same_all (definition.Index name table column ∷ rest) t u made same alike e =
    let next = and_then_ok (taken_with (definition.Index name table column) t) (with_all rest) made e in
    same_all rest next.0 u made (index_shows name table column t next.0 next.1.0 ∙ same) (index_notes name table column t next.0 next.1.0 ∙ alike) next.1.1

-- and so from the beginning
pub same_without_indexes : (definitions : List Definition) (made : ViewState) → view_of_definitions definitions ≡ Ok made → view_of_definitions (without_indexes definitions) ≡ Ok made
same_without_indexes definitions made e =
    let taken = and_then_ok (taken_of definitions) (λ t. Ok t.shown) made e in
    let same = same_all definitions nothing_taken nothing_taken taken.0 refl refl taken.1.0 in
    ap (λ (r : Result Taken Refusal). and_then r (λ t. Ok t.shown)) same.leads
    ∙ ap (λ (s : ViewState). let r : Result ViewState Refusal = Ok s in r) (same.shows ∙ ok_same taken.0.shown made taken.1.1)
