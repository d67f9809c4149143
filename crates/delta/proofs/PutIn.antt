-- Changes that are put in one after the other.
use Rattle.std.proofs.Common.{◌≡◌, ℕ, ◌+◌, ◌<◌, List, ◌∷◌, drop, length, get_or, sym, ◌∙◌, ap, subst}
use Rattle.std.specs.Prelude.{All}
use Rattle.std.proofs.lemmas.List.{drop_more}
use Rattle.std.proofs.lemmas.List.Elements.{All-head, All-tail}
use Rattle.table.specs.declared.rows.Change.{Change}
use Rattle.table.specs.Rows.{Layout}
use Rattle.assertion.specs.Declarations.{Declared, layouts_in}
use Rattle.assertion.specs.Meaning.{State}
use Rattle.assertion.specs.Changes.{IsChangeOf, AreChangesOf, state_after, state_after_all}
use Rattle.delta.specs.Views.{ViewState, IsFitting}

-- changes that are left may be put into a view
pub record AreLeft (declared : Declared) (changes : List Change) (view : ViewState) : Type 0 where
  pub same : view.declared ≡ declared
  pub are : AreChangesOf (layouts_in declared) changes view.state
  pub fit : All (IsFitting (layouts_in declared)) changes

split : (changes : List Change) (n : ℕ) (change : Change) → n < length changes → change ≡ get_or changes n change → drop n changes ≡ change ∷ drop (n + 1) changes
split changes n change h e = drop_more changes n change h ∙ ap (λ c. c ∷ drop (n + 1) changes) (sym e)

module _ (declared : Declared) (changes : List Change) (n : ℕ) (change : Change) (view : ViewState) (h : n < length changes) (e : change ≡ get_or changes n change) (left : AreLeft declared (drop n changes) view) where
  abbrev pub layouts : List Layout
  layouts = layouts_in declared

  all : AreChangesOf layouts (change ∷ drop (n + 1) changes) view.state
  all = subst (λ (cs : List Change). AreChangesOf layouts cs view.state) (split changes n change h e) left.are

  fits : All (IsFitting layouts) (change ∷ drop (n + 1) changes)
  fits = subst (All (IsFitting layouts)) (split changes n change h e) left.fit

  -- the next of them may be put in
  pub next_is : IsChangeOf (layouts_in view.declared) change view.state
  next_is = subst (λ (d : Declared). IsChangeOf (layouts_in d) change view.state) (sym left.same) all.0

  pub next_fits : IsFitting (layouts_in view.declared) change
  next_fits = subst (λ (d : Declared). IsFitting (layouts_in d) change) (sym left.same) (All-head (IsFitting layouts) change (drop (n + 1) changes) fits)

  -- and then the others
  pub left_after : (after : ViewState) → after ≡ record view { state = state_after (layouts_in view.declared) change view.state } → AreLeft declared (drop (n + 1) changes) after
  left_after after a = subst (AreLeft declared (drop (n + 1) changes)) (sym (a ∙ ap (λ (d : Declared). record view { state = state_after (layouts_in d) change view.state }) left.same)) (record {
    same = left.same;
    are = all.1;
    fit = All-tail (IsFitting layouts) change (drop (n + 1) changes) fits;
  })

  -- which lead to the same state
  pub leads_after : (after : ViewState) → after ≡ record view { state = state_after (layouts_in view.declared) change view.state } → (end : State) → state_after_all layouts (drop n changes) view.state ≡ end → state_after_all layouts (drop (n + 1) changes) after.state ≡ end
  leads_after after a end l =
      ap (λ (v : ViewState). state_after_all layouts (drop (n + 1) changes) v.state) (a ∙ ap (λ (d : Declared). record view { state = state_after (layouts_in d) change view.state }) left.same)
      ∙ sym (ap (λ (cs : List Change). state_after_all layouts cs view.state) (split changes n change h e)) ∙ l
