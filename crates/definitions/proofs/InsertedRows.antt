-- The tables with new rows of one of them: with the first, and then with the rest.
use Rattle.std.proofs.Common.{◌≡◌, ℕ, List, ◌∷◌, Result, Ok, Err, refl, ap, ◌∙◌}
use Rattle.value.specs.declared.refusals.Refusal.{Refusal}
use Rattle.value.specs.Results.{and_then}
use Rattle.table.specs.declared.rows.Change.{Change}
use Rattle.table.specs.Rows.{RowValues}
use Rattle.assertion.specs.Changes.{state_after, state_after_all}
use Rattle.assertion.specs.Declarations.{layouts_in}
use Rattle.alone.specs.Statements.{insertion, insertions}
use Rattle.delta.specs.Views.{ViewState}
use Rattle.changes.specs.Insertions.{tables_with_rows}

module _ (table : ℕ) (row : RowValues) (rest : List RowValues) (now : ViewState) where
  -- what the first row leads to, whether it can be put in or not
  abbrev after_first : Result Change Refusal → Result ViewState Refusal
  after_first first =
      and_then (and_then first (λ change.
      and_then (insertions now.declared.tables table (state_after (layouts_in now.declared) change now.state) rest) (λ more.
      let changes : Result (List Change) Refusal = Ok (change ∷ more) in changes)))
      (λ changes. Ok (record now { state = state_after_all (layouts_in now.declared) changes now.state }))

  pub rows_next : (change : Change) → insertion now.declared.tables table now.state row ≡ Ok change
      → tables_with_rows table (row ∷ rest) now ≡ tables_with_rows table rest (record now { state = state_after (layouts_in now.declared) change now.state })
  rows_next change e = ap after_first e ∙ go (insertions now.declared.tables table (state_after (layouts_in now.declared) change now.state) rest)
    where
      go : (r : Result (List Change) Refusal)
          → and_then (and_then r (λ more. let changes : Result (List Change) Refusal = Ok (change ∷ more) in changes)) (λ changes. let made : Result ViewState Refusal = Ok (record now { state = state_after_all (layouts_in now.declared) changes now.state }) in made)
          ≡ and_then r (λ changes. Ok (record now { state = state_after_all (layouts_in now.declared) changes (state_after (layouts_in now.declared) change now.state) }))
      go (Ok more) = refl
      go (Err refusal) = refl

  pub row_fault : (refusal : Refusal) → insertion now.declared.tables table now.state row ≡ Err refusal → tables_with_rows table (row ∷ rest) now ≡ Err refusal
  row_fault refusal e = ap after_first e
