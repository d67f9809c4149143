-- Tables without rows.
use Rattle.std.proofs.Common.{◌≡◌, ℕ, zero, suc, [], length, replicate, refl, sym, ◌∙◌, subst}
use Rattle.std.proofs.lemmas.List.{length-map, length-replicate}
use Rattle.std.proofs.lemmas.List.Elements.{All-nil}
use Rattle.table.specs.Rows.{IsTable, Tables, layout_at, layouts_of}
use Rattle.assertion.specs.Meaning.{State, rows_of}
use Rattle.delta.specs.Views.{AreTables}

pub none_there : (count table : ℕ) → rows_of table (replicate count []) ≡ []
none_there zero table = refl
none_there (suc count) zero = refl
none_there (suc count) (suc table) = none_there count table

pub blank_tables : (tables : Tables) (state : State) → state ≡ replicate (length tables) [] → AreTables (layouts_of tables) state
blank_tables tables state is =
    subst (AreTables (layouts_of tables)) (sym is) (record {
      long = length-replicate (length tables) [] ∙ sym (length-map tables (λ p. p.1));
      each = λ table. subst (IsTable (layout_at table (layouts_of tables))) (sym (none_there (length tables) table))
          (record { fitting = All-nil _; ascending = tt });
    })
