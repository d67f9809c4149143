-- What definitions keep: assertions that are evaluated without overflow, and good tables.
use Rattle.std.proofs.Common.{◌≡◌, ℕ, ◌+◌, ◌<◌, zero, suc, List, [], ◌∷◌, ◌++◌, length, sym, ◌∙◌, ap, subst, arith}
use Rattle.std.specs.Prelude.{◌^◌}
use Rattle.std.proofs.lemmas.List.{map-append, length-append}
use Rattle.std.proofs.lemmas.List.Elements.{All-nil, All-cons, All-append}
use Rattle.table.specs.Rows.{RowValues, Layout, Tables, FitsColumns, IsTable, layouts_of, layout_at}
use Rattle.assertion.specs.declared.assertions.Assertion.{Assertion}
use Rattle.assertion.specs.Bounded.{IsBounded}
use Rattle.assertion.specs.Meaning.{State, rows_of}
use Rattle.delta.specs.Views.{AreBounded}
use Rattle.delta.specs.Maintained.{IsGood}

empty_is_table : (layout : Layout) → IsTable layout []
empty_is_table layout = record { fitting = All-nil (FitsColumns layout.columns); ascending = tt }

-- what holds of each table's rows holds with one more table, where it holds without rows
each_more : (P : Layout → List RowValues → Type 0) → ((l : Layout) → P l []) → (layouts : List Layout) (state : State) (layout : Layout) → length state ≡ length layouts
    → ((t : ℕ) → P (layout_at t layouts) (rows_of t state)) → (t : ℕ) → P (layout_at t (layouts ++ layout ∷ [])) (rows_of t (state ++ [] ∷ []))
each_more P nil [] [] layout long all zero = nil layout
each_more P nil [] [] layout long all (suc t) = all (suc t)
each_more P nil [] (rows ∷ state) layout long all t = absurd (omega (arith, long))
each_more P nil (l ∷ layouts) [] layout long all t = absurd (omega (arith, long))
each_more P nil (l ∷ layouts) (rows ∷ state) layout long all zero = all zero
each_more P nil (l ∷ layouts) (rows ∷ state) layout long all (suc t) = each_more P nil layouts state layout (omega arith) (λ n. all (suc n)) t

pub IsGood-more : (layouts : List Layout) (state : State) (layout : Layout) → IsGood layouts state → IsGood (layouts ++ layout ∷ []) (state ++ [] ∷ [])
IsGood-more layouts state layout g = record {
  tables = record { long = length-append state ([] ∷ []) ∙ ap (λ n. n + 1) g.tables.long ∙ sym (length-append layouts (layout ∷ [])); each = each_more IsTable empty_is_table layouts state layout g.tables.long g.tables.each };
  short = each_more (λ l rows. length rows < 2 ^ 63) (λ l. omega arith) layouts state layout g.tables.long g.short;
}

pub good_more : (tables after : Tables) (name : List ℕ) (layout : Layout) (state next : State) → after ≡ tables ++ (name, layout) ∷ [] → next ≡ state ++ [] ∷ [] → IsGood (layouts_of tables) state → IsGood (layouts_of after) next
good_more tables after name layout state next a n g =
    let layouts : layouts_of after ≡ layouts_of tables ++ layout ∷ [] = ap layouts_of a ∙ map-append (λ table. table.1) tables ((name, layout) ∷ []) in
    subst (λ (ls : List Layout). IsGood ls next) (sym layouts) (subst (IsGood (layouts_of tables ++ layout ∷ [])) (sym n) (IsGood-more (layouts_of tables) state layout g))

pub bounded_more : (before after : List Assertion) (a : Assertion) → after ≡ before ++ a ∷ [] → AreBounded before → IsBounded a.form → AreBounded after
bounded_more before after a e bounded one =
    let P : Assertion → Type 0 = λ x. IsBounded x.form in
    subst AreBounded (sym e) (All-append P before (a ∷ []) bounded (All-cons P a [] one (All-nil P)))
