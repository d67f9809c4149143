-- The maintained totals follow a change.
use Rattle.std.proofs.Common.{◌≡◌, ◌≢◌, ℕ, ◌+◌, ◌<◌, ◌≤◌, ◌^◌, true, false, List, [], ◌∷◌, ◌++◌, Option, Some, None, map, length, get_or, sym, ◌∙◌, ap, subst, arith, length-append}
use Rattle.std.specs.Prelude.{◌==◌, ◌&&◌, All}
use Rattle.std.proofs.lemmas.List.Elements.{All-nil}
use Rattle.std.proofs.lemmas.Bool.Decides.{nat_tests}
use Rattle.value.proofs.Lists.{each_more}
use Rattle.table.specs.declared.aggregates.Aggregate.{Aggregate}
use Rattle.table.specs.declared.conds.Cond.{Cond}
use Rattle.table.specs.declared.rows.Change.{Change}
use Rattle.table.specs.Bounds.{IsSmallRow}
use Rattle.table.specs.Eval.{keeps}
use Rattle.table.specs.Rows.{RowValues, Layout, row_at, key_of}
use Rattle.table.specs.Slots.{magnitude}
use Rattle.assertion.specs.declared.queries.Query.{Query}
use Rattle.assertion.specs.declared.queries.Link.{Link}
use Rattle.assertion.specs.Meaning.{State, links, rows_of}
use Rattle.assertion.specs.Changes.{IsChangeOf, state_after}
use Rattle.assertion.proofs.KeptTruth.{rows-changed}
use Rattle.groups.specs.Answers.{value_for}
use Rattle.groups.specs.Members.{member_of}
use Rattle.groups.specs.Totals.{Entries, AreTotalsOf, AreWithin, IsChange, IsWithin}
use Rattle.groups.proofs.RowLemmas.{filtered_within, members_change, members_within}
use Rattle.roots.specs.declared.grouped.Around.{Around}
use Rattle.roots.specs.declared.grouped.Grouping.{Grouping}
use Rattle.roots.specs.Summaries.{around_of, group_rows_by, members, place, row_members, rows_beside_one}
use Rattle.roots.specs.Maintained.{AreSoFar, AreTotalsFor, IsSmallState}

pub test_true : (a b : ℕ) → a ≡ b → (a == b) ≡ true
test_true a b e = grind (arith, nat_tests)

pub test_false : (a b : ℕ) → a ≢ b → (a == b) ≡ false
test_false a b e = grind (arith, nat_tests)

-- the rows beside a row, if there is one, are within bounds
pub beside-within : (a : Aggregate) (link : Link) (restriction : Cond) (rows : List RowValues) → length rows < 2 ^ 63 → All IsSmallRow rows → (o : Option RowValues) → IsWithin (map (value_for a) (rows_beside_one link restriction rows o))
beside-within a link restriction rows short small None = record { short = omega arith; small = All-nil (λ v. magnitude v ≤ 10 ^ 15) }
beside-within a link restriction rows short small (Some row) = filtered_within (λ linked. links link row linked && keeps linked row restriction) a rows short small

-- groups of tables within bounds are within bounds
pub members-within : (state : State) (s : Query Grouping) → IsSmallState state → AreWithin (members state s)
members-within state s k v = case (around_of s.grouping)
  where
    case : (o : Option Around) → IsWithin (map (value_for s.aggregate) (group_rows_by o state s v))
    case None = members_within (place s) s.aggregate (rows_of s.table state) (k.short s.table) (k.small s.table) v
    case (Some around) = beside-within s.aggregate around.link s.filter (rows_of s.table state) (k.short s.table) (k.small s.table) (row_at around.key v (rows_of around.table state))

-- totals for the rows around, where each of them is a group
module _ (s : Query Grouping) (o : Option Around) (e : around_of s.grouping ≡ o) (state : State) (es : Entries) where
  pub totals-as : AreTotalsOf s.aggregate (λ v. map (value_for s.aggregate) (group_rows_by o state s v)) es → AreTotalsFor state s es
  totals-as = subst (λ o. AreTotalsOf s.aggregate (λ v. map (value_for s.aggregate) (group_rows_by o state s v)) es) (sym e)

  pub totals-from : AreTotalsFor state s es → AreTotalsOf s.aggregate (λ v. map (value_for s.aggregate) (group_rows_by o state s v)) es
  totals-from = subst (λ o. AreTotalsOf s.aggregate (λ v. map (value_for s.aggregate) (group_rows_by o state s v)) es) e

module _ (layouts : List Layout) (change : Change) (state : State) (is : IsChangeOf layouts change state) where
  -- the groups of the changed table change by the old and the new row
  pub members-changed : (s : Query Grouping) → s.table ≡ change.table
      → IsChange (member_of (place s) (value_for s.aggregate) change.new) (member_of (place s) (value_for s.aggregate) change.old) (row_members s (rows_of s.table state)) (row_members s (rows_of s.table (state_after layouts change state)))
  members-changed s e =
      let t : ℕ = s.table in
      let old : row_at (key_of t layouts) change.key (rows_of t state) ≡ change.old = subst (λ n. row_at (key_of n layouts) change.key (rows_of n state) ≡ change.old) (sym e) is.stands in
      subst (λ (o : Option RowValues). IsChange (member_of (place s) (value_for s.aggregate) change.new) (member_of (place s) (value_for s.aggregate) o) (row_members s (rows_of t state)) (row_members s (rows_of t (state_after layouts change state)))) old
      (subst (λ (rows : List RowValues). IsChange (member_of (place s) (value_for s.aggregate) change.new) (member_of (place s) (value_for s.aggregate) (row_at (key_of t layouts) change.key (rows_of t state))) (row_members s (rows_of t state)) (row_members s rows))
      (sym (rows-changed layouts change state is t (test_true t change.table e)))
      (members_change (place s) (value_for s.aggregate) (key_of t layouts) change.key change.new (rows_of t state)))

-- one more of the maintained totals
pub AreSoFar-more : (state : State) (summaries : List (Query Grouping)) (n : ℕ) (totals more : List Entries) (es : Entries) → more ≡ totals ++ es ∷ [] → ((d : Query Grouping) → AreTotalsFor state (get_or summaries n d) es) → AreSoFar state summaries n totals → AreSoFar state summaries (n + 1) more
AreSoFar-more state summaries n totals more es e t k = record {
  long = ap length e ∙ length-append totals (es ∷ []) ∙ ap (λ m. m + 1) k.long;
  right = each_more (λ (s : Query Grouping) (es : Entries). AreTotalsFor state s es) summaries n totals more es e k.long t k.right;
}

-- the maintained totals at a place
pub totals-at : (state : State) (summaries : List (Query Grouping)) (n : ℕ) (totals : List Entries) (i : ℕ) (es : Entries) → AreSoFar state summaries n totals → i < n → es ≡ get_or totals i es → (d : Query Grouping) → AreTotalsFor state (get_or summaries i d) es
totals-at state summaries n totals i es k h f d = subst (λ (x : Entries). AreTotalsFor state (get_or summaries i d) x) (sym f) (k.right i h d es)
