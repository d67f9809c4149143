-- The totals for rows around through a change of tables.
use Rattle.std.proofs.Common.{◌≡◌, ◌≢◌, ℕ, false, List, [], Some, None, map, sym, ◌∙◌, ap, subst}
use Rattle.std.specs.Ordering.{eq_by_cmp}
use Rattle.value.specs.declared.values.Value.{Value}
use Rattle.value.specs.ValueOrder.{value_cmp}
use Rattle.value.specs.Ordered.{HasKey, HoldsOf, IsAscending}
use Rattle.table.specs.declared.rows.Change.{Change}
use Rattle.table.specs.Rows.{RowValues, Layout, put_row, row_at, value_in, key_of}
use Rattle.assertion.specs.declared.queries.Query.{Query}
use Rattle.assertion.specs.Meaning.{State, rows_of}
use Rattle.assertion.specs.Changes.{IsOrdered}
use Rattle.assertion.proofs.KeptTruth.{IsOrdered-after, rows-changed, rows-same}
use Rattle.groups.specs.Answers.{value_for}
use Rattle.groups.specs.Totals.{AreTotalsOf, AreWithin, Entries, Members}
use Rattle.roots.specs.Around.{around_members, values_beside}
use Rattle.roots.specs.Maintained.{IsKeyed, IsSmallState, IsStepOf}
use Rattle.roots.specs.Summaries.{around_of, rows_beside_one}
use Rattle.roots.specs.declared.grouped.Around.{Around}
use Rattle.roots.specs.declared.grouped.Grouping.{Grouping}
use Rattle.roots.proofs.AroundLemmas.{changed_here, changed_other}
use Rattle.roots.proofs.MaintainedLemmas.{beside-within, test_false, test_true}

-- the key of the rows around is that of their table
pub key_is : (layouts : List Layout) (q : Query Grouping) (around : Around) → around_of q.grouping ≡ Some around → IsKeyed layouts q → around.key ≡ key_of around.table layouts
key_is layouts q around e k = subst (HoldsOf (λ (it : Around). it.key ≡ key_of it.table layouts)) e k

-- the groups of rows around are within bounds where the tables are
pub around_within : (around : Around) (q : Query Grouping) (state : State) → IsSmallState state → (outer : List RowValues) → AreWithin (around_members around q outer (rows_of q.table state))
around_within around q state k outer v = beside-within q.aggregate around.link q.filter (rows_of q.table state) (k.short q.table) (k.small q.table) (row_at around.key v outer)

module _ (layouts : List Layout) (change : Change) (before after : State) (step : IsStepOf layouts change before after) where
  -- the rows of the changed table, and of another
  pub table_changed : (t : ℕ) → t ≡ change.table → rows_of t after ≡ put_row (key_of t layouts) change.key change.new (rows_of t before)
  table_changed t e = ap (rows_of t) step.changed ∙ rows-changed layouts change before step.is t (test_true t change.table e)

  pub table_same : (t : ℕ) → t ≢ change.table → rows_of t after ≡ rows_of t before
  table_same t e = ap (rows_of t) step.changed ∙ rows-same layouts change before t (test_false t change.table e)

  pub table_stands : (t : ℕ) → t ≡ change.table → row_at (key_of t layouts) change.key (rows_of t before) ≡ change.old
  table_stands t e = subst (λ n. row_at (key_of n layouts) change.key (rows_of n before) ≡ change.old) (sym e) step.is.stands

  pub ordered_after : IsOrdered layouts after
  ordered_after = subst (IsOrdered layouts) (sym step.changed) (IsOrdered-after layouts change before step.is step.in_order)

  module _ (around : Around) (q : Query Grouping) (keyed : around.key ≡ key_of around.table layouts) where
    abbrev outer : List RowValues
    outer = rows_of around.table before

    abbrev linked : List RowValues
    linked = rows_of q.table before

    pub outer_in_order : (t : State) → IsOrdered layouts t → IsAscending value_cmp (value_in around.key) (rows_of around.table t)
    outer_in_order t o = subst (λ k. IsAscending value_cmp (value_in k) (rows_of around.table t)) (sym keyed) (o around.table)

    module _ (here : around.table ≡ change.table) where
      outer_changed : rows_of around.table after ≡ put_row around.key change.key change.new outer
      outer_changed = table_changed around.table here ∙ ap (λ k. put_row k change.key change.new outer) (sym keyed)

      has_key : HasKey value_cmp (value_in around.key) change.key change.new
      has_key = subst (λ k. HasKey value_cmp (value_in k) change.key change.new) (sym keyed)
          (subst (λ t. HasKey value_cmp (value_in (key_of t layouts)) change.key change.new) (sym here) step.is.keyed)

      abbrev changed : List RowValues
      changed = put_row around.key change.key change.new outer

      outer_turns : (es : Entries) → AreTotalsOf q.aggregate (around_members around q changed linked) es → AreTotalsOf q.aggregate (around_members around q (rows_of around.table after) linked) es
      outer_turns es = subst (λ rows. AreTotalsOf q.aggregate (around_members around q rows linked) es) (sym outer_changed)

      new_group : around_members around q changed linked change.key ≡ map (value_for q.aggregate) (rows_beside_one around.link q.filter linked change.new)
      new_group = changed_here around q linked change.key change.new outer has_key (outer_in_order before step.in_order)

      other_group : (v : Value) → eq_by_cmp value_cmp v change.key ≡ false → around_members around q changed linked v ≡ around_members around q outer linked v
      other_group = changed_other around q linked change.key change.new outer has_key (outer_in_order before step.in_order)

      -- a row around has its total made anew
      pub outer_put : (row : RowValues) → change.new ≡ Some row → (es made : Entries)
          → ((old new : Members) → new (value_in around.key row) ≡ values_beside around q linked row → ((v : Value) → eq_by_cmp value_cmp v (value_in around.key row) ≡ false → new v ≡ old v)
          → AreTotalsOf q.aggregate old es → AreTotalsOf q.aggregate new made)
          → AreTotalsOf q.aggregate (around_members around q outer linked) es → AreTotalsOf q.aggregate (around_members around q (rows_of around.table after) linked) made
      outer_put row e es made turn old =
          let own : value_in around.key row ≡ change.key = subst (HasKey value_cmp (value_in around.key) change.key) e has_key in
          outer_turns made (turn (around_members around q outer linked) (around_members around q changed linked)
          (ap (around_members around q changed linked) own ∙ new_group ∙ ap (λ o. map (value_for q.aggregate) (rows_beside_one around.link q.filter linked o)) e)
          (λ v other. other_group v (subst (λ g. eq_by_cmp value_cmp v g ≡ false) own other)) old)

      -- one that goes has none
      pub outer_gone : change.new ≡ None → (es made : Entries)
          → ((old new : Members) → new change.key ≡ [] → ((v : Value) → eq_by_cmp value_cmp v change.key ≡ false → new v ≡ old v) → AreTotalsOf q.aggregate old es → AreTotalsOf q.aggregate new made)
          → AreTotalsOf q.aggregate (around_members around q outer linked) es → AreTotalsOf q.aggregate (around_members around q (rows_of around.table after) linked) made
      outer_gone e es made turn old =
          outer_turns made (turn (around_members around q outer linked) (around_members around q changed linked)
          (new_group ∙ ap (λ o. map (value_for q.aggregate) (rows_beside_one around.link q.filter linked o)) e) other_group old)
