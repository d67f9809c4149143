-- What a statement does to the rows: its changes are exact and may be put in; each row of an INSERT where those before it stand.
use Rattle.std.proofs.Common.{◌≡◌, ◌<◌, ◌≤◌, ℕ, false, List, [], ◌∷◌, Option, Some, None, Ok, length, map, refl, sym, ap, ◌∙◌, subst, inl, inr, eq-eqb}
use Rattle.std.specs.Prelude.{◌==◌, slice_set}
use Rattle.std.specs.Ordering.{ordering_reverse}
use Rattle.std.proofs.lemmas.Bool.{both_ways, cases_lt, or_parts}
use Rattle.std.proofs.lemmas.List.{get_or-set_other}
use Rattle.std.proofs.Math.Seq.{set_out}
use Rattle.std.proofs.lemmas.Cmp.{tied_itself}
use Rattle.value.specs.declared.values.Value.TheVariants.{Null}
use Rattle.value.specs.declared.refusals.Refusal.{Refusal}
use Rattle.value.specs.ValueOrder.{value_cmp}
use Rattle.value.specs.Ordered.{AreAbove, IsAscending, by_order}
use Rattle.value.proofs.ValueOrders.{value_cmp_total}
use Rattle.table.specs.declared.rows.Change.{Change}
use Rattle.table.specs.Rows.{RowValues, Layout, value_in, row_at, key_of}
use Rattle.table.specs.declared.conds.Cond.{Cond}
use Rattle.table.specs.Eval.{keeps}
use Rattle.assertion.specs.Meaning.{State, rows_of}
use Rattle.assertion.specs.Changes.{state_after}
use Rattle.assertcheck.specs.declared.updates.Setting.{Setting}
use Rattle.value.specs.Results.{unless}
use Rattle.siread.specs.declared.keys.Place.{Place}
use Rattle.siread.specs.Keys.{place_of}
use Rattle.alone.specs.States.{row_in, IsState, IsPut}
use Rattle.alone.specs.declared.answers.Reply.TheVariants.{Updated}
use Rattle.alone.specs.Statements.{Effect, inserted_at, removal, delete_effect, given_value, row_after_settings, renewal, sets_key, found_rows}
use Rattle.alone.proofs.Lists.{Each, each_weaker, each_filter}
use Rattle.alone.proofs.Nets.{IsExact}
use Rattle.alone.proofs.Stores.{empty}

-- behind a row of a table in key order, each stands at its key
stands_behind : (key : ℕ) (row : RowValues) (rows : List RowValues) → IsAscending value_cmp (value_in key) (row ∷ rows) → Each (λ r. row_at key (value_in key r) rows ≡ Some r) rows
    → Each (λ r. row_at key (value_in key r) (row ∷ rows) ≡ Some r) rows
stands_behind key row rows s each = go rows s.0 each
  where
    go : (rs : List RowValues) → AreAbove value_cmp (value_in key) (value_in key row) rs → Each (λ r. row_at key (value_in key r) rows ≡ Some r) rs → Each (λ r. row_at key (value_in key r) (row ∷ rows) ≡ Some r) rs
    go [] a e = tt
    go (r ∷ rs) a e =
        (ap (λ c. by_order c None (Some row) (row_at key (value_in key r) rows)) (value_cmp_total.antisymm (value_in key r) (value_in key row) ∙ ap ordering_reverse a.0) ∙ e.0, go rs a.1 e.1)

-- each row of a table stands at its key
rows_stand : (key : ℕ) (rows : List RowValues) → IsAscending value_cmp (value_in key) rows → Each (λ r. row_at key (value_in key r) rows ≡ Some r) rows
rows_stand key [] s = tt
rows_stand key (row ∷ rows) s = (ap (λ c. by_order c None (Some row) (row_at key (value_in key row) rows)) (tied_itself value_cmp_total (value_in key row)), stands_behind key row rows s (rows_stand key rows s.1))

each_map : {X Y : Type 0} (P : X → Type 0) (Q : Y → Type 0) (f : X → Y) → ((x : X) → P x → Q (f x)) → (xs : List X) → Each P xs → Each Q (map f xs)
each_map P Q f h [] each = tt
each_map P Q f h (x ∷ xs) each = (h x each.0, each_map P Q f h xs each.1)

-- the key stays where it is given no value
updated_key : (key : ℕ) (sets : List Setting) (old row : RowValues) → sets_key key sets ≡ false → value_in key (row_after_settings sets old row) ≡ value_in key row
updated_key key [] old row h = refl
updated_key key (s ∷ rest) old row h =
    let off = or_parts (s.column == key) (sets_key key rest) h in
    updated_key key rest old (slice_set row s.column (given_value old s.value)) off.1
    ∙ get_or-set_other row s.column key (given_value old s.value) Null (λ e. both_ways (s.column == key) off.0 (eq-eqb s.column key (sym e)))

module _ (layouts : List Layout) where
  -- a row of a table: it stands at its key, and there is the table
  abbrev pub Stands : State → ℕ → RowValues → Type 0
  Stands state table row = (row_in layouts state (record { table = table; key = value_in (key_of table layouts) row }) ≡ Some row) × (table < length layouts)

  -- the rows that a condition keeps
  pub found_stand : (state : State) → IsState layouts state → (table : ℕ) (restriction : Cond) → Each (Stands state table) (found_rows state table restriction)
  found_stand state fit table restriction = each_filter (Stands state table) (λ row. keeps row [] restriction) (rows_of table state) (elim (cases_lt table (length layouts)) [
    | inl there ↦ each_weaker (λ r. row_at (key_of table layouts) (value_in (key_of table layouts) r) (rows_of table state) ≡ Some r) (Stands state table) (λ r h. (h, there)) (rows_of table state)
        (rows_stand (key_of table layouts) (rows_of table state) (fit.ordered table))
    | inr out ↦ subst (Each (Stands state table)) (sym (empty state table (subst (λ n. n ≤ table) (sym fit.long) out))) tt
  ])

  -- the changes of an effect are exact on a state, and may be put into it
  pub record IsDoable (effect : Effect) (state : State) : Type 0 where
    pub exact : IsExact layouts effect.changes state
    pub puts : Each (IsPut layouts) effect.changes

  -- DELETE
  pub delete_doable : (state : State) → IsState layouts state → (table : ℕ) (restriction : Cond) → IsDoable (delete_effect table (key_of table layouts) (found_rows state table restriction)) state
  delete_doable state fit table restriction = record {
    exact = each_map (Stands state table) (λ c. row_in layouts state (place_of c) ≡ c.old) (removal table (key_of table layouts)) (λ r h. h.0) (found_rows state table restriction) (found_stand state fit table restriction);
    puts = each_map (Stands state table) (IsPut layouts) (removal table (key_of table layouts)) (λ r h. record { table_in = h.1; keyed = tt }) (found_rows state table restriction) (found_stand state fit table restriction);
  }

  -- UPDATE
  pub update_doable : (state : State) → IsState layouts state → (table : ℕ) (sets : List Setting) (restriction : Cond) → sets_key (key_of table layouts) sets ≡ false
      → IsDoable (record { reply = Updated (length (found_rows state table restriction)); changes = map (renewal table (key_of table layouts) sets) (found_rows state table restriction) }) state
  update_doable state fit table sets restriction leaves = record {
    exact = each_map (Stands state table) (λ c. row_in layouts state (place_of c) ≡ c.old) (renewal table (key_of table layouts) sets) (λ r h. h.0) (found_rows state table restriction) (found_stand state fit table restriction);
    puts = each_map (Stands state table) (IsPut layouts) (renewal table (key_of table layouts) sets) (λ r h. record { table_in = h.1; keyed = updated_key (key_of table layouts) sets r r leaves }) (found_rows state table restriction) (found_stand state fit table restriction);
  }

  -- a change is exact on a state, and may be put into it
  pub record IsPutOn (change : Change) (state : State) : Type 0 where
    pub exact : row_in layouts state (place_of change) ≡ change.old
    pub puts : IsPut layouts change

  -- a row of an INSERT, into a table that there is
  pub insert_doable : (state : State) (name : List ℕ) (place : Place) (row : RowValues) (fault : Option Refusal) → place.table < length layouts → value_in (key_of place.table layouts) row ≡ place.key
      → (c : Change) → unless fault (inserted_at name place row (row_in layouts state place)) ≡ Ok c → IsPutOn c state
  insert_doable state name place row (Some fault) there own c h = cc
  insert_doable state name place row None there own c h = go (row_in layouts state place) refl h
    where
      go : (o : Option RowValues) → row_in layouts state place ≡ o → inserted_at name place row o ≡ Ok c → IsPutOn c state
      go (Some other) n h = cc
      go None n h =
          let is : record { table = place.table; key = place.key; old = None; new = Some row } ≡ c = cc in
          subst (λ c. IsPutOn c state) is (record { exact = n; puts = record { table_in = there; keyed = own } })

  -- and into one that there isn't, which leaves the state
  pub insert_nothing : (state : State) (name : List ℕ) (place : Place) (row : RowValues) (fault : Option Refusal) → length state ≤ place.table
      → (c : Change) → unless fault (inserted_at name place row (row_in layouts state place)) ≡ Ok c → state_after layouts c state ≡ state
  insert_nothing state name place row (Some fault) out c h = cc
  insert_nothing state name place row None out c h = go (row_in layouts state place) h
    where
      go : (o : Option RowValues) → inserted_at name place row o ≡ Ok c → state_after layouts c state ≡ state
      go (Some other) h = cc
      go None h =
          let is : record { table = place.table; key = place.key; old = None; new = Some row } ≡ c = cc in
          subst (λ (c : Change). state_after layouts c state ≡ state) is (set_out state place.table _ out)
