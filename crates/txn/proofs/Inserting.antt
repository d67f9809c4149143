-- New rows, each put in where those before it stand: what they change of a state.
use Rattle.std.proofs.Common.{◌≡◌, ◌⊎◌, ◌<◌, ◌≤◌, ◌++◌, ℕ, true, false, cond, List, [], ◌∷◌, map, filter, length, Option, Some, None, Result, Ok, Err, refl, sym, ap, ◌∙◌, subst, inl, inr, arith}
use Rattle.std.specs.Prelude.{Contains, slice_index_or}
use Rattle.std.proofs.lemmas.Bool.{cases_Bool, not-false}
use Rattle.std.proofs.lemmas.List.{length-map}
use Rattle.value.specs.declared.refusals.Refusal.{Refusal}
use Rattle.value.specs.Results.{and_then, behind}
use Rattle.value.proofs.Results.{and_then_ok, behind_next, ok_same, unless_is}
use Rattle.table.specs.declared.rows.Change.{Change}
use Rattle.table.specs.Faults.{row_refusal}
use Rattle.table.specs.Rows.{RowValues, Layout, Tables, key_of, layouts_of, names_of, value_in}
use Rattle.assertion.specs.Declarations.{layouts_in}
use Rattle.assertion.specs.Meaning.{State}
use Rattle.assertion.specs.Changes.{state_after, state_after_all}
use Rattle.siread.specs.declared.keys.Place.{Place}
use Rattle.siread.specs.Keys.{place_of, same_place}
use Rattle.siread.proofs.KeyOrder.{same_place-true, same_place-refl}
use Rattle.siread.proofs.Members.{in_cases, in_head, in_tail}
use Rattle.alone.specs.States.{AreInOrder, IsPut, IsState, change_between, is_real, net_change, row_in}
use Rattle.alone.specs.declared.answers.Reply.TheVariants.{Inserted}
use Rattle.alone.specs.Statements.{Effect, columns_of, inserted_at, insertion, insertions, place_in}
use Rattle.alone.proofs.InOrder.{IsAscending-filter}
use Rattle.alone.proofs.Lists.{Each, each_at}
use Rattle.alone.proofs.Members.{filter_passes, from_filter, from_map, in_filter}
use Rattle.alone.proofs.Orders.{net_only, place_cmp_total}
use Rattle.alone.proofs.Stores.{after_fits, row_in-after, same_there-true}
use Rattle.assertcheck.specs.declared.inserts.NewRows.{NewRows}
use Rattle.changes.specs.Nets.{AreChangesBetween}
use Rattle.delta.specs.Views.{ViewState}
use Rattle.txn.specs.declared.applied.AppliedEffect.{AppliedEffect}
use Rattle.txn.specs.Steps.{HasInserted}
use Rattle.txn.proofs.Putting.{between_none}

-- the state after changes, and after one change more
after_one_more : (layouts : List Layout) (changes : List Change) (change : Change) (state : State)
    → state_after_all layouts (changes ++ change ∷ []) state ≡ state_after layouts change (state_after_all layouts changes state)
after_one_more layouts [] change state = refl
after_one_more layouts (first ∷ rest) change state = after_one_more layouts rest change (state_after layouts first state)

-- the changes so far, one more, and those of the rows behind it
row_next : (tables : Tables) (table : ℕ) (made : List Change) (state : State) (row : RowValues) (rest : List RowValues) (change : Change) → insertion tables table state row ≡ Ok change
    → behind made (insertions tables table state (row ∷ rest)) ≡ behind (made ++ change ∷ []) (insertions tables table (state_after (layouts_of tables) change state) rest)
row_next tables table made state row rest change e =
    ap (λ (r : Result Change Refusal). behind made (and_then r (λ first. and_then (insertions tables table (state_after (layouts_of tables) first state) rest) (λ more. Ok (first ∷ more))))) e
    ∙ behind_next made change (insertions tables table (state_after (layouts_of tables) change state) rest)

-- and a row that can't be put in
row_fault : (tables : Tables) (table : ℕ) (made : List Change) (state : State) (row : RowValues) (rest : List RowValues) (refusal : Refusal) → insertion tables table state row ≡ Err refusal
    → behind made (insertions tables table state (row ∷ rest)) ≡ Err refusal
row_fault tables table made state row rest refusal e =
    ap (λ (r : Result Change Refusal). behind made (and_then r (λ first. and_then (insertions tables table (state_after (layouts_of tables) first state) rest) (λ more. Ok (first ∷ more))))) e

-- rows are put into a view one after the other: what is made so far, and what is left
module _ (own : ViewState) (table : ℕ) (all : List RowValues) where
  abbrev tables : Tables
  tables = own.declared.tables

  abbrev lays : List Layout
  lays = layouts_in own.declared

  -- the changes so far with those of the rows that are left are all, and the view is what they leave
  abbrev pub PutSoFar : List Change → ViewState → List RowValues → Type 0
  PutSoFar made view left =
      (behind made (insertions own.declared.tables table view.state left) ≡ insertions own.declared.tables table own.state all)
      × (view ≡ record own { state = state_after_all (layouts_in own.declared) made own.state })

  module _ (made : List Change) (view : ViewState) (left rest : List RowValues) (row : RowValues) (here : left ≡ row ∷ rest) (so_far : PutSoFar made view left) where
    -- one row more is left
    all_are : behind made (insertions tables table (state_after_all lays made own.state) (row ∷ rest)) ≡ insertions tables table own.state all
    all_are = ap (λ (rows : List RowValues). behind made (insertions tables table (state_after_all lays made own.state) rows)) (sym here) ∙ ap (λ (v : ViewState). behind made (insertions tables table v.state left)) (sym so_far.1) ∙ so_far.0

    pub put_one : (change : Change) (next : ViewState) (more : List Change) → insertion view.declared.tables table view.state row ≡ Ok change
        → next ≡ record view { state = state_after (layouts_in view.declared) change view.state } → more ≡ made ++ change ∷ [] → PutSoFar more next rest
    put_one change next more put after is =
        let put' : insertion tables table (state_after_all lays made own.state) row ≡ Ok change = subst (λ (v : ViewState). insertion v.declared.tables table v.state row ≡ Ok change) so_far.1 put in
        let after' : next ≡ record own { state = state_after lays change (state_after_all lays made own.state) } =
        subst (λ (v : ViewState). next ≡ record v { state = state_after (layouts_in v.declared) change v.state }) so_far.1 after in
        let moved : state_after_all lays more own.state ≡ state_after lays change (state_after_all lays made own.state) =
        ap (λ (changes : List Change). state_after_all lays changes own.state) is ∙ after_one_more lays made change own.state in (
          ap (λ (changes : List Change). behind changes (insertions tables table next.state rest)) is
              ∙ ap (λ (v : ViewState). behind (made ++ change ∷ []) (insertions tables table v.state rest)) after'
              ∙ sym (row_next tables table made (state_after_all lays made own.state) row rest change put')
              ∙ all_are,
          after' ∙ ap (λ (s : State). record own { state = s }) (sym moved),
        )

    pub put_none : (refusal : Refusal) → insertion view.declared.tables table view.state row ≡ Err refusal → insertions own.declared.tables table own.state all ≡ Err refusal
    put_none refusal put =
        sym all_are
        ∙ row_fault tables table made (state_after_all lays made own.state) row rest refusal (subst (λ (v : ViewState). insertion v.declared.tables table v.state row ≡ Err refusal) so_far.1 put)

-- the changes between two states, where they are in order: those that aren't of a row to what it held are the net change
pub between_real : (layouts : List Layout) (before after : State) (changes : List Change) → IsState layouts before → IsState layouts after → AreInOrder changes → AreChangesBetween layouts before after changes
    → filter is_real changes ≡ net_change layouts before after
between_real layouts before after changes f g order between =
    net_only layouts before after f g (filter is_real changes) (record {
      in_order = IsAscending-filter place_cmp_total place_of is_real changes order;
      exact = λ c m. between.exact c (from_filter is_real changes c m);
      real = λ c m. filter_passes is_real changes c m;
      all = λ place. elim (between.elsewhere place) [
        | inl same ↦ inl same
        | inr listed ↦
            let found = from_map place_of changes place listed in
            at_change place found.0 found.1.0 found.1.1 (cases_Bool (is_real found.0))
      ];
    })
  where
    at_change : (place : Place) (c : Change) → Contains changes c → place_of c ≡ place → (is_real c ≡ true) ⊎ (is_real c ≡ false)
        → (row_in layouts before place ≡ row_in layouts after place) ⊎ Contains (filter is_real changes) (change_between layouts before after place)
    at_change place c m there (inl real) =
        inr (subst (Contains (filter is_real changes)) (between.exact c m ∙ ap (change_between layouts before after) there) (in_filter is_real changes c real m))
    at_change place c m there (inr still) =
        let is : c ≡ change_between layouts before after place = between.exact c m ∙ ap (change_between layouts before after) there in
        inl (sym (ap (λ (d : Change). d.old) is) ∙ same_there-true c.old c.new (not-false _ still) ∙ ap (λ (d : Change). d.new) is)

-- a table that there is
module _ (tables : Tables) (table : ℕ) (there : table < length (layouts_of tables)) where
  abbrev layouts : List Layout
  layouts = layouts_of tables

  -- the change that a new row is
  abbrev new_row : RowValues → Change
  new_row row = record { table = table; key = value_in (key_of table layouts) row; old = None; new = Some row }

  -- its place was free
  insertion_is : (state : State) (row : RowValues) (change : Change) → insertion tables table state row ≡ Ok change
      → (new_row row ≡ change) × (row_in layouts state (place_in layouts table row) ≡ None)
  insertion_is state row change e = go (row_in layouts state (place_in layouts table row)) refl (unless_is (row_refusal (columns_of table layouts) row) _ change e).1
    where
      go : (o : Option RowValues) → row_in layouts state (place_in layouts table row) ≡ o → inserted_at (slice_index_or (names_of tables) table []) (place_in layouts table row) row o ≡ Ok change
          → (new_row row ≡ change) × (row_in layouts state (place_in layouts table row) ≡ None)
      go None n h = (ok_same (new_row row) change h, n)
      go (Some other) n h = let no : ⊥ = cc in absurd no

  new_row_is_put : (row : RowValues) → IsPut layouts (new_row row)
  new_row_is_put row = record { table_in = there; keyed = refl }

  -- changes between two states, each of a place where no row stood
  record AreNew (before after : State) (changes : List Change) : Type 0 where
    pub between : AreChangesBetween layouts before after changes
    pub none : Each (λ (c : Change). c.old ≡ None) changes

  -- a new row, and then others
  behind_new : (row : RowValues) (state after : State) (rest : List Change) → IsState layouts state → row_in layouts state (place_in layouts table row) ≡ None
      → AreNew (state_after layouts (new_row row) state) after rest → AreNew state after (new_row row ∷ rest)
  behind_new row state after rest fit free later = record {
    between = record { exact = λ c m. exact c (in_cases (new_row row) rest c m); elsewhere = elsewhere };
    none = (refl, later.none);
  }
    where
      place : Place
      place = place_in layouts table row

      state' : State
      state' = state_after layouts (new_row row) state

      moved : (other : Place) → row_in layouts state' other ≡ cond (same_place place other) (Some row) (row_in layouts state other)
      moved = row_in-after layouts state fit (new_row row) (new_row_is_put row)

      -- the row stands there for those behind it
      stands : row_in layouts state' place ≡ Some row
      stands = moved place ∙ ap (λ b. cond b (Some row) (row_in layouts state place)) (same_place-refl place)

      -- so none of them is of its place
      apart : (c : Change) → Contains rest c → place ≡ place_of c → ⊥
      apart c m same =
          let old : c.old ≡ row_in layouts state' (place_of c) = ap (λ (d : Change). d.old) (later.between.exact c m) in
          let no : Some row ≡ None = sym stands ∙ ap (row_in layouts state') same ∙ sym old ∙ each_at (λ (d : Change). d.old ≡ None) rest later.none c m in
          cc

      -- and elsewhere it has changed nothing
      unmoved : (other : Place) → same_place place other ≡ false → row_in layouts state other ≡ row_in layouts state' other
      unmoved other off = sym (moved other ∙ ap (λ b. cond b (Some row) (row_in layouts state other)) off)

      stays : row_in layouts after place ≡ Some row
      stays = elim (later.between.elsewhere place) [
        | inl same ↦ sym same ∙ stands
        | inr listed ↦ let found = from_map place_of rest place listed in absurd (apart found.0 found.1.0 (sym found.1.1))
      ]

      exact : (c : Change) → (new_row row ≡ c) ⊎ Contains rest c → c ≡ change_between layouts state after (place_of c)
      exact c (inl same) = subst (λ (d : Change). d ≡ change_between layouts state after (place_of d)) same
          (λ i. record { table = table; key = value_in (key_of table layouts) row; old = sym free i; new = sym stays i })
      exact c (inr m) = elim (cases_Bool (same_place place (place_of c))) [
        | inl same ↦ absurd (apart c m (same_place-true place (place_of c) same))
        | inr off ↦
            later.between.exact c m
            ∙ (λ i. record { table = c.table; key = c.key; old = sym (unmoved (place_of c) off) i; new = row_in layouts after (place_of c) })
      ]

      elsewhere : (other : Place) → (row_in layouts state other ≡ row_in layouts after other) ⊎ Contains (map place_of (new_row row ∷ rest)) other
      elsewhere other = elim (cases_Bool (same_place place other)) [
        | inl same ↦ inr (subst (Contains (map place_of (new_row row ∷ rest))) (same_place-true place other same) (in_head place (map place_of rest)))
        | inr off ↦ elim (later.between.elsewhere other) [
          | inl same ↦ inl (unmoved other off ∙ same)
          | inr listed ↦ inr (in_tail place (map place_of rest) other listed)
        ]
      ]

  -- new rows that are put in are such changes
  insertions_new : (rows : List RowValues) (state : State) → IsState layouts state → (changes : List Change) → insertions tables table state rows ≡ Ok changes
      → AreNew state (state_after_all layouts changes state) changes
  insertions_new [] state fit changes e =
      subst (λ (cs : List Change). AreNew state (state_after_all layouts cs state) cs) (ok_same [] changes e) (record { between = between_none layouts state; none = tt })
  insertions_new (row ∷ rest) state fit changes e =
      let first = and_then_ok (insertion tables table state row) _ changes e in
      let more = and_then_ok (insertions tables table (state_after layouts first.0 state) rest) _ changes first.1.1 in
      let is = insertion_is state row first.0 first.1.0 in
      let moved : state_after layouts (new_row row) state ≡ state_after layouts first.0 state = ap (λ c. state_after layouts c state) is.0 in
      let later : AreNew (state_after layouts first.0 state) (state_after_all layouts more.0 (state_after layouts first.0 state)) more.0 =
      insertions_new rest (state_after layouts first.0 state)
      (subst (IsState layouts) moved (after_fits layouts state fit (new_row row) (new_row_is_put row))) more.0 more.1.0 in
      subst (λ (cs : List Change). AreNew state (state_after_all layouts cs state) cs) (ap (λ (c : Change). c ∷ more.0) is.0 ∙ ok_same (first.0 ∷ more.0) changes more.1.1)
      (behind_new row state (state_after_all layouts (new_row row ∷ more.0) state) more.0 fit is.1
      (subst (λ (s : State). AreNew s (state_after_all layouts more.0 s) more.0) (sym moved) later))

-- changes of which there is no more than one are in order
pub short_in_order : (changes : List Change) → length changes ≤ 1 → AreInOrder changes
short_in_order [] short = tt
short_in_order (change ∷ []) short = (tt, tt)
short_in_order (first ∷ second ∷ rest) short = absurd (omega (arith, short))

-- what is put into a view is what an INSERT leaves
pub has_inserted : (own : ViewState) (new : NewRows) (applied : AppliedEffect) (changes : List Change) → new.table < length own.declared.tables
    → IsState (layouts_in own.declared) own.state → IsState (layouts_in applied.view.declared) applied.view.state
    → insertions own.declared.tables new.table own.state new.rows ≡ Ok changes
    → applied.view ≡ record own { state = state_after_all (layouts_in own.declared) changes own.state }
    → applied.reply ≡ Inserted (length new.rows)
    → (IsState (layouts_in own.declared) applied.view.state → AreChangesBetween (layouts_in own.declared) own.state applied.view.state changes
    → applied.changes.items ≡ net_change (layouts_in own.declared) own.state applied.view.state)
    → HasInserted own new applied
has_inserted own new applied changes table_in fit fit' made view reply net =
    let layouts = layouts_in own.declared in
    let there : new.table < length layouts = subst (λ n. new.table < n) (sym (length-map own.declared.tables (λ declared. declared.1))) table_in in
    let between : AreChangesBetween layouts own.state applied.view.state changes =
    subst (λ (v : ViewState). AreChangesBetween layouts own.state v.state changes) (sym view) (insertions_new own.declared.tables new.table there new.rows own.state fit changes made).between in
    record {
      effect = record { reply = Inserted (length new.rows); changes = changes };
      made = ap (λ (r : Result (List Change) Refusal). and_then r (λ (cs : List Change). let e : Result Effect Refusal = Ok (record { reply = Inserted (length new.rows); changes = cs }) in e)) made;
      is = record {
        reply = reply;
        view = view;
        changes = net (subst (λ (v : ViewState). IsState (layouts_in v.declared) applied.view.state) view fit') between;
      };
    }
