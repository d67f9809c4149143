-- Where the rows fit their columns, they do after each statement. Definitions alone.
use Rattle.std.proofs.Common.{◌≡◌, ℕ, zero, suc, Bool, true, false, List, [], ◌∷◌, map, get_or, ◌⊎◌, inl, inr, Option, Some, None, Result, Ok, Err, refl, sym, ap, subst}
use Rattle.std.specs.Prelude.{All, slice_get, slice_set, if◌then◌else◌}
use Rattle.std.specs.Option.{option_or}
use Rattle.std.proofs.lemmas.List.Elements.{All-filter, All-head, All-tail}
use Rattle.value.specs.declared.refusals.Refusal.{Refusal}
use Rattle.value.specs.declared.refusals.Refusal.TheVariants.{TypeMismatch}
use Rattle.value.specs.declared.values.Value.{Value}
use Rattle.value.specs.ValueOrder.{value_cmp}
use Rattle.value.proofs.OrderedLists.{All-put}
use Rattle.value.proofs.Results.{and_then_ok, ok_same, unless_is}
use Rattle.table.specs.declared.rows.Change.{Change}
use Rattle.table.specs.declared.schemas.Column.{Column}
use Rattle.table.specs.Faults.{are_typed, row_fault, row_refusal}
use Rattle.table.specs.Rows.{FitsColumns, Layout, RowValues, Tables, layouts_of, put_row, value_in, key_of, layout_at}
use Rattle.table.proofs.RowLemmas.{FitsColumns-of}
use Rattle.table.specs.Eval.{keeps}
use Rattle.assertion.specs.Declarations.{Declared, layouts_in}
use Rattle.assertion.specs.Meaning.{State, rows_of}
use Rattle.assertion.specs.Changes.{state_after, state_after_all}
use Rattle.assertion.specs.declared.assertions.Assertion.{Assertion}
use Rattle.assertcheck.specs.declared.inserts.NewRows.{NewRows}
use Rattle.assertcheck.specs.declared.updates.Setting.{Setting}
use Rattle.alone.specs.declared.answers.Reply.{Reply}
use Rattle.alone.specs.Modes.{assertion_of, is_immediate}
use Rattle.alone.specs.Reads.{filter_key}
use Rattle.siread.specs.declared.keys.LockKey.{LockKey}
use Rattle.siread.specs.declared.keys.Place.{Place}
use Rattle.alone.specs.declared.statements.ResolvedStatement.{ResolvedStatement}
use Rattle.alone.specs.declared.statements.ResolvedStatement.TheVariants.{Refused as Refuse, Insert, Update, Delete, Select, SetModes, Verdict}
use Rattle.alone.specs.Alone.{Standing, Step, step_of_effect, modes_step, ran, run_on, step_alone, unless_key, unless_violated, verdict_step}
use Rattle.alone.specs.States.{net_change}
use Rattle.alone.specs.Statements.{Effect, columns_of, delete_effect, found_rows, given_fault, given_value, insert_effect, inserted_at, insertion, insertions, place_in, removal, renewal, settings_fault, update_effect, update_fault, row_after_settings}
use Rattle.alone.proofs.Lists.{Each, each_from}
use Rattle.changes.proofs.Fitting.{faultless_fits, fits_set, set_nothing}
use Rattle.delta.specs.Views.{IsFitting}
use Rattle.txn.specs.Fitting.{RowsFit}
use Rattle.txn.proofs.Fits.{fits}

-- an item of a list with one set is that one, or what it was
set_cases : {X : Type 0} (xs : List X) (i t : ℕ) (r d : X) → (get_or (slice_set xs i r) t d ≡ get_or xs t d) ⊎ ((t ≡ i) × (get_or (slice_set xs i r) t d ≡ r))
set_cases [] i t r d = inl refl
set_cases (x ∷ xs) zero zero r d = inr (refl, refl)
set_cases (x ∷ xs) zero (suc t) r d = inl refl
set_cases (x ∷ xs) (suc i) zero r d = inl refl
set_cases (x ∷ xs) (suc i) (suc t) r d = elim (set_cases xs i t r d) [
  | inl same ↦ inl same
  | inr here ↦ inr (ap suc here.0, here.1)
]

module _ (layouts : List Layout) where
  -- after a change whose new row fits
  fit_after : (change : Change) (state : State) → IsFitting layouts change → RowsFit layouts state → RowsFit layouts (state_after layouts change state)
  fit_after change state new old = λ table.
      let made : List RowValues = put_row (key_of change.table layouts) change.key change.new (rows_of change.table state) in
      elim (set_cases state change.table table made []) [
        | inl same ↦ subst (All (FitsColumns (layout_at table layouts).columns)) (sym same) (old table)
        | inr here ↦ subst (All (FitsColumns (layout_at table layouts).columns)) (sym here.1)
            (subst (λ n. All (FitsColumns (layout_at n layouts).columns) made) (sym here.0)
            (All-put value_cmp (value_in (key_of change.table layouts)) (FitsColumns (layout_at change.table layouts).columns) change.key change.new (rows_of change.table state) new (old change.table)))
      ]

  pub fit_after_all : (changes : List Change) (state : State) → Each (IsFitting layouts) changes → RowsFit layouts state → RowsFit layouts (state_after_all layouts changes state)
  fit_after_all [] state new old = old
  fit_after_all (change ∷ rest) state new old = fit_after_all rest (state_after layouts change state) new.1 (fit_after change state new.0 old)

  -- the new rows of a net change fit
  pub net_fit : (before after : State) → RowsFit layouts after → Each (IsFitting layouts) (net_change layouts before after)
  net_fit before after fitting = each_from (IsFitting layouts) (net_change layouts before after) (fits layouts before after fitting)

-- ---- what statements do

-- no fault is found of either
no_first : (a b : Option Refusal) → option_or a b ≡ None → a ≡ None
no_first None b e = refl
no_first (Some r) b e = cc

no_second : (a b : Option Refusal) → option_or a b ≡ None → b ≡ None
no_second None b e = e
no_second (Some r) b e = cc

row_fits : (columns : List Column) (row : RowValues) (typed : Bool) → are_typed columns row ≡ typed → (if typed then row_fault columns row else Some TypeMismatch) ≡ None → FitsColumns columns row
row_fits columns row true typed e = FitsColumns-of columns row typed e
row_fits columns row false typed e = cc

inserted_fits : (layouts : List Layout) (place : Place) (row : RowValues) (name : List ℕ) (existing : Option RowValues) (change : Change) → FitsColumns (layout_at place.table layouts).columns row
    → inserted_at name place row existing ≡ Ok change → IsFitting layouts change
inserted_fits layouts place row name None change fits e = subst (IsFitting layouts) (ok_same _ change e) fits
inserted_fits layouts place row name (Some other) change fits e = let no : ⊥ = cc in absurd no

insertion_fits : (tables : Tables) (table : ℕ) (state : State) (row : RowValues) (change : Change) → insertion tables table state row ≡ Ok change → IsFitting (layouts_of tables) change
insertion_fits tables table state row change e =
    let parts = unless_is (row_refusal (columns_of table (layouts_of tables)) row) _ change e in
    inserted_fits (layouts_of tables) (place_in (layouts_of tables) table row) row _ _ change
    (row_fits (columns_of table (layouts_of tables)) row (are_typed (columns_of table (layouts_of tables)) row) refl parts.0) parts.1

insertions_fit : (tables : Tables) (table : ℕ) (rows : List RowValues) (state : State) (changes : List Change) → insertions tables table state rows ≡ Ok changes → Each (IsFitting (layouts_of tables)) changes
insertions_fit tables table [] state changes e = subst (Each (IsFitting (layouts_of tables))) (ok_same [] changes e) tt
insertions_fit tables table (row ∷ rest) state changes e =
    let first = and_then_ok (insertion tables table state row) _ changes e in
    let more = and_then_ok (insertions tables table (state_after (layouts_of tables) first.0 state) rest) _ changes first.1.1 in
    subst (Each (IsFitting (layouts_of tables))) (ok_same _ changes more.1.1)
    (insertion_fits tables table state row first.0 first.1.0, insertions_fit tables table rest (state_after (layouts_of tables) first.0 state) more.0 more.1.0)

insert_fits : (tables : Tables) (new : NewRows) (state : State) (effect : Effect) → insert_effect tables new state ≡ Ok effect → Each (IsFitting (layouts_of tables)) effect.changes
insert_fits tables new state effect e =
    let made = and_then_ok (insertions tables new.table state new.rows) _ effect e in
    subst (λ (f : Effect). Each (IsFitting (layouts_of tables)) f.changes) (ok_same _ effect made.1.1) (insertions_fit tables new.table new.rows state made.0 made.1.0)

delete_fits : (layouts : List Layout) (table key : ℕ) (rows : List RowValues) → Each (IsFitting layouts) (map (removal table key) rows)
delete_fits layouts table key [] = tt
delete_fits layouts table key (row ∷ rest) = (tt, delete_fits layouts table key rest)

-- what a row is given without fault fits it
given_fits : (columns : List Column) (column : Option Column) (place : ℕ) (v : Value) (row : RowValues) → slice_get columns place ≡ column → given_fault column v ≡ None → FitsColumns columns row
    → FitsColumns columns (slice_set row place v)
given_fits columns None place v row there faultless fit = subst (FitsColumns columns) (sym (set_nothing columns row place v there fit)) fit
given_fits columns (Some column) place v row there faultless fit = fits_set columns row place column v there (faultless_fits column v faultless) fit

updated_fits : (columns : List Column) (sets : List Setting) (old row : RowValues) → settings_fault columns sets old ≡ None → FitsColumns columns row → FitsColumns columns (row_after_settings sets old row)
updated_fits columns [] old row faultless fit = fit
updated_fits columns (setting ∷ rest) old row faultless fit =
    updated_fits columns rest old (slice_set row setting.column (given_value old setting.value)) (no_second _ _ faultless)
    (given_fits columns (slice_get columns setting.column) setting.column (given_value old setting.value) row refl (no_first _ _ faultless) fit)

renewals_fit : (layouts : List Layout) (table key : ℕ) (sets : List Setting) (rows : List RowValues) → All (FitsColumns (columns_of table layouts)) rows → update_fault (columns_of table layouts) sets rows ≡ None
    → Each (IsFitting layouts) (map (renewal table key sets) rows)
renewals_fit layouts table key sets [] fit faultless = tt
renewals_fit layouts table key sets (row ∷ rest) fit faultless = (
  updated_fits (columns_of table layouts) sets row row (no_first _ _ faultless) (All-head (FitsColumns (columns_of table layouts)) row rest fit),
  renewals_fit layouts table key sets rest (All-tail (FitsColumns (columns_of table layouts)) row rest fit) (no_second _ _ faultless),
)

update_fits : (layouts : List Layout) (table key : ℕ) (sets : List Setting) (rows : List RowValues) (effect : Effect) → All (FitsColumns (columns_of table layouts)) rows
    → update_effect (columns_of table layouts) table key sets rows ≡ Ok effect → Each (IsFitting layouts) effect.changes
update_fits layouts table key sets rows effect fit e =
    let parts = unless_is (update_fault (columns_of table layouts) sets rows) _ effect e in
    subst (λ (f : Effect). Each (IsFitting layouts) f.changes) (ok_same _ effect parts.1) (renewals_fit layouts table key sets rows fit parts.0)

-- ---- statements alone

module _ (declared : Declared) where
  abbrev Fit : Standing → Type 0
  Fit now = RowsFit (layouts_in declared) now.view

  unless_fits : (refused : Option Refusal) (reply : Reply) (before after : Standing) (reads : List LockKey) → Fit before → Fit after → Fit (unless_violated refused reply before after reads).after
  unless_fits None reply before after reads old new = new
  unless_fits (Some refusal) reply before after reads old new = old

  effected_fits : (now : Standing) (reads : List LockKey) (made : Result Effect Refusal) → ((effect : Effect) → made ≡ Ok effect → Each (IsFitting (layouts_in declared)) effect.changes) → Fit now
      → Fit (step_of_effect declared now reads made).after
  effected_fits now reads (Err refusal) new old = old
  effected_fits now reads (Ok effect) new old =
      unless_fits _ effect.reply now (record { view = state_after_all (layouts_in declared) effect.changes now.view; modes = now.modes }) _ old
      (fit_after_all (layouts_in declared) effect.changes now.view (new effect refl) old)

  verdict_fits : (a : Option Assertion) (name : List ℕ) (now : Standing) → Fit now → Fit (verdict_step declared a name now).after
  verdict_fits None name now old = old
  verdict_fits (Some a) name now old = old

  modes_fits : (start : State) (names : List (List ℕ)) (b : Bool) (now : Standing) → Fit now → Fit (modes_step declared start names b now).after
  modes_fits start names false now old = old
  modes_fits start names true now old = unless_fits _ _ now _ _ old old

  unless_key_fits : (b : Bool) (refusal : Refusal) (now : Standing) (step : Step) → Fit now → Fit step.after → Fit (unless_key b refusal now step).after
  unless_key_fits true refusal now step old new = old
  unless_key_fits false refusal now step old new = new

  step_fits : (start : State) (now : Standing) (statement : ResolvedStatement) → Fit now → Fit (step_alone declared start now statement).after
  step_fits start now (Refuse refusal) old = old
  step_fits start now (Insert new) old = effected_fits now _ (insert_effect declared.tables new now.view) (insert_fits declared.tables new now.view) old
  step_fits start now (Update u) old =
      unless_key_fits _ _ now _ old
      (effected_fits now (filter_key u.table (key_of u.table (layouts_in declared)) u.filter ∷ []) (update_effect (columns_of u.table (layouts_in declared)) u.table (key_of u.table (layouts_in declared)) u.sets (found_rows now.view u.table u.filter))
      (λ effect. update_fits (layouts_in declared) u.table (key_of u.table (layouts_in declared)) u.sets (found_rows now.view u.table u.filter) effect
      (All-filter (λ (row : RowValues). keeps row [] u.filter) (FitsColumns (columns_of u.table (layouts_in declared))) (rows_of u.table now.view) (old u.table))) old)
  step_fits start now (Delete d) old =
      effected_fits now (filter_key d.table (key_of d.table (layouts_in declared)) d.filter ∷ []) (Ok (delete_effect d.table (key_of d.table (layouts_in declared)) (found_rows now.view d.table d.filter)))
      (λ effect e. subst (λ (f : Effect). Each (IsFitting (layouts_in declared)) f.changes) (ok_same _ effect e) (delete_fits (layouts_in declared) d.table (key_of d.table (layouts_in declared)) (found_rows now.view d.table d.filter))) old
  step_fits start now (Select s) old = old
  step_fits start now (SetModes names mode) old = modes_fits start names (is_immediate mode) now old
  step_fits start now (Verdict name) old = verdict_fits (assertion_of name declared.assertions) name now old

  ran_fits : (start : State) (now : Standing) (trace : List ResolvedStatement) → Fit now → Fit (ran declared start now trace).final
  ran_fits start now [] old = old
  ran_fits start now (statement ∷ rest) old = ran_fits start (step_alone declared start now statement).after rest (step_fits start now statement old)

  -- a transaction's own view
  pub run_fits : (trace : List ResolvedStatement) (start : State) → RowsFit (layouts_in declared) start → RowsFit (layouts_in declared) (run_on declared trace start).final.view
  run_fits trace start old = ran_fits start _ trace old
