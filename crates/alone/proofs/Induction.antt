-- The agreement law, by induction over the trace, and that an accepted transaction leaves a sound state.
use Rattle.std.proofs.Common.{◌≡◌, ◌≤◌, ℕ, Bool, true, false, not, List, [], ◌∷◌, ◌++◌, Option, Some, None, Result, Ok, Err, length, map, filter, refl, sym, ap, ◌∙◌, subst, inl, inr}
use Rattle.std.specs.Prelude.{Contains, slice_index_or}
use Rattle.std.proofs.lemmas.Bool.{cases_lt}
use Rattle.std.proofs.lemmas.List.{length-map}
use Rattle.value.specs.declared.refusals.Refusal.{Refusal}
use Rattle.value.specs.declared.refusals.Refusal.TheVariants.{KeyUpdate}
use Rattle.table.specs.declared.rows.Change.{Change}
use Rattle.table.specs.Rows.{RowValues, Layout, layouts_of, names_of, key_of}
use Rattle.table.specs.Faults.{row_refusal}
use Rattle.table.specs.declared.conds.Cond.{Cond}
use Rattle.assertion.specs.declared.assertions.Assertion.{Assertion}
use Rattle.assertion.specs.Meaning.{State, least_bad_of}
use Rattle.assertion.specs.Changes.{state_after, state_after_all}
use Rattle.assertcheck.specs.declared.inserts.NewRows.{NewRows}
use Rattle.assertcheck.specs.declared.updates.Setting.{Setting}
use Rattle.value.specs.Results.{and_then, unless}
use Rattle.value.proofs.Results.{and_then_ok, ok_same}
use Rattle.siread.specs.declared.keys.Place.{Place}
use Rattle.siread.specs.declared.keys.LockKey.{LockKey}
use Rattle.siread.specs.declared.keys.LockKey.TheVariants.{Row as OneRow, Table as WholeTable}
use Rattle.siread.specs.Keys.{SameUnder, place_of}
use Rattle.alone.specs.States.{row_in, IsState, IsPut, net_change}
use Rattle.alone.specs.Reads.{filter_key}
use Rattle.alone.specs.Checks.{tables_in, violation, checks_read}
use Rattle.alone.specs.declared.statements.ResolvedStatement.{ResolvedStatement}
use Rattle.alone.specs.declared.statements.ResolvedStatement.TheVariants.{Refused as Refuse, Insert, Update, Delete, Select, SetModes, Verdict}
use Rattle.alone.specs.declared.answers.Reply.{Reply}
use Rattle.alone.specs.declared.answers.Reply.TheVariants.{Rows, ModesSet, Verdict as Truthful, Inserted, Updated}
use Rattle.alone.specs.Statements.{Effect, columns_of, place_in, places_in, found_rows, inserted_at, insertion, insertions, insert_effect, update_fault, renewal, update_effect, delete_effect, sets_key, listed_rows}
use Rattle.assertion.specs.Declarations.{Declared, layouts_in}
use Rattle.alone.specs.Modes.{Immediates, is_immediate, is_named, modes_with, assertion_of, initial_modes, immediate_ones, deferred_ones, named_ones}
use Rattle.alone.specs.Alone.{Standing, Step, refused_step, unless_violated, step_of_effect, verdict_step, modes_step, unless_key, key_name, step_alone, Run, ran, run_on, transaction, transaction_keys, IsSound}
use Rattle.siread.proofs.Members.{in_head, in_tail}
use Rattle.alone.proofs.Lists.{Each, each_filter}
use Rattle.alone.proofs.Members.{in_map}
use Rattle.alone.proofs.Stores.{one_same, all_fit}
use Rattle.alone.proofs.Nets.{IsExact, Alike, alike_start, alike_under, alike_put, net_same, net_exact, put_net}
use Rattle.alone.proofs.Forms.{verdict_same}
use Rattle.alone.proofs.Wheres.{found_same}
use Rattle.alone.proofs.Checks.{Under, under_left, under_right, AreQuiet, quiet_from, check_same, reads_same, AreQuietIn, quiet_of, quiet_ones, ones_quiet, quiet_in, quiet_deferred, quiet_immediate, quiet_deferred_ones, violation_deferred}
use Rattle.alone.proofs.Immediates.{set_long}
use Rattle.alone.proofs.Effects.{IsDoable, IsPutOn, delete_doable, update_doable, insert_doable, insert_nothing}

reads_are : (fault : Option Refusal) (reply : Reply) (before after : Standing) (reads : List LockKey) → (unless_violated fault reply before after reads).reads ≡ reads
reads_are None reply before after reads = refl
reads_are (Some fault) reply before after reads = refl

module _ (declared : Declared) (s o : State) (sound : IsSound declared s) (sound' : IsSound declared o) where
  abbrev lays : List Layout
  lays = layouts_of declared.tables

  abbrev all : List Assertion
  all = declared.assertions

  -- two transactions, on the two states, stand alike
  pub record Together (modes : Immediates) (u v : State) : Type 0 where
    pub alike : Alike lays s o u v
    pub fit : IsState lays u
    pub fit' : IsState lays v
    pub quiet : AreQuietIn lays modes u all
    pub quiet' : AreQuietIn lays modes v all
    pub long : length modes ≡ length all

  abbrev pub AreTogether : Standing → Standing → Type 0
  AreTogether one other = (one.modes ≡ other.modes) × Together one.modes one.view other.view

  -- two steps answer and read the same, and leave both alike
  pub record AreSame (p q : Step) : Type 0 where
    pub reply : p.reply ≡ q.reply
    pub reads : p.reads ≡ q.reads
    pub after : AreTogether p.after q.after

  -- the same fault, or none
  same_unless : (fault fault' : Option Refusal) (reply : Reply) (one other one' other' : Standing) (reads reads' : List LockKey) → fault ≡ fault' → reads ≡ reads' → AreTogether one other
      → (fault ≡ None → fault' ≡ None → AreTogether one' other') → AreSame (unless_violated fault reply one one' reads) (unless_violated fault' reply other other' reads')
  same_unless None None reply one other one' other' reads reads' e r before after = record { reply = refl; reads = r; after = after refl refl }
  same_unless (Some f) (Some g) reply one other one' other' reads reads' e r before after =
      let is : f ≡ g = cc in
      record { reply = ap Err is; reads = r; after = before }
  same_unless None (Some g) reply one other one' other' reads reads' e r before after = let no : ⊥ = cc in absurd no
  same_unless (Some f) None reply one other one' other' reads reads' e r before after = let no : ⊥ = cc in absurd no

  -- the same changes leave states alike whatever they were alike to
  record Moves (u v : State) (changes : List Change) : Type 0 where
    fit : IsState lays (state_after_all lays changes u)
    fit' : IsState lays (state_after_all lays changes v)
    alike : (one other : State) → Alike lays one other u v → Alike lays one other (state_after_all lays changes u) (state_after_all lays changes v)

  -- changes that are exact on both states
  exact_moves : (u v : State) → IsState lays u → IsState lays v → (changes : List Change) → Each (IsPut lays) changes → IsExact lays changes u → IsExact lays changes v → Moves u v changes
  exact_moves u v fit fit' changes puts exact exact' = record {
    fit = all_fit lays changes u fit puts;
    fit' = all_fit lays changes v fit' puts;
    alike = λ one other a. alike_put lays one other u v changes fit fit' puts a exact exact';
  }

  -- changes that leave both states as they are
  still_moves : (u v : State) → IsState lays u → IsState lays v → (changes : List Change) → state_after_all lays changes u ≡ u → state_after_all lays changes v ≡ v → Moves u v changes
  still_moves u v fit fit' changes e e' = record {
    fit = subst (IsState lays) (sym e) fit;
    fit' = subst (IsState lays) (sym e') fit';
    alike = λ one other a. subst (λ x. Alike lays one other x (state_after_all lays changes v)) (sym e) (subst (λ y. Alike lays one other u y) (sym e') a);
  }

  -- a change, and then others on what it leaves
  then_moves : (u v : State) (c : Change) (rest : List Change) → Moves u v (c ∷ []) → Moves (state_after lays c u) (state_after lays c v) rest → Moves u v (c ∷ rest)
  then_moves u v c rest first more = record {
    fit = more.fit;
    fit' = more.fit';
    alike = λ one other a. more.alike one other (first.alike one other a);
  }

  -- what is put into the two states is the same, and moves them
  record ArePutAlike (u v : State) (made made' : Result (List Change) Refusal) : Type 0 where
    same : made ≡ made'
    moves : (changes : List Change) → made ≡ Ok changes → Moves u v changes

  put_behind : (u v : State) (c : Change) (made made' : Result (List Change) Refusal) → Moves u v (c ∷ []) → ArePutAlike (state_after lays c u) (state_after lays c v) made made'
      → ArePutAlike u v (and_then made (λ more. Ok (c ∷ more))) (and_then made' (λ more. Ok (c ∷ more)))
  put_behind u v c made made' first rest =
      let next : List Change → Result (List Change) Refusal = λ more. Ok (c ∷ more) in
      record {
        same = ap (λ made. and_then made next) rest.same;
        moves = λ changes e.
            let found = and_then_ok made next changes e in
            subst (Moves u v) (ok_same (c ∷ found.0) changes found.1.1) (then_moves u v c found.0 first (rest.moves found.0 found.1.0));
      }

  -- a new row: at a table that there is its change is exact on both states, and at another it leaves them
  insertion_moves : (table : ℕ) (row : RowValues) (u v : State) → IsState lays u → IsState lays v → (c : Change) → insertion declared.tables table u row ≡ Ok c → insertion declared.tables table v row ≡ Ok c → Moves u v (c ∷ [])
  insertion_moves table row u v fit fit' c h h' =
      let place : Place = place_in lays table row in
      let fault : Option Refusal = row_refusal (columns_of table lays) row in
      let name : List ℕ = slice_index_or (names_of declared.tables) table [] in
      elim (cases_lt table (length lays)) [
        | inl there ↦
            let one : IsPutOn lays c u = insert_doable lays u name place row fault there refl c h in
            let other : IsPutOn lays c v = insert_doable lays v name place row fault there refl c h' in
            exact_moves u v fit fit' (c ∷ []) (one.puts, tt) (one.exact, tt) (other.exact, tt)
        | inr out ↦ still_moves u v fit fit' (c ∷ [])
            (insert_nothing lays u name place row fault (subst (λ n. n ≤ table) (sym fit.long) out) c h)
            (insert_nothing lays v name place row fault (subst (λ n. n ≤ table) (sym fit'.long) out) c h')
      ]

  -- New rows, on states that stand alike: each is read at its key, so that the snapshots hold the same there. Then so do the states, and
  -- what the row leaves stands alike again.
  insertions_alike : (table : ℕ) (rows : List RowValues) (u v : State) → Alike lays s o u v → IsState lays u → IsState lays v → Under lays (map OneRow (map (place_in lays table) rows)) s o
      → ArePutAlike u v (insertions declared.tables table u rows) (insertions declared.tables table v rows)
  insertions_alike table [] u v alike fit fit' under = record {
    same = refl;
    moves = λ changes e. subst (Moves u v) (ok_same [] changes e) (still_moves u v fit fit' [] refl refl);
  }
  insertions_alike table (row ∷ rest) u v alike fit fit' under =
      subst (λ made. ArePutAlike u v (and_then (insertion declared.tables table u row) (others u)) (and_then made (others v))) same
      (go (insertion declared.tables table u row) refl (sym same) (λ c first.
      insertions_alike table rest (state_after lays c u) (state_after lays c v) (first.alike s o alike) first.fit first.fit' (λ key m. under key (in_tail (OneRow place) keys key m))))
    where
      place : Place
      place = place_in lays table row

      keys : List LockKey
      keys = map OneRow (map (place_in lays table) rest)

      others : State → Change → Result (List Change) Refusal
      others w c = and_then (insertions declared.tables table (state_after lays c w) rest) (λ more. Ok (c ∷ more))

      same : insertion declared.tables table u row ≡ insertion declared.tables table v row
      same =
          ap (λ o. unless (row_refusal (columns_of table lays) row) (inserted_at (slice_index_or (names_of declared.tables) table []) place row o))
          (one_same lays u v fit.ordered fit'.ordered place (alike_under lays s o u v alike (OneRow place) (under (OneRow place) (in_head (OneRow place) keys))))

      go : (made : Result Change Refusal) → insertion declared.tables table u row ≡ made → insertion declared.tables table v row ≡ made
          → ((c : Change) → Moves u v (c ∷ []) → ArePutAlike (state_after lays c u) (state_after lays c v) (insertions declared.tables table (state_after lays c u) rest) (insertions declared.tables table (state_after lays c v) rest))
          → ArePutAlike u v (and_then made (others u)) (and_then made (others v))
      go (Err refusal) h h' more = record { same = refl; moves = λ changes e. cc }
      go (Ok c) h h' more =
          let first : Moves u v (c ∷ []) = insertion_moves table row u v fit fit' c h h' in
          put_behind u v c (insertions declared.tables table (state_after lays c u) rest) (insertions declared.tables table (state_after lays c v) rest) first (more c first)

  module _ (m : Immediates) (u v : State) (t : Together m u v) where
    abbrev at_u : Standing
    at_u = record { view = u; modes = m }

    abbrev at_v : Standing
    at_v = record { view = v; modes = m }

    same_refusal : (refusal : Refusal) (reads : List LockKey) → AreSame (refused_step at_u refusal reads) (refused_step at_v refusal reads)
    same_refusal refusal reads = record { reply = refl; reads = refl; after = (refl, t) }

    -- what the check of an effect reads
    abbrev checks_of : Effect → List LockKey
    checks_of effect = checks_read lays (state_after_all lays effect.changes u) (immediate_ones m all) (net_change lays u (state_after_all lays effect.changes u))

    does_same : (reads : List LockKey) (effect : Effect) → Moves u v effect.changes → Under lays (reads ++ checks_of effect) s o
        → AreSame (step_of_effect declared at_u reads (Ok effect)) (step_of_effect declared at_v reads (Ok effect))
    does_same reads effect moves under =
        let u' : State = state_after_all lays effect.changes u in
        let v' : State = state_after_all lays effect.changes v in
        let moved : Alike lays s o u' v' = moves.alike s o t.alike in
        let stepwise : Alike lays u v u' v' = moves.alike u v (alike_start lays u v) in
        let net : net_change lays u u' ≡ net_change lays v v' = net_same lays u v u' v' stepwise in
        let checks : List LockKey = checks_read lays u' (immediate_ones m all) (net_change lays u u') in
        let checked : Under lays checks u' v' = λ key c. alike_under lays s o u' v' moved key (under_right lays reads checks s o under key c) in
        let fault : violation lays (immediate_ones m all) u' ≡ violation lays (immediate_ones m all) v' =
        check_same lays (immediate_ones m all) u u' v v' t.fit moves.fit t.fit' moves.fit' stepwise (quiet_ones lays m u all t.quiet) (quiet_ones lays m v all t.quiet') checked
        in
        same_unless (violation lays (immediate_ones m all) u') (violation lays (immediate_ones m all) v') effect.reply at_u at_v (record { view = u'; modes = m }) (record { view = v'; modes = m })
        (reads ++ checks) (reads ++ checks_read lays v' (immediate_ones m all) (net_change lays v v')) fault
        (ap (λ checks. reads ++ checks) (reads_same lays (immediate_ones m all) (net_change lays u u') u' v' moves.fit moves.fit' checked ∙ ap (checks_read lays v' (immediate_ones m all)) net)) (refl, t)
        (λ none none'. (
          refl,
          record {
            alike = moved;
            fit = moves.fit;
            fit' = moves.fit';
            quiet = ones_quiet lays m u' all (quiet_from lays (immediate_ones m all) u' none);
            quiet' = ones_quiet lays m v' all (quiet_from lays (immediate_ones m all) v' none');
            long = t.long;
          },
        ))

    -- refused by its check or not, an effect has read both
    both_under : (reads : List LockKey) (effect : Effect) → Under lays (step_of_effect declared at_u reads (Ok effect)).reads s o → Under lays (reads ++ checks_of effect) s o
    both_under reads effect under =
        let u' : State = state_after_all lays effect.changes u in
        subst (λ keys. Under lays keys s o) (reads_are (violation lays (immediate_ones m all) u') effect.reply at_u (record { view = u'; modes = m }) (reads ++ checks_of effect)) under

    own_under : (reads : List LockKey) (effect : Result Effect Refusal) → Under lays (step_of_effect declared at_u reads effect).reads s o → Under lays reads s o
    own_under reads (Err refusal) under = under
    own_under reads (Ok effect) under = under_left lays reads (checks_of effect) s o (both_under reads effect under)

    -- where one key is read, the two states hold the same under it
    one_under : (read : LockKey) (effect : Result Effect Refusal) → Under lays (step_of_effect declared at_u (read ∷ []) effect).reads s o → SameUnder (row_in lays) read u v
    one_under read effect under = alike_under lays s o u v t.alike read (own_under (read ∷ []) effect under read (in_head read []))

    effect_same : (reads : List LockKey) (effect : Result Effect Refusal) → ((e : Effect) → effect ≡ Ok e → Moves u v e.changes) → Under lays (step_of_effect declared at_u reads effect).reads s o
        → AreSame (step_of_effect declared at_u reads effect) (step_of_effect declared at_v reads effect)
    effect_same reads (Err refusal) moves under = same_refusal refusal reads
    effect_same reads (Ok effect) moves under = does_same reads effect (moves effect refl) (both_under reads effect under)

    -- the effects on the two states, where they are the same
    effects_same : (reads : List LockKey) (effect effect' : Result Effect Refusal) → effect ≡ effect' → ((e : Effect) → effect ≡ Ok e → effect' ≡ Ok e → Moves u v e.changes)
        → Under lays (step_of_effect declared at_u reads effect).reads s o
        → AreSame (step_of_effect declared at_u reads effect) (step_of_effect declared at_v reads effect')
    effects_same reads effect effect' same moves under =
        subst (λ x. AreSame (step_of_effect declared at_u reads effect) (step_of_effect declared at_v reads x)) same
        (effect_same reads effect (λ e h. moves e h (sym same ∙ h)) under)

    doable_moves : (e : Effect) → IsDoable lays e u → IsDoable lays e v → Moves u v e.changes
    doable_moves e d d' = exact_moves u v t.fit t.fit' e.changes d.puts d.exact d'.exact

    insert_same : (new : NewRows) → Under lays (step_alone declared s at_u (Insert new)).reads s o → AreSame (step_alone declared s at_u (Insert new)) (step_alone declared o at_v (Insert new))
    insert_same new under =
        let reads : List LockKey = map OneRow (places_in lays new) in
        let made : State → Result (List Change) Refusal = λ w. insertions declared.tables new.table w new.rows in
        let done : List Change → Effect = λ changes. record { reply = Inserted (length new.rows); changes = changes } in
        let next : List Change → Result Effect Refusal = λ changes. Ok (done changes) in
        let put : ArePutAlike u v (made u) (made v) = insertions_alike new.table new.rows u v t.alike t.fit t.fit' (own_under reads (insert_effect declared.tables new u) under) in
        effects_same reads (insert_effect declared.tables new u) (insert_effect declared.tables new v) (ap (λ changes. and_then changes next) put.same)
        (λ e h h'.
        let found = and_then_ok (made u) next e h in
        subst (λ (e : Effect). Moves u v e.changes) (ok_same (done found.0) e found.1.1) (put.moves found.0 found.1.0))
        under

    is_ok : (fault : Option Refusal) (e f : Effect) → unless fault (Ok e) ≡ Ok f → e ≡ f
    is_ok None e f h = cc
    is_ok (Some fault) e f h = cc

    update_same : (table : ℕ) (sets : List Setting) (restriction : Cond) → sets_key (key_of table lays) sets ≡ false
        → Under lays (step_of_effect declared at_u (filter_key table (key_of table lays) restriction ∷ []) (update_effect (columns_of table lays) table (key_of table lays) sets (found_rows u table restriction))).reads s o
        → AreSame (step_of_effect declared at_u (filter_key table (key_of table lays) restriction ∷ []) (update_effect (columns_of table lays) table (key_of table lays) sets (found_rows u table restriction)))
        (step_of_effect declared at_v (filter_key table (key_of table lays) restriction ∷ []) (update_effect (columns_of table lays) table (key_of table lays) sets (found_rows v table restriction)))
    update_same table sets restriction leaves under =
        let does : State → Effect = λ w. record { reply = Updated (length (found_rows w table restriction)); changes = map (renewal table (key_of table lays) sets) (found_rows w table restriction) } in
        let effect : State → Result Effect Refusal = λ w. update_effect (columns_of table lays) table (key_of table lays) sets (found_rows w table restriction) in
        effects_same (filter_key table (key_of table lays) restriction ∷ []) (effect u) (effect v)
        (ap (update_effect (columns_of table lays) table (key_of table lays) sets) (found_same lays u v t.fit.ordered t.fit'.ordered table restriction (one_under (filter_key table (key_of table lays) restriction) (effect u) under)))
        (λ e h h'. doable_moves e
        (subst (λ e. IsDoable lays e u) (is_ok (update_fault (columns_of table lays) sets (found_rows u table restriction)) (does u) e h) (update_doable lays u t.fit table sets restriction leaves))
        (subst (λ e. IsDoable lays e v) (is_ok (update_fault (columns_of table lays) sets (found_rows v table restriction)) (does v) e h') (update_doable lays v t.fit' table sets restriction leaves)))
        under

    delete_same : (table : ℕ) (restriction : Cond)
        → Under lays (step_of_effect declared at_u (filter_key table (key_of table lays) restriction ∷ []) (Ok (delete_effect table (key_of table lays) (found_rows u table restriction)))).reads s o
        → AreSame (step_of_effect declared at_u (filter_key table (key_of table lays) restriction ∷ []) (Ok (delete_effect table (key_of table lays) (found_rows u table restriction))))
        (step_of_effect declared at_v (filter_key table (key_of table lays) restriction ∷ []) (Ok (delete_effect table (key_of table lays) (found_rows v table restriction))))
    delete_same table restriction under =
        let does : State → Effect = λ w. delete_effect table (key_of table lays) (found_rows w table restriction) in
        effects_same (filter_key table (key_of table lays) restriction ∷ []) (Ok (does u)) (Ok (does v))
        (ap (λ rows. Ok (delete_effect table (key_of table lays) rows)) (found_same lays u v t.fit.ordered t.fit'.ordered table restriction (one_under (filter_key table (key_of table lays) restriction) (Ok (does u)) under)))
        (λ e h h'. doable_moves e
        (subst (λ e. IsDoable lays e u) (is_ok None (does u) e h) (delete_doable lays u t.fit table restriction))
        (subst (λ e. IsDoable lays e v) (is_ok None (does v) e h') (delete_doable lays v t.fit' table restriction)))
        under

    asked_same : (name : List ℕ) (a : Option Assertion) → Under lays (verdict_step declared a name at_u).reads s o → AreSame (verdict_step declared a name at_u) (verdict_step declared a name at_v)
    asked_same name None under = record { reply = refl; reads = refl; after = (refl, t) }
    asked_same name (Some a) under = record {
      reply = ap (λ truth. Ok (Truthful truth)) (verdict_same lays u v t.fit.ordered t.fit'.ordered a.form (λ table c. alike_under lays s o u v t.alike (WholeTable table) (under (WholeTable table) (in_map WholeTable (tables_in a.form) table c))));
      reads = refl;
      after = (refl, t);
    }

    -- SET CONSTRAINTS
    sound_quiet : (chosen : List ℕ → Bool) (state : State) → IsSound declared state → AreQuiet lays state (filter (λ a. chosen a.name) all)
    sound_quiet chosen state fine = each_filter (λ a. least_bad_of lays a.form state ≡ None) (λ a. chosen a.name) all (quiet_from lays all state fine.good)

    modes_same : (names : List (List ℕ)) (immediate : Bool) → Under lays (modes_step declared s names immediate at_u).reads s o → AreSame (modes_step declared s names immediate at_u) (modes_step declared o names immediate at_v)
    modes_same names false under = record {
      reply = refl;
      reads = refl;
      after = (
        refl,
        record {
          alike = t.alike;
          fit = t.fit;
          fit' = t.fit';
          quiet = quiet_deferred lays names m u all t.quiet;
          quiet' = quiet_deferred lays names m v all t.quiet';
          long = set_long names false all m t.long;
        },
      );
    }
    modes_same names true under =
        let net : net_change lays s u ≡ net_change lays o v = net_same lays s o u v t.alike in
        let now : Standing = record { view = u; modes = modes_with names true all m } in
        let checks : List LockKey = checks_read lays u (named_ones names all) (net_change lays s u) in
        let keys : Under lays checks s o = subst (λ keys. Under lays keys s o) (reads_are (violation lays (named_ones names all) u) ModesSet at_u now checks) under in
        let checked : Under lays checks u v = λ key c. alike_under lays s o u v t.alike key (keys key c) in
        let fault : violation lays (named_ones names all) u ≡ violation lays (named_ones names all) v =
        check_same lays (named_ones names all) s u o v sound.fit t.fit sound'.fit t.fit' t.alike (sound_quiet (is_named names) s sound) (sound_quiet (is_named names) o sound') checked
        in
        same_unless (violation lays (named_ones names all) u) (violation lays (named_ones names all) v) ModesSet at_u at_v now (record { view = v; modes = modes_with names true all m })
        checks (checks_read lays v (named_ones names all) (net_change lays o v)) fault
        (reads_same lays (named_ones names all) (net_change lays s u) u v t.fit t.fit' checked ∙ ap (checks_read lays v (named_ones names all)) net) (refl, t)
        (λ none none'. (
          refl,
          record {
            alike = t.alike;
            fit = t.fit;
            fit' = t.fit';
            quiet = quiet_immediate lays names m u all t.quiet (quiet_of lays (is_named names) u all (quiet_from lays (named_ones names all) u none));
            quiet' = quiet_immediate lays names m v all t.quiet' (quiet_of lays (is_named names) v all (quiet_from lays (named_ones names all) v none'));
            long = set_long names true all m t.long;
          },
        ))

    -- one statement
    statement_same : (statement : ResolvedStatement) → Under lays (step_alone declared s at_u statement).reads s o → AreSame (step_alone declared s at_u statement) (step_alone declared o at_v statement)
    statement_same (Refuse refusal) under = same_refusal refusal []
    statement_same (Insert new) under = insert_same new under
    statement_same (Update x) under = go (sets_key (key_of x.table lays) x.sets) refl under
      where
        step : Standing → Step
        step now = step_of_effect declared now (filter_key x.table (key_of x.table lays) x.filter ∷ []) (update_effect (columns_of x.table lays) x.table (key_of x.table lays) x.sets (found_rows now.view x.table x.filter))

        fault : Refusal
        fault = KeyUpdate (key_name lays x.table)

        go : (b : Bool) → sets_key (key_of x.table lays) x.sets ≡ b → Under lays (unless_key b fault at_u (step at_u)).reads s o → AreSame (unless_key b fault at_u (step at_u)) (unless_key b fault at_v (step at_v))
        go true e under = same_refusal fault []
        go false leaves under = update_same x.table x.sets x.filter leaves under
    statement_same (Delete x) under = delete_same x.table x.filter under
    statement_same (Select x) under =
        let read : LockKey = filter_key x.table (key_of x.table lays) x.filter in
        record {
          reply = ap (λ rows. Ok (Rows (listed_rows x.listing rows))) (found_same lays u v t.fit.ordered t.fit'.ordered x.table x.filter (alike_under lays s o u v t.alike read (under read (in_head read []))));
          reads = refl;
          after = (refl, t);
        }
    statement_same (SetModes names mode) under = modes_same names (is_immediate mode) under
    statement_same (Verdict name) under = asked_same name (assertion_of name all) under

  step_same : (one other : Standing) → AreTogether one other → (statement : ResolvedStatement) → Under lays (step_alone declared s one statement).reads s o → AreSame (step_alone declared s one statement) (step_alone declared o other statement)
  step_same one other t statement under =
      subst (λ modes. AreSame (step_alone declared s one statement) (step_alone declared o (record { view = other.view; modes = modes }) statement)) t.0
      (statement_same one.modes one.view other.view t.1 statement under)

  -- two runs answer and read the same, and end alike
  pub record RunAlike (p q : Run) : Type 0 where
    pub replies : p.replies ≡ q.replies
    pub reads : p.reads ≡ q.reads
    pub final : AreTogether p.final q.final

  pub ran_same : (trace : List ResolvedStatement) → (one other : Standing) → AreTogether one other → Under lays (ran declared s one trace).reads s o → RunAlike (ran declared s one trace) (ran declared o other trace)
  ran_same [] one other t under = record { replies = refl; reads = refl; final = t }
  ran_same (statement ∷ rest) one other t under =
      let p : Step = step_alone declared s one statement in
      let q : Step = step_alone declared o other statement in
      let step : AreSame p q = step_same one other t statement (under_left lays p.reads (ran declared s p.after rest).reads s o under) in
      let more : RunAlike (ran declared s p.after rest) (ran declared o q.after rest) = ran_same rest p.after q.after step.after (under_right lays p.reads (ran declared s p.after rest).reads s o under) in
      record {
        replies = λ i. step.reply i ∷ more.replies i;
        reads = λ i. step.reads i ++ more.reads i;
        final = more.final;
      }

  pub at_begin : AreTogether (record { view = s; modes = initial_modes all }) (record { view = o; modes = initial_modes all })
  at_begin = (
    refl,
    record {
      alike = alike_start lays s o;
      fit = sound.fit;
      fit' = sound'.fit;
      quiet = quiet_in lays (initial_modes all) s all (quiet_from lays all s sound.good);
      quiet' = quiet_in lays (initial_modes all) o all (quiet_from lays all o sound'.good);
      long = length-map all (λ a. not a.attributes.initially_deferred);
    },
  )

  module _ (trace : List ResolvedStatement) (under : Under lays (transaction_keys declared trace s) s o) where
    abbrev end : State → State
    end w = (run_on declared trace w).final.view

    -- what is deferred at COMMIT
    abbrev late : List Assertion
    late = deferred_ones (run_on declared trace s).final.modes all

    abbrev checks : List LockKey
    checks = checks_read lays (end s) late (net_change lays s (end s))

    run_alike : RunAlike (run_on declared trace s) (run_on declared trace o)
    run_alike = ran_same trace (record { view = s; modes = initial_modes all }) (record { view = o; modes = initial_modes all }) at_begin
        (under_left lays (run_on declared trace s).reads checks s o under)

    net_alike : net_change lays s (end s) ≡ net_change lays o (end o)
    net_alike = net_same lays s o (end s) (end o) run_alike.final.1.alike

    checked_alike : Under lays checks (end s) (end o)
    checked_alike key c =
        alike_under lays s o (end s) (end o) run_alike.final.1.alike key (under_right lays (run_on declared trace s).reads checks s o under key c)

    checks_alike : checks ≡ checks_read lays (end o) (deferred_ones (run_on declared trace o).final.modes all) (net_change lays o (end o))
    checks_alike =
        let ended = run_alike.final.1 in
        reads_same lays late (net_change lays s (end s)) (end s) (end o) ended.fit ended.fit' checked_alike
        ∙ ap (checks_read lays (end o) late) net_alike
        ∙ ap (λ (modes : Immediates). checks_read lays (end o) (deferred_ones modes all) (net_change lays o (end o))) run_alike.final.0

    -- an assertion that is immediate is false at neither end
    refused_alike : violation lays all (end s) ≡ violation lays all (end o)
    refused_alike =
        let ended = run_alike.final.1 in
        let modes : Immediates = (run_on declared trace s).final.modes in
        violation_deferred lays modes (end s) all ended.long ended.quiet
        ∙ check_same lays late s (end s) o (end o) sound.fit ended.fit sound'.fit ended.fit' ended.alike
        (quiet_deferred_ones lays modes s all (quiet_from lays all s sound.good)) (quiet_deferred_ones lays modes o all (quiet_from lays all o sound'.good)) checked_alike
        ∙ sym (violation_deferred lays modes (end o) all ended.long ended.quiet')

    pub outcome_same : transaction declared trace o ≡ transaction declared trace s
    outcome_same = sym (λ i. record { replies = run_alike.replies i; changes = net_alike i; refused = refused_alike i })

    pub keys_same : transaction_keys declared trace o ≡ transaction_keys declared trace s
    keys_same = sym (λ i. run_alike.reads i ++ checks_alike i)

    pub final_fit : IsState lays (run_on declared trace s).final.view
    final_fit = run_alike.final.1.fit

-- an accepted transaction leaves a sound state
pub leaves_sound : (declared : Declared) (trace : List ResolvedStatement) (s : State) → IsSound declared s → (transaction declared trace s).refused ≡ None
    → IsSound declared (state_after_all (layouts_in declared) (transaction declared trace s).changes s)
leaves_sound declared trace s sound accepted =
    let fit : IsState (layouts_in declared) (run_on declared trace s).final.view = final_fit declared s s sound sound trace (λ key c place. refl) in
    subst (IsSound declared) (sym (put_net (layouts_in declared) s (run_on declared trace s).final.view sound.fit fit)) (record { fit = fit; good = accepted })

-- a change has the old row that stands in the snapshot's state
pub change_exact : (declared : Declared) (trace : List ResolvedStatement) (s : State) (change : Change) → Contains (transaction declared trace s).changes change → row_in (layouts_in declared) s (place_of change) ≡ change.old
change_exact declared trace s change m = sym (ap (λ c. c.old) (net_exact (layouts_in declared) s (run_on declared trace s).final.view change m).0)
