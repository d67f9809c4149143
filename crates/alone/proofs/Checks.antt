-- A check finds the same violation on two states that moved alike and hold the same rows under the keys that it reads.
use Rattle.std.proofs.Common.{◌≡◌, ℕ, Bool, true, false, cond, not, List, [], ◌∷◌, ◌++◌, Option, Some, None, length, refl, sym, ap, ◌∙◌, subst, inl, inr, map, filter, arith}
use Rattle.std.specs.Prelude.{flat_map}
use Rattle.std.proofs.lemmas.Bool.{cases_Bool}
use Rattle.value.specs.declared.values.Root.{Root}
use Rattle.value.specs.declared.refusals.Refusal.{Refusal}
use Rattle.value.specs.ValueOrder.{root_cmp}
use Rattle.value.specs.Ordered.{least}
use Rattle.value.proofs.OrderedLists.{has}
use Rattle.value.proofs.ValueOrders.{root_cmp_total, root_exact}
use Rattle.table.specs.declared.rows.Change.{Change}
use Rattle.table.specs.Rows.{Layout}
use Rattle.table.proofs.DistinctLemmas.{least_same}
use Rattle.assertion.specs.declared.assertions.Assertion.{Assertion}
use Rattle.assertion.specs.declared.forms.Form.{Form}
use Rattle.assertion.specs.Meaning.{State, bad_roots, least_bad_of}
use Rattle.assertion.specs.Candidates.{candidates_of}
use Rattle.assertion.specs.Roots.{is_bad_root}
use Rattle.assertion.specs.Changes.{IsOrdered, AreChangesOf, state_after_all}
use Rattle.assertion.proofs.ListLemmas.{contains-has}
use Rattle.assertion.proofs.BadRoots.{has-bad}
use Rattle.assertion.proofs.KeptTruth.{kept_truth-all}
use Rattle.siread.specs.declared.keys.LockKey.{LockKey}
use Rattle.siread.specs.Keys.{AlikeUnder}
use Rattle.alone.specs.States.{row_in, IsState, IsPut, net_change}
use Rattle.alone.specs.Checks.{keys_for, finding_keys, check_keys, refusal_at, violation, checks_read}
use Rattle.std.specs.List.{zip}
use Rattle.alone.specs.Modes.{Immediates, deferred_ones, immediate_ones, is_named, modes_with, opposite_modes}
use Rattle.alone.proofs.Lists.{Each, each_at}
use Rattle.alone.proofs.Members.{in_left, in_right, in_flat}
use Rattle.alone.proofs.Nets.{Alike, net_same, net_exact, net_puts, put_net}
use Rattle.alone.proofs.Orders.{due_changes, net_in_order}
use Rattle.alone.proofs.Forms.{root_same, candidates_same, check_keys_same}

none_in : (xs : List Root) → least root_cmp xs ≡ None → (r : Root) → has root_cmp r xs ≡ false
none_in [] h r = refl
none_in (x ∷ xs) h r = cc

pub none_first : (name : List ℕ) (o : Option Root) (rest : Option Refusal) → refusal_at name o rest ≡ None → (o ≡ None) × (rest ≡ None)
none_first name None rest h = (refl, h)
none_first name (Some root) rest h = let no : ⊥ = cc in absurd no

module _ (layouts : List Layout) where
  abbrev pub Under : List LockKey → State → State → Type 0
  Under keys one other = AlikeUnder (row_in layouts) keys one other

  pub under_left : (xs ys : List LockKey) (one other : State) → Under (xs ++ ys) one other → Under xs one other
  under_left xs ys one other h key m = h key (in_left xs ys key m)

  pub under_right : (xs ys : List LockKey) (one other : State) → Under (xs ++ ys) one other → Under ys one other
  under_right xs ys one other h key m = h key (in_right xs ys key m)

  -- no assertion of the list is false on the state
  abbrev pub AreQuiet : State → List Assertion → Type 0
  AreQuiet state assertions = Each (λ a. least_bad_of layouts a.form state ≡ None) assertions

  pub quiet_from : (assertions : List Assertion) (state : State) → violation layouts assertions state ≡ None → AreQuiet state assertions
  quiet_from [] state h = tt
  quiet_from (a ∷ rest) state h =
      let both = none_first a.name (least_bad_of layouts a.form state) (violation layouts rest state) h in
      (both.0, quiet_from rest state both.1)

  not_bad : (form : Form) (state : State) → IsOrdered layouts state → least_bad_of layouts form state ≡ None → (r : Root) → is_bad_root layouts form state r ≡ false
  not_bad form state f h r = sym (has-bad layouts form state f r) ∙ none_in (bad_roots layouts form state) h r

  -- the net change is put in one after the other
  net_due : (before after : State) → IsState layouts before → AreChangesOf layouts (net_change layouts before after) before
  net_due before after f = due_changes layouts before f (net_change layouts before after) (record {
    in_order = net_in_order layouts before after;
    exact = λ c m. sym (ap (λ (c : Change). c.old) (net_exact layouts before after c m).0);
    puts = λ c m. each_at (IsPut layouts) (net_change layouts before after) (net_puts layouts before after) c m;
  })

  -- a root that is no candidate of the net change stays as it was
  pub others_stay : (form : Form) (before after : State) → IsState layouts before → IsState layouts after → (r : Root) → has root_cmp r (candidates_of layouts after (net_change layouts before after) form) ≡ false
      → is_bad_root layouts form before r ≡ is_bad_root layouts form after r
  others_stay form before after f g r none =
      let changes : List Change = net_change layouts before after in
      let led : state_after_all layouts changes before ≡ after = put_net layouts before after f g in
      sym (kept_truth-all layouts changes before (net_due before after f) f.ordered form r (ap (λ state. has root_cmp r (candidates_of layouts state changes form)) led ∙ none))
      ∙ ap (λ state. is_bad_root layouts form state r) led

  -- whether a root is bad, after two pairs of states moved alike
  bad_same : (form : Form) (b w b' w' : State) → IsState layouts b → IsState layouts w → IsState layouts b' → IsState layouts w' → Alike layouts b b' w w'
      → least_bad_of layouts form b ≡ None → least_bad_of layouts form b' ≡ None → Under (check_keys layouts w form (net_change layouts b w)) w w' → (r : Root) → is_bad_root layouts form w r ≡ is_bad_root layouts form w' r
  bad_same form b w b' w' fb fw fb' fw' alike q q' under r =
      let changes : List Change = net_change layouts b w in
      let finding : List LockKey = flat_map (finding_keys layouts form) changes in
      let roots : List Root = candidates_of layouts w changes form in
      let looks : List LockKey = flat_map (keys_for layouts w form) roots in
      let alike_roots : candidates_of layouts w' (net_change layouts b' w') form ≡ roots =
      sym (candidates_same layouts w w' fw.ordered fw'.ordered form changes (under_left finding looks w w' under) ∙ ap (λ changes. candidates_of layouts w' changes form) (net_same layouts b b' w w' alike)) in
      elim (cases_Bool (has root_cmp r roots)) [
        | inl candidate ↦ root_same layouts w w' fw.ordered fw'.ordered form r (λ key m. under key (in_right finding looks key (in_flat (keys_for layouts w form) roots r key (contains-has root_exact roots r candidate) m)))
        | inr none ↦
            sym (others_stay form b w fb fw r none)
            ∙ not_bad form b fb.ordered q r ∙ sym (not_bad form b' fb'.ordered q' r)
            ∙ others_stay form b' w' fb' fw' r (ap (has root_cmp r) alike_roots ∙ none)
      ]

  -- a check over the net change reads the same, after two pairs of states moved alike
  pub reads_same : (assertions : List Assertion) (changes : List Change) (w w' : State) → IsState layouts w → IsState layouts w' → Under (checks_read layouts w assertions changes) w w'
      → checks_read layouts w assertions changes ≡ checks_read layouts w' assertions changes
  reads_same [] changes w w' f g under = refl
  reads_same (a ∷ rest) changes w w' f g under =
      let first : List LockKey = check_keys layouts w a.form changes in
      let others : List LockKey = checks_read layouts w rest changes in
      let e : first ≡ check_keys layouts w' a.form changes = check_keys_same layouts w w' f.ordered g.ordered a.form changes (under_left first others w w' under) in
      let es : others ≡ checks_read layouts w' rest changes = reads_same rest changes w w' f g (under_right first others w w' under) in
      λ i. e i ++ es i

  pub check_same : (assertions : List Assertion) (b w b' w' : State) → IsState layouts b → IsState layouts w → IsState layouts b' → IsState layouts w' → Alike layouts b b' w w'
      → AreQuiet b assertions → AreQuiet b' assertions → Under (checks_read layouts w assertions (net_change layouts b w)) w w' → violation layouts assertions w ≡ violation layouts assertions w'
  check_same [] b w b' w' fb fw fb' fw' alike q q' under = refl
  check_same (a ∷ rest) b w b' w' fb fw fb' fw' alike q q' under =
      let bad : (r : Root) → is_bad_root layouts a.form w r ≡ is_bad_root layouts a.form w' r
      = bad_same a.form b w b' w' fb fw fb' fw' alike q.0 q'.0 (under_left (check_keys layouts w a.form (net_change layouts b w)) (checks_read layouts w rest (net_change layouts b w)) w w' under) in
      let least : least_bad_of layouts a.form w ≡ least_bad_of layouts a.form w' =
      least_same root_cmp_total root_exact (bad_roots layouts a.form w) (bad_roots layouts a.form w') (λ r. has-bad layouts a.form w fw.ordered r ∙ bad r ∙ sym (has-bad layouts a.form w' fw'.ordered r)) in
      let more : violation layouts rest w ≡ violation layouts rest w' =
      check_same rest b w b' w' fb fw fb' fw' alike q.1 q'.1 (under_right (check_keys layouts w a.form (net_change layouts b w)) (checks_read layouts w rest (net_change layouts b w)) w w' under) in
      λ i. refusal_at a.name (least i) (more i)

  -- those of a name among some are not false
  abbrev pub AreQuietOf : (List ℕ → Bool) → State → List Assertion → Type 0
  AreQuietOf chosen state assertions = Each (λ a. chosen a.name ≡ true → least_bad_of layouts a.form state ≡ None) assertions

  pub quiet_of : (chosen : List ℕ → Bool) (state : State) (assertions : List Assertion) → AreQuiet state (filter (λ a. chosen a.name) assertions) → AreQuietOf chosen state assertions
  quiet_of chosen state [] h = tt
  quiet_of chosen state (a ∷ rest) h = elim (cases_Bool (chosen a.name)) [
    | inl on ↦
        let all : AreQuiet state (a ∷ filter (λ a. chosen a.name) rest) = subst (λ b. AreQuiet state (cond b (a ∷ filter (λ a. chosen a.name) rest) (filter (λ a. chosen a.name) rest))) on h in
        (λ e. all.0, quiet_of chosen state rest all.1)
    | inr off ↦
        let all : AreQuiet state (filter (λ a. chosen a.name) rest) = subst (λ b. AreQuiet state (cond b (a ∷ filter (λ a. chosen a.name) rest) (filter (λ a. chosen a.name) rest))) off h in
        (λ e. cc, quiet_of chosen state rest all)
  ]

  -- of assertions beside their modes, those that are immediate are not false
  abbrev pub AreQuietBeside : State → List (Assertion × Bool) → Type 0
  AreQuietBeside state pairs = Each (λ p. p.1 ≡ true → least_bad_of layouts p.0.form state ≡ None) pairs

  abbrev pub AreQuietIn : Immediates → State → List Assertion → Type 0
  AreQuietIn modes state assertions = AreQuietBeside state (zip assertions modes)

  abbrev ones : List (Assertion × Bool) → List Assertion
  ones pairs = map (λ p. p.0) (filter (λ p. p.1) pairs)

  quiet_beside : (state : State) (pairs : List (Assertion × Bool)) → AreQuietBeside state pairs → AreQuiet state (ones pairs)
  quiet_beside state [] h = tt
  quiet_beside state (p ∷ rest) h = go (quiet_beside state rest h.1) p.1 refl
    where
      go : AreQuiet state (ones rest) → (b : Bool) → p.1 ≡ b → AreQuiet state (map (λ p. p.0) (cond b (p ∷ filter (λ p. p.1) rest) (filter (λ p. p.1) rest)))
      go more true e = (h.0 e, more)
      go more false e = more

  beside_quiet : (state : State) (pairs : List (Assertion × Bool)) → AreQuiet state (ones pairs) → AreQuietBeside state pairs
  beside_quiet state [] h = tt
  beside_quiet state (p ∷ rest) h = elim (cases_Bool p.1) [
    | inl on ↦
        let all : AreQuiet state (p.0 ∷ ones rest) = subst (λ b. AreQuiet state (map (λ p. p.0) (cond b (p ∷ filter (λ p. p.1) rest) (filter (λ p. p.1) rest)))) on h in
        (λ e. all.0, beside_quiet state rest all.1)
    | inr off ↦
        let all : AreQuiet state (ones rest) = subst (λ b. AreQuiet state (map (λ p. p.0) (cond b (p ∷ filter (λ p. p.1) rest) (filter (λ p. p.1) rest)))) off h in
        (λ e. cc, beside_quiet state rest all)
  ]

  pub quiet_ones : (modes : Immediates) (state : State) (assertions : List Assertion) → AreQuietIn modes state assertions → AreQuiet state (immediate_ones modes assertions)
  quiet_ones modes state assertions h = quiet_beside state (zip assertions modes) h

  pub ones_quiet : (modes : Immediates) (state : State) (assertions : List Assertion) → AreQuiet state (immediate_ones modes assertions) → AreQuietIn modes state assertions
  ones_quiet modes state assertions h = beside_quiet state (zip assertions modes) h

  -- whatever the modes, where none is false
  pub quiet_in : (modes : Immediates) (state : State) (assertions : List Assertion) → AreQuiet state assertions → AreQuietIn modes state assertions
  quiet_in modes state [] h = tt
  quiet_in [] state (a ∷ rest) h = tt
  quiet_in (m ∷ ms) state (a ∷ rest) h = (λ e. h.0, quiet_in ms state rest h.1)

  -- and after the modes of some names are set
  pub quiet_deferred : (names : List (List ℕ)) (modes : Immediates) (state : State) (assertions : List Assertion) → AreQuietIn modes state assertions
      → AreQuietIn (modes_with names false assertions modes) state assertions
  quiet_deferred names modes state [] h = tt
  quiet_deferred names [] state (a ∷ rest) h = tt
  quiet_deferred names (m ∷ ms) state (a ∷ rest) h = (λ e. h.0 (unset (is_named names a.name) m e), quiet_deferred names ms state rest h.1)
    where
      unset : (b c : Bool) → cond b false c ≡ true → c ≡ true
      unset true c h = cc
      unset false c h = h

  pub quiet_immediate : (names : List (List ℕ)) (modes : Immediates) (state : State) (assertions : List Assertion) → AreQuietIn modes state assertions
      → AreQuietOf (is_named names) state assertions → AreQuietIn (modes_with names true assertions modes) state assertions
  quiet_immediate names modes state [] h p = tt
  quiet_immediate names [] state (a ∷ rest) h p = tt
  quiet_immediate names (m ∷ ms) state (a ∷ rest) h p = ((λ e. either (is_named names a.name) refl e), quiet_immediate names ms state rest h.1 p.1)
    where
      either : (b : Bool) → is_named names a.name ≡ b → cond (is_named names a.name) true m ≡ true → least_bad_of layouts a.form state ≡ None
      either true e g = p.0 e
      either false e g = h.0 (sym (ap (λ b. cond b true m) e) ∙ g)

  -- of those that are deferred, where none of all is false
  pub quiet_deferred_ones : (modes : Immediates) (state : State) (assertions : List Assertion) → AreQuiet state assertions → AreQuiet state (deferred_ones modes assertions)
  quiet_deferred_ones modes state assertions h = quiet_ones (opposite_modes modes) state assertions (quiet_in (opposite_modes modes) state assertions h)

  -- where none is false that is immediate, the first that is false is the first of those that are deferred
  pub violation_deferred : (modes : Immediates) (state : State) (assertions : List Assertion) → length modes ≡ length assertions → AreQuietIn modes state assertions
      → violation layouts assertions state ≡ violation layouts (deferred_ones modes assertions) state
  violation_deferred [] state [] e h = refl
  violation_deferred (m ∷ ms) state [] e h = refl
  violation_deferred [] state (a ∷ rest) e h = absurd (omega (arith, e))
  violation_deferred (m ∷ ms) state (a ∷ rest) e h = go m h.0 (violation_deferred ms state rest (omega (arith, e)) h.1)
    where
      others : List (Assertion × Bool)
      others = filter (λ p. p.1) (zip rest (opposite_modes ms))

      go : (b : Bool) → (b ≡ true → least_bad_of layouts a.form state ≡ None) → violation layouts rest state ≡ violation layouts (deferred_ones ms rest) state
          → violation layouts (a ∷ rest) state ≡ violation layouts (map (λ p. p.0) (cond (not b) ((a, not b) ∷ others) others)) state
      go true quiet more = ap (λ o. refusal_at a.name o (violation layouts rest state)) (quiet refl) ∙ more
      go false quiet more = ap (refusal_at a.name (least_bad_of layouts a.form state)) more
