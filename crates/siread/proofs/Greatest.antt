-- The greatest of the last readers that stand in the families, of those that reach so far, is the greatest reader of a
-- key that is touched.
use Rattle.std.proofs.Common.{◌≡◌, ℕ, zero, ◌≤◌, Bool, true, false, cond, List, [], ◌∷◌, ◌++◌, Option, Some, None, max, inl, inr, ◌⊎◌, refl, sym, ap, ◌∙◌, subst, arith}
use Rattle.std.specs.Prelude.{Contains, ◌||◌, ◌==◌, unwrap_or}
use Rattle.std.specs.List.{AllByRecursion, IsDistinct}
use Rattle.std.specs.Map.{lookup, keys_of}
use Rattle.std.proofs.lemmas.Bool.{and_from, and_parts, cases_Bool, cases_lt, or_cases, or_left, or_right}
use Rattle.std.proofs.Math.Bool.{or-false}
use Rattle.std.proofs.lemmas.List.Folds.{list_any-append}
use Rattle.value.specs.declared.values.Value.TheVariants.{Null}
use Rattle.table.specs.declared.rows.Change.{Change}
use Rattle.table.specs.Rows.{RowValues, value_in}
use Rattle.siread.specs.declared.keys.Place.{Place}
use Rattle.siread.specs.declared.keys.Family.{Family}
use Rattle.siread.specs.declared.keys.Family.TheVariants.{Rows, Column, Table}
use Rattle.siread.specs.declared.keys.LockKey.{LockKey}
use Rattle.siread.specs.declared.keys.LockKey.TheVariants.{Row as OneRow, Column as InColumn, Table as WholeTable}
use Rattle.siread.specs.Keys.{holds, place_of, same_value, touches}
use Rattle.siread.specs.Families.{ValueReaders, family_of, last_in, last_over, readers_of, same_family, value_of}
use Rattle.siread.specs.Readers.{ReachNoFurther, last_reaching, reach_of}
use Rattle.siread.specs.Locks.{AreAscending, IsGreatestReader, Locks, Reads, in_family, last_touched, readers_at, touch}
use Rattle.siread.proofs.KeyOrder.{same_family-true, same_family-refl, same_value-true, same_value-refl}
use Rattle.siread.proofs.Lasts.{last_is_greatest, last_there}

-- one family more
pub in_first : (e : Family × ValueReaders) (es : Locks) (family : Family) → same_family family e.0 ≡ true → in_family (e ∷ es) family ≡ e.1
in_first e es family same = ap (λ b. unwrap_or (cond b (Some e.1) (lookup (same_family family) es)) []) same

pub in_others : (e : Family × ValueReaders) (es : Locks) (family : Family) → same_family family e.0 ≡ false → in_family (e ∷ es) family ≡ in_family es family
in_others e es family apart = ap (λ b. unwrap_or (cond b (Some e.1) (lookup (same_family family) es)) []) apart

none_in : (family : Family) (es : Locks) → AllByRecursion (λ other. same_family family other ≡ false) (keys_of es) → in_family es family ≡ []
none_in family [] h = refl
none_in family (e ∷ es) h = in_others e es family h.0 ∙ none_in family es h.1

-- how far each number reaches, and how far the readers that are asked for do at least
module _ (least : ℕ) (reaches : List ℕ) (no_further : ReachNoFurther reaches) where
  -- the one that counts of the readers of a key
  abbrev pick : List ℕ → ℕ
  pick = last_reaching least reaches

  -- a family that nobody reads
  none_or_none : (b : Bool) → cond b zero zero ≡ zero
  none_or_none true = refl
  none_or_none false = refl

  none_over : (family : Family) (place : Place) (row : Option RowValues) → last_over pick family [] place row ≡ 0
  none_over family place None = refl
  none_over (Rows table) place (Some row) = none_or_none (table == place.table)
  none_over (Column table column) place (Some row) = none_or_none (table == place.table)
  none_over (Table table) place (Some row) = none_or_none (table == place.table)

  -- what stands at a place, under a key
  over : (key : LockKey) (readers : ValueReaders) (place : Place) (row : Option RowValues) → holds key place row ≡ true
      → pick (readers_of readers (value_of key)) ≡ last_over pick (family_of key) readers place row
  over key readers place None h = let no : ⊥ = cc in absurd no
  over (OneRow read) readers place (Some row) h =
      let p = and_parts (read.table == place.table) (same_value read.key place.key) h in
      ap (λ v. pick (readers_of readers v)) (same_value-true read.key place.key p.1)
      ∙ sym (ap (λ b. cond b (pick (readers_of readers place.key)) 0) p.0)
  over (InColumn table column value) readers place (Some row) h =
      let p = and_parts (table == place.table) (same_value value (value_in column row)) h in
      ap (λ v. pick (readers_of readers v)) (same_value-true value (value_in column row) p.1)
      ∙ sym (ap (λ b. cond b (pick (readers_of readers (value_in column row))) 0) p.0)
  over (WholeTable table) readers place (Some row) h = sym (ap (λ b. cond b (pick (readers_of readers Null)) 0) h)

  -- the key of a family that it is under
  pub record IsUnder (family : Family) (readers : ValueReaders) (place : Place) (row : Option RowValues) : Type 0 where
    pub key : LockKey
    pub of : family_of key ≡ family
    pub under : holds key place row ≡ true
    pub last : last_over pick family readers place row ≡ pick (readers_of readers (value_of key))

  under : (family : Family) (readers : ValueReaders) (place : Place) (row : Option RowValues) → (last_over pick family readers place row ≡ 0) ⊎ IsUnder family readers place row
  under family readers place None = inl refl
  under (Rows table) readers place (Some row) = elim (cases_Bool (table == place.table)) [
    | inl here ↦ inr (record {
      key = OneRow (record { table = table; key = place.key });
      of = refl;
      under = and_from (table == place.table) (same_value place.key place.key) here (same_value-refl place.key);
      last = ap (λ b. cond b (pick (readers_of readers place.key)) 0) here;
    })
    | inr apart ↦ inl (ap (λ b. cond b (pick (readers_of readers place.key)) 0) apart)
  ]
  under (Column table column) readers place (Some row) = elim (cases_Bool (table == place.table)) [
    | inl here ↦ inr (record {
      key = InColumn table column (value_in column row);
      of = refl;
      under = and_from (table == place.table) (same_value (value_in column row) (value_in column row)) here (same_value-refl (value_in column row));
      last = ap (λ b. cond b (pick (readers_of readers (value_in column row))) 0) here;
    })
    | inr apart ↦ inl (ap (λ b. cond b (pick (readers_of readers (value_in column row))) 0) apart)
  ]
  under (Table table) readers place (Some row) = elim (cases_Bool (table == place.table)) [
    | inl here ↦ inr (record {
      key = WholeTable table;
      of = refl;
      under = here;
      last = ap (λ b. cond b (pick (readers_of readers Null)) 0) here;
    })
    | inr apart ↦ inl (ap (λ b. cond b (pick (readers_of readers Null)) 0) apart)
  ]

  module _ (change : Change) where
    -- a key that the change touches, and the families
    in_up_to : (key : LockKey) (readers : ValueReaders) → touches change key ≡ true → pick (readers_of readers (value_of key)) ≤ last_in pick change (family_of key) readers
    in_up_to key readers h = elim (or_cases (holds key (place_of change) change.old) (holds key (place_of change) change.new) h) [
      | inl old ↦ (let e = over key readers (place_of change) change.old old in omega (arith, e))
      | inr new ↦ (let e = over key readers (place_of change) change.new new in omega (arith, e))
    ]

    up_to : (es : Locks) (family : Family) → last_in pick change family (in_family es family) ≤ last_touched pick change es
    up_to [] family =
        let old = none_over family (place_of change) change.old in
        let new = none_over family (place_of change) change.new in
        omega (arith, old, new)
    up_to (e ∷ es) family = elim (cases_Bool (same_family family e.0)) [
      | inl same ↦
          let here : last_in pick change family (in_family (e ∷ es) family) ≡ last_in pick change e.0 e.1
          = ap (last_in pick change family) (in_first e es family same) ∙ ap (λ f. last_in pick change f e.1) (same_family-true family e.0 same) in
          omega (arith, here)
      | inr apart ↦
          let here = ap (last_in pick change family) (in_others e es family apart) in
          let more = up_to es family in
          omega (arith, here, more)
    ]

    pub record IsLastIn (es : Locks) : Type 0 where
      pub family : Family
      pub last : last_touched pick change es ≡ last_in pick change family (in_family es family)

    last_found : (es : Locks) → IsDistinct same_family (keys_of es) → (last_touched pick change es ≡ 0) ⊎ IsLastIn es
    unfolding IsDistinct
    last_found [] d = inl refl
    last_found (e ∷ es) d = elim (cases_lt (last_in pick change e.0 e.1) (last_touched pick change es)) [
      | inr first ↦
          let head : last_touched pick change (e ∷ es) ≡ last_in pick change e.0 e.1 = omega (arith, first) in
          inr (record { family = e.0; last = head ∙ ap (last_in pick change e.0) (sym (in_first e es e.0 (same_family-refl e.0))) })
      | inl later ↦
          let tail : last_touched pick change (e ∷ es) ≡ last_touched pick change es = omega (arith, later) in
          elim (last_found es d.1) [
            | inl none ↦ absurd (omega (arith, later, none))
            | inr found ↦ elim (cases_Bool (same_family found.family e.0)) [
              | inl same ↦
                  let gone : in_family es found.family ≡ [] = none_in found.family es (subst (λ f. AllByRecursion (λ other. same_family f other ≡ false) (keys_of es)) (sym (same_family-true found.family e.0 same)) d.0) in
                  let last = found.last ∙ ap (last_in pick change found.family) gone in
                  let old = none_over found.family (place_of change) change.old in
                  let new = none_over found.family (place_of change) change.new in
                  absurd (omega (arith, later, last, old, new))
              | inr apart ↦ inr (record { family = found.family; last = tail ∙ found.last ∙ ap (last_in pick change found.family) (sym (in_others e es found.family apart)) })
            ]
          ]
    ]

    touched_one : (key : LockKey) → touch (change ∷ []) key ≡ touches change key
    touched_one key = or-false (touches change key)

    -- the key under which the greatest was found
    reached : (es : Locks) (family : Family) (row : Option RowValues) (n : ℕ) → n ≡ last_over pick family (in_family es family) (place_of change) row
        → ((key : LockKey) → holds key (place_of change) row ≡ true → touches change key ≡ true)
        → (n ≡ 0) ⊎ ((key : LockKey) × (touch (change ∷ []) key ≡ true) × Contains (readers_at es key) n × (least ≤ reach_of reaches n))
    reached es family row n is within = elim (under family (in_family es family) (place_of change) row) [
      | inl none ↦ inl (is ∙ none)
      | inr found ↦
          let there : n ≡ pick (readers_at es found.key) = is ∙ found.last ∙ ap (λ f. pick (readers_of (in_family es f) (value_of found.key))) (sym found.of) in
          elim (last_there least reaches (readers_at es found.key)) [
            | inl none ↦ inl (there ∙ none)
            | inr listed ↦ inr (found.key, touched_one found.key ∙ within found.key found.under, subst (Contains (readers_at es found.key)) (sym there) listed.0, subst (λ r. least ≤ reach_of reaches r) (sym there) listed.1)
          ]
    ]

    pub greatest_touched : (es : Locks) → IsDistinct same_family (keys_of es) → AreAscending (readers_at es) → IsGreatestReader (readers_at es) (change ∷ []) least reaches (last_touched pick change es)
    greatest_touched es d ascending = record {
      all = λ key reader touched m l.
          let last = last_is_greatest least reaches no_further (readers_at es key) (ascending key) reader m l in
          let inside = in_up_to key (in_family es (family_of key)) (sym (touched_one key) ∙ touched) in
          let whole = up_to es (family_of key) in
          omega (arith, last, inside, whole);
      found = elim (last_found es d) [
        | inl none ↦ inl none
        | inr at ↦
            let old = last_over pick at.family (in_family es at.family) (place_of change) change.old in
            let new = last_over pick at.family (in_family es at.family) (place_of change) change.new in
            elim (cases_lt old new) [
              | inl later ↦
                  let is : last_touched pick change es ≡ new = at.last ∙ omega (arith, later) in
                  reached es at.family change.new (last_touched pick change es) is (λ key h. or_right (holds key (place_of change) change.old) (holds key (place_of change) change.new) h)
              | inr first ↦
                  let is : last_touched pick change es ≡ old = at.last ∙ omega (arith, first) in
                  reached es at.family change.old (last_touched pick change es) is (λ key h. or_left (holds key (place_of change) change.old) (holds key (place_of change) change.new) h)
            ]
      ];
    }

-- one change more
pub greatest_more : (reads : Reads) (done : List Change) (change : Change) (least : ℕ) (reaches : List ℕ) (m n : ℕ) → IsGreatestReader reads done least reaches m → IsGreatestReader reads (change ∷ []) least reaches n
    → IsGreatestReader reads (done ++ change ∷ []) least reaches (max n m)
greatest_more reads done change least reaches m n before one =
    let parts : (key : LockKey) → touch (done ++ change ∷ []) key ≡ (touch done key || touch (change ∷ []) key) = λ key. list_any-append (λ c. touches c key) done (change ∷ []) in
    record {
      all = λ key reader touched r far. elim (or_cases (touch done key) (touch (change ∷ []) key) (sym (parts key) ∙ touched)) [
        | inl earlier ↦ (let l = before.all key reader earlier r far in omega (arith, l))
        | inr last ↦ (let l = one.all key reader last r far in omega (arith, l))
      ];
      found = elim (cases_lt n m) [
        | inl earlier ↦
            let is : max n m ≡ m = omega (arith, earlier) in
            elim before.found [
              | inl none ↦ inl (is ∙ none)
              | inr f ↦ inr (f.0, parts f.0 ∙ or_left (touch done f.0) (touch (change ∷ []) f.0) f.1, subst (Contains (reads f.0)) (sym is) f.2, subst (λ r. least ≤ reach_of reaches r) (sym is) f.3)
            ]
        | inr later ↦
            let is : max n m ≡ n = omega (arith, later) in
            elim one.found [
              | inl none ↦ inl (is ∙ none)
              | inr f ↦ inr (f.0, parts f.0 ∙ or_right (touch done f.0) (touch (change ∷ []) f.0) f.1, subst (Contains (reads f.0)) (sym is) f.2, subst (λ r. least ≤ reach_of reaches r) (sym is) f.3)
            ]
      ];
    }
