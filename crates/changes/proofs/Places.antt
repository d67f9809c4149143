-- What is noted of the rows that two states hold at places gives their net change, and holds of another state after changes.
use Rattle.std.proofs.Common.{◌≡◌, ◌⊎◌, Bool, false, true, cond, List, [], ◌∷◌, ◌++◌, Option, Some, None, length, map, refl, sym, ap, ◌∙◌, subst, inl, inr, arith}
use Rattle.std.specs.Prelude.{Contains, ◌&&◌, ◌==◌, flat_map, is_some, unwrap_or}
use Rattle.std.specs.Ordering.{is_eq, nat_cmp, ordering_then}
use Rattle.std.specs.declared.cmp.Ordering.{Ordering}
use Rattle.std.specs.declared.cmp.Ordering.TheVariants.{Less, Equal, Greater}
use Rattle.std.specs.Cmp.{unsigned_tied}
use Rattle.std.specs.List.{IsDistinct}
use Rattle.std.specs.Map.{lookup, keys_of}
use Rattle.std.specs.BTreeMap.{is_at}
use Rattle.std.specs.List.Sorted.{IsStrictlySortedBy}
use Rattle.std.proofs.lemmas.Bool.{and_right, cases_Bool, both_ways, not-false}
use Rattle.value.specs.Ordered.{AreAbove, IsAscending}
use Rattle.value.specs.ValueOrder.{value_cmp}
use Rattle.table.specs.declared.rows.Change.{Change}
use Rattle.table.specs.Rows.{RowValues, Layout}
use Rattle.assertion.specs.Meaning.{State}
use Rattle.siread.specs.declared.keys.Place.{Place}
use Rattle.siread.specs.contracts.keys.PlaceOrd.TheImpl.{cmp-value as place_order}
use Rattle.siread.specs.Keys.{same_value, same_place, place_of}
use Rattle.alone.specs.States.{row_in, same_row, is_real, change_between, place_cmp, net_change, AreInOrder, IsState}
use Rattle.siread.proofs.Entries.{distinct_by}
use Rattle.siread.proofs.KeyOrder.{same_place-true, same_place-refl}
use Rattle.siread.proofs.Members.{in_head, in_tail, in_cases, not_in_nil}
use Rattle.alone.proofs.Lists.{Each, each_at}
use Rattle.alone.proofs.Orders.{net_only}
use Rattle.alone.proofs.Stores.{same_there-true}
use Rattle.delta.specs.Views.{AreTables}
use Rattle.changes.specs.declared.touched.RowsThere.{RowsThere}
use Rattle.changes.specs.Nets.{AreChangesBetween, AreNoted, IsNoted, Noted, change_noted, entry_at, noted_after, noted_at, rows_after}
use Rattle.changes.proofs.Members.{ascends, derived-place_cmp}

pub longer : (xs ys : RowValues) → (length xs ≡ length ys → ⊥) → same_row xs ys ≡ false
longer [] [] h = absurd (h refl)
longer [] (y ∷ ys) h = refl
longer (x ∷ xs) [] h = refl
longer (x ∷ xs) (y ∷ ys) h = and_right (same_value x y) (same_row xs ys) (longer xs ys (λ e. h (omega (arith, e))))

-- two places are level exactly where they are one
pub is_eq-place : (a b : Place) → is_eq (place_order.it a b) ≡ same_place a b
is_eq-place a b = ap is_eq (derived-place_cmp a b) ∙ go (nat_cmp a.table b.table) (unsigned_tied a.table b.table)
  where
    go : (c : Ordering) → is_eq c ≡ (a.table == b.table) → is_eq (ordering_then c (value_cmp a.key b.key)) ≡ same_place a b
    go Less e = ap (λ t. t && same_value a.key b.key) e
    go Equal e = ap (λ t. t && same_value a.key b.key) e
    go Greater e = ap (λ t. t && same_value a.key b.key) e

module _ (layouts : List Layout) (before after : State) where
  abbrev IsTold : Place × Option RowsThere → Type 0
  IsTold e = IsNoted e.1 (row_in layouts before e.0) (row_in layouts after e.0)

  abbrev change_of : Place → RowsThere → Change
  change_of place rows = record { table = place.table; key = place.key; old = rows.old; new = rows.new }

  between : (place : Place) (rows : RowsThere) → (rows.old ≡ row_in layouts before place) × (rows.new ≡ row_in layouts after place) → change_of place rows ≡ change_between layouts before after place
  between place rows told = λ i. record { table = place.table; key = place.key; old = told.0 i; new = told.1 i }

  above_all : (p : Place) (es : Noted) → AreAbove place_cmp (λ place. place) p (keys_of es) → AreAbove place_cmp place_of p (flat_map change_noted es)
  above_all p [] a = tt
  above_all p (e ∷ es) a = go e.1 (above_all p es a.1)
    where
      real : (rows : RowsThere) (b : Bool) → AreAbove place_cmp place_of p (flat_map change_noted es) → AreAbove place_cmp place_of p (cond b (change_of e.0 rows ∷ []) [] ++ flat_map change_noted es)
      real rows true rest = (a.0, rest)
      real rows false rest = rest

      go : (o : Option RowsThere) → AreAbove place_cmp place_of p (flat_map change_noted es) → AreAbove place_cmp place_of p (change_noted (e.0, o) ++ flat_map change_noted es)
      go None rest = rest
      go (Some rows) rest = real rows (is_real (change_of e.0 rows)) rest

  in_order : (es : Noted) → IsAscending place_cmp (λ place. place) (keys_of es) → AreInOrder (flat_map change_noted es)
  in_order [] s = tt
  in_order (e ∷ es) s = go e.1 (above_all e.0 es s.0) (in_order es s.1)
    where
      real : (rows : RowsThere) (b : Bool) → AreAbove place_cmp place_of e.0 (flat_map change_noted es) → AreInOrder (flat_map change_noted es) → AreInOrder (cond b (change_of e.0 rows ∷ []) [] ++ flat_map change_noted es)
      real rows true above rest = (above, rest)
      real rows false above rest = rest

      go : (o : Option RowsThere) → AreAbove place_cmp place_of e.0 (flat_map change_noted es) → AreInOrder (flat_map change_noted es) → AreInOrder (change_noted (e.0, o) ++ flat_map change_noted es)
      go None above rest = rest
      go (Some rows) above rest = real rows (is_real (change_of e.0 rows)) above rest

  -- each is the difference at its place
  record IsOne (change : Change) : Type 0 where
    is : change ≡ change_between layouts before after (place_of change)
    real : is_real change ≡ true

  ones : (es : Noted) → Each IsTold es → (change : Change) → Contains (flat_map change_noted es) change → IsOne change
  ones [] told change m = absurd (not_in_nil change m)
  ones (e ∷ es) told change m = go e.1 told.0 (ones es told.1 change) m
    where
      real : (rows : RowsThere) → (rows.old ≡ row_in layouts before e.0) × (rows.new ≡ row_in layouts after e.0) → (b : Bool) → is_real (change_of e.0 rows) ≡ b
          → (Contains (flat_map change_noted es) change → IsOne change) → Contains (cond b (change_of e.0 rows ∷ []) [] ++ flat_map change_noted es) change → IsOne change
      real rows t true r rest m = elim (in_cases (change_of e.0 rows) (flat_map change_noted es) change m) [
        | inl same ↦ subst IsOne same (record { is = between e.0 rows t; real = r })
        | inr there ↦ rest there
      ]
      real rows t false r rest m = rest m

      go : (o : Option RowsThere) → IsNoted o (row_in layouts before e.0) (row_in layouts after e.0) → (Contains (flat_map change_noted es) change → IsOne change)
          → Contains (change_noted (e.0, o) ++ flat_map change_noted es) change → IsOne change
      go None t rest m = rest m
      go (Some rows) t rest m = real rows t (is_real (change_of e.0 rows)) refl rest m

  abbrev Everywhere : List Change → Place → Type 0
  Everywhere changes place = (row_in layouts before place ≡ row_in layouts after place) ⊎ Contains changes (change_between layouts before after place)

  found : (es : Noted) → Each IsTold es → (place : Place) → Contains (keys_of es) place → Everywhere (flat_map change_noted es) place
  found [] told place m = absurd (not_in_nil place m)
  found (e ∷ es) told place m = elim (in_cases e.0 (keys_of es) place m) [
    | inl same ↦ subst (λ p. Everywhere (change_noted (e.0, e.1) ++ flat_map change_noted es) p) same (here e.1 told.0)
    | inr there ↦ later e.1 (found es told.1 place there)
  ]
    where
      here_real : (rows : RowsThere) → (rows.old ≡ row_in layouts before e.0) × (rows.new ≡ row_in layouts after e.0) → (b : Bool) → is_real (change_of e.0 rows) ≡ b
          → Everywhere (cond b (change_of e.0 rows ∷ []) [] ++ flat_map change_noted es) e.0
      here_real rows t true r = inr (subst (λ c. Contains (change_of e.0 rows ∷ flat_map change_noted es) c) (between e.0 rows t) (in_head _ _))
      here_real rows t false r = inl (sym t.0 ∙ same_there-true rows.old rows.new (not-false _ r) ∙ t.1)

      here : (o : Option RowsThere) → IsNoted o (row_in layouts before e.0) (row_in layouts after e.0) → Everywhere (change_noted (e.0, o) ++ flat_map change_noted es) e.0
      here None t = inl t
      here (Some rows) t = here_real rows t (is_real (change_of e.0 rows)) refl

      later_real : (rows : RowsThere) (b : Bool) → Everywhere (flat_map change_noted es) place → Everywhere (cond b (change_of e.0 rows ∷ []) [] ++ flat_map change_noted es) place
      later_real rows true w = elim w [ inl same ↦ inl same | inr there ↦ inr (in_tail _ (flat_map change_noted es) _ there) ]
      later_real rows false w = w

      later : (o : Option RowsThere) → Everywhere (flat_map change_noted es) place → Everywhere (change_noted (e.0, o) ++ flat_map change_noted es) place
      later None w = w
      later (Some rows) w = later_real rows (is_real (change_of e.0 rows)) w

  -- a place with no entry, or with one
  where_noted : (es : Noted) (p : Place) → (lookup (same_place p) es ≡ None) ⊎ Contains (keys_of es) p
  where_noted [] p = inl refl
  where_noted (e ∷ es) p = elim (cases_Bool (same_place p e.0)) [
    | inl same ↦ inr (subst (λ q. Contains (keys_of (e ∷ es)) q) (sym (same_place-true p e.0 same)) (in_head e.0 (keys_of es)))
    | inr apart ↦ elim (where_noted es p) [
      | inl none ↦ inl (ap (λ b. cond b (Some e.1) (lookup (same_place p) es)) apart ∙ none)
      | inr there ↦ inr (in_tail e.0 (keys_of es) p there)
    ]
  ]

  -- so each entry is what is noted of its place
  told_all : (es : Noted) → IsDistinct same_place (keys_of es)
      → ((p : Place) → Contains (keys_of es) p → IsNoted (unwrap_or (lookup (same_place p) es) None) (row_in layouts before p) (row_in layouts after p)) → Each IsTold es
  unfolding IsDistinct
  told_all [] d h = tt
  told_all (e ∷ es) d h = (
    subst (λ o. IsNoted o (row_in layouts before e.0) (row_in layouts after e.0)) (ap (λ b. unwrap_or (cond b (Some e.1) (lookup (same_place e.0) es)) None) (same_place-refl e.0)) (h e.0 (in_head e.0 (keys_of es))),
    told_all es d.1 (λ p m. subst (λ o. IsNoted o (row_in layouts before p) (row_in layouts after p)) (ap (λ b. unwrap_or (cond b (Some e.1) (lookup (same_place p) es)) None) (apart p m)) (h p (in_tail e.0 (keys_of es) p m))),
  )
    where
      apart : (p : Place) → Contains (keys_of es) p → same_place p e.0 ≡ false
      apart p m = elim (cases_Bool (same_place p e.0)) [
        | inl same ↦ absurd (both_ways (same_place e.0 p) (each_at (λ q. same_place e.0 q ≡ false) (keys_of es) d.0 p m) (subst (λ q. same_place e.0 q ≡ true) (sym (same_place-true p e.0 same)) (same_place-refl e.0)))
        | inr other ↦ other
      ]

  -- what is noted is the net change, where it is real
  pub net_noted : (noted : Noted) → IsStrictlySortedBy place_order.it (keys_of noted) → IsState layouts before → IsState layouts after → AreNoted layouts before after noted
      → flat_map change_noted noted ≡ net_change layouts before after
  net_noted noted sorted f g h = net_only layouts before after f g (flat_map change_noted noted) (record {
    in_order = in_order noted (ascends place_order.it place_cmp derived-place_cmp (keys_of noted) sorted);
    exact = λ change m. (ones noted told change m).is;
    real = λ change m. (ones noted told change m).real;
    all = λ place. elim (where_noted noted place) [
      | inl none ↦ inl (subst (λ o. IsNoted (unwrap_or o None) (row_in layouts before place) (row_in layouts after place)) none (at place))
      | inr there ↦ found noted told place there
    ];
  })
    where
      at : (place : Place) → IsNoted (unwrap_or (lookup (same_place place) noted) None) (row_in layouts before place) (row_in layouts after place)
      at place = subst (λ o. IsNoted (unwrap_or o None) (row_in layouts before place) (row_in layouts after place)) (ap (λ test. lookup test noted) (λ i k. is_eq-place place k i)) (h.each place)

      told : Each IsTold noted
      told = told_all noted (distinct_by place_order.it same_place is_eq-place (keys_of noted) sorted) (λ p m. at p)

-- what is noted of a place after some changes
abbrev pub noted_after_all : List Change → Place → Option RowsThere → Option RowsThere
noted_after_all [] place rows = rows
noted_after_all (change ∷ rest) place rows = noted_after_all rest place (noted_after change place rows)

module _ (layouts : List Layout) (start before after : State) where
  -- the rows at a place of the first state and of the last
  abbrev IsNew : Place → Option RowsThere → Type 0
  IsNew place o = (rows : RowsThere) × (o ≡ Some rows) × (rows.old ≡ row_in layouts start place) × (rows.new ≡ row_in layouts after place)

  -- what is noted is of the state before, and is not to change or has a change to come; or it is new
  abbrev IsUnderWay : Place → List Change → Option RowsThere → Type 0
  IsUnderWay place rest o =
      (IsNoted o (row_in layouts start place) (row_in layouts before place) × ((row_in layouts before place ≡ row_in layouts after place) ⊎ Contains (map place_of rest) place))
      ⊎ IsNew place o

  new_put : (place : Place) (change : Change) (o : Option RowsThere) (rest : List Change) → change ≡ change_between layouts before after (place_of change) → place_of change ≡ place
      → IsUnderWay place rest o → IsNew place (Some (rows_after change.old change.new o))
  new_put place change o rest exact same w = (rows_after change.old change.new o, refl, first o w, last o)
    where
      last : (o : Option RowsThere) → (rows_after change.old change.new o).new ≡ row_in layouts after place
      last None = ap (λ (c : Change). c.new) exact ∙ ap (row_in layouts after) same
      last (Some rows) = ap (λ (c : Change). c.new) exact ∙ ap (row_in layouts after) same

      first : (o : Option RowsThere) → IsUnderWay place rest o → (rows_after change.old change.new o).old ≡ row_in layouts start place
      first None (inl h) = ap (λ (c : Change). c.old) exact ∙ ap (row_in layouts before) same ∙ sym h.0
      first None (inr new) = let no : ⊥ = (let e = new.1 in cc) in absurd no
      first (Some rows) (inl h) = h.0.0
      first (Some rows) (inr new) = (let e : rows ≡ new.0 = (let s = new.1 in cc) in ap (λ (r : RowsThere). r.old) e ∙ new.2)

  put_at : (place : Place) (changes : List Change) → ((c : Change) → Contains changes c → c ≡ change_between layouts before after (place_of c)) → (o : Option RowsThere)
      → IsUnderWay place changes o → IsNoted (noted_after_all changes place o) (row_in layouts start place) (row_in layouts after place)
  put_at place [] exact o (inl h) = elim h.1 [
    | inl same ↦ subst (λ r. IsNoted o (row_in layouts start place) r) same h.0
    | inr there ↦ absurd (not_in_nil place there)
  ]
  put_at place [] exact o (inr new) = subst (λ r. IsNoted r (row_in layouts start place) (row_in layouts after place)) (sym new.1) (new.2, new.3)
  put_at place (c ∷ rest) exact o w = elim (cases_Bool (same_place (place_of c) place)) [
    | inl same ↦
        subst (λ b. IsNoted (noted_after_all rest place (cond b (Some (rows_after c.old c.new o)) o)) (row_in layouts start place) (row_in layouts after place)) (sym same)
        (put_at place rest others (Some (rows_after c.old c.new o)) (inr (new_put place c o (c ∷ rest) (exact c (in_head c rest)) (same_place-true (place_of c) place same) w)))
    | inr apart ↦
        subst (λ b. IsNoted (noted_after_all rest place (cond b (Some (rows_after c.old c.new o)) o)) (row_in layouts start place) (row_in layouts after place)) (sym apart)
        (put_at place rest others o (later apart w))
  ]
    where
      others : (d : Change) → Contains rest d → d ≡ change_between layouts before after (place_of d)
      others d m = exact d (in_tail c rest d m)

      later : same_place (place_of c) place ≡ false → IsUnderWay place (c ∷ rest) o → IsUnderWay place rest o
      later apart (inr new) = inr new
      later apart (inl h) = inl (
        h.0,
        elim h.1 [
          | inl same ↦ inl same
          | inr listed ↦ elim (in_cases (place_of c) (map place_of rest) place listed) [
            | inl same ↦ absurd (both_ways (same_place (place_of c) place) apart (subst (λ p. same_place (place_of c) p ≡ true) same (same_place-refl (place_of c))))
            | inr there ↦ inr there
          ]
        ],
      )

  pub noted_put : (old new : Noted) (changes : List Change) → AreNoted layouts start before old → AreChangesBetween layouts before after changes
      → ((place : Place) → noted_at new place ≡ noted_after_all changes place (noted_at old place)) → AreNoted layouts start after new
  noted_put old new changes h c put = record {
    each = λ place. subst (λ o. IsNoted o (row_in layouts start place) (row_in layouts after place)) (sym (put place))
        (put_at place changes c.exact (noted_at old place) (inl (h.each place, c.elsewhere place)));
  }

-- what is noted is noted still where there is more room
pub noted_room : (layouts : List Layout) (start now : State) (old new : Noted) → ((place : Place) → noted_at new place ≡ noted_at old place)
    → AreNoted layouts start now old → AreNoted layouts start now new
noted_room layouts start now old new same h = record {
  each = λ place. subst (λ o. IsNoted o (row_in layouts start place) (row_in layouts now place)) (sym (same place)) (h.each place);
}

-- tables are a state in key order
pub tables_state : (layouts : List Layout) (state : State) → AreTables layouts state → IsState layouts state
tables_state layouts state t = record { long = t.long; ordered = λ table. (t.each table).ascending }

-- a place without rows, put in where it was not, changes nothing that is noted
pub room_same : (old new : Noted) (p : Place) → is_some (entry_at old p) ≡ false
    → ((q : Place) → entry_at new q ≡ cond (is_at (place_order.it p) q) (Some None) (entry_at old q)) → (q : Place) → noted_at new q ≡ noted_at old q
room_same old new p none puts q = ap (λ o. unwrap_or o None) (puts q) ∙ go (is_at (place_order.it p) q) refl
  where
    absent : (o : Option (Option RowsThere)) → is_some o ≡ false → None ≡ unwrap_or o None
    absent None e = refl
    absent (Some rows) e = cc

    go : (b : Bool) → is_at (place_order.it p) q ≡ b → unwrap_or (cond b (Some None) (entry_at old q)) None ≡ unwrap_or (entry_at old q) None
    go false e = refl
    go true e = subst (λ place. None ≡ unwrap_or (entry_at old place) None) (same_place-true p q (sym (is_eq-place p q) ∙ e)) (absent (entry_at old p) none)

-- a change put in, whether there is room for it or not
pub change_put : (old new : Noted) (change : Change) (rows put : Option RowsThere) → noted_at old (place_of change) ≡ rows
    → put ≡ Some (rows_after change.old change.new rows) → ((q : Place) → entry_at new q ≡ cond (is_at (place_order.it (place_of change)) q) (Some put) (entry_at old q))
    → (q : Place) → noted_at new q ≡ noted_after change q (noted_at old q)
change_put old new change rows put there is puts q =
    ap (λ o. unwrap_or o None) (puts q)
    ∙ ap (λ o. unwrap_or (cond (is_at (place_order.it (place_of change)) q) (Some o) (entry_at old q)) None) is
    ∙ ap (λ b. unwrap_or (cond b (Some (Some (rows_after change.old change.new rows))) (entry_at old q)) None) (is_eq-place (place_of change) q)
    ∙ go (same_place (place_of change) q) refl
  where
    go : (b : Bool) → same_place (place_of change) q ≡ b
        → unwrap_or (cond b (Some (Some (rows_after change.old change.new rows))) (entry_at old q)) None ≡ cond b (Some (rows_after change.old change.new (noted_at old q))) (noted_at old q)
    go false e = refl
    go true e =
        ap (λ o. Some (rows_after change.old change.new o))
        (sym there ∙ ap (noted_at old) (same_place-true (place_of change) q e))
