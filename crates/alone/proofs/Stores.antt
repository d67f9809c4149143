-- A state reads at a place what was put there, states that read the same are the same, and so is what a filter keeps of tables
-- with the same rows under a key.
use Rattle.std.proofs.Common.{◌≡◌, ◌≤◌, ◌<◌, ℕ, zero, suc, Bool, true, false, cond, List, [], ◌∷◌, ◌⊎◌, Option, Some, None, length, filter, refl, sym, ap, ◌∙◌, subst, inl, inr, eqb-true, eq-eqb, arith}
use Rattle.std.specs.Prelude.{Contains, ◌==◌, ◌&&◌}
use Rattle.std.proofs.lemmas.Bool.{cases_Bool, both_ways, and_parts, and_from}
use Rattle.std.proofs.lemmas.List.{length-set}
use Rattle.std.specs.Option.{option_or}
use Rattle.value.specs.declared.values.Value.{Value}
use Rattle.value.specs.ValueOrder.{value_cmp}
use Rattle.value.specs.Ordered.{HasKey}
use Rattle.value.proofs.OrderedLists.{at-put}
use Rattle.value.proofs.ValueOrders.{value_cmp_total, value_exact}
use Rattle.table.specs.declared.rows.Change.{Change}
use Rattle.table.specs.Rows.{RowValues, Layout, value_in, row_at, key_of}
use Rattle.assertion.specs.Meaning.{State, rows_of}
use Rattle.assertion.specs.Changes.{IsOrdered, IsChangeOf, state_after, state_after_all}
use Rattle.assertion.proofs.KeptTruth.{rows-changed, rows-same, IsOrdered-after}
use Rattle.siread.specs.declared.keys.Place.{Place}
use Rattle.siread.specs.declared.keys.LockKey.{LockKey}
use Rattle.siread.specs.declared.keys.LockKey.TheVariants.{Row as OneRow, Table as WholeTable}
use Rattle.siread.specs.Keys.{is_under, row_under_key, SameUnder, same_value, same_place, place_of}
use Rattle.alone.specs.States.{row_in, IsState, same_row, same_there, IsPut}
use Rattle.siread.proofs.KeyOrder.{same_value-true, same_value-refl, same_place-true, same_place-refl}
use Rattle.siread.proofs.Members.{in_head, in_tail, in_cases, not_in_nil}
use Rattle.alone.proofs.Lists.{Each}
use Rattle.assertion.proofs.ListLemmas.{at-key}
use Rattle.alone.proofs.InOrder.{only, same_list, filter_same}

-- whether two values are the same, from either side
pub same_value-turned : (a b : Value) → same_value a b ≡ same_value b a
same_value-turned a b = elim (cases_Bool (same_value a b)) [
  | inl same ↦ same ∙ sym (subst (λ x. same_value x a ≡ true) (same_value-true a b same) (same_value-refl a))
  | inr other ↦ elim (cases_Bool (same_value b a)) [
    | inl same ↦ absurd (both_ways (same_value a b) other (subst (λ x. same_value a x ≡ true) (sym (same_value-true b a same)) (same_value-refl a)))
    | inr apart ↦ other ∙ sym apart
  ]
]

pub same_row-true : (a b : RowValues) → same_row a b ≡ true → a ≡ b
same_row-true [] [] h = refl
same_row-true [] (w ∷ ws) h = cc
same_row-true (v ∷ vs) [] h = cc
same_row-true (v ∷ vs) (w ∷ ws) h =
    let p = and_parts (same_value v w) (same_row vs ws) h in
    let e : v ≡ w = same_value-true v w p.0 in
    let es : vs ≡ ws = same_row-true vs ws p.1 in
    λ i. e i ∷ es i

pub same_row-refl : (a : RowValues) → same_row a a ≡ true
same_row-refl [] = refl
same_row-refl (v ∷ vs) = and_from (same_value v v) (same_row vs vs) (same_value-refl v) (same_row-refl vs)

pub same_there-true : (a b : Option RowValues) → same_there a b ≡ true → a ≡ b
same_there-true None None h = refl
same_there-true None (Some row) h = cc
same_there-true (Some row) None h = cc
same_there-true (Some row) (Some other) h = ap Some (same_row-true row other h)

pub same_there-refl : (a : Option RowValues) → same_there a a ≡ true
same_there-refl None = refl
same_there-refl (Some row) = same_row-refl row

-- the change that a list has for a place: the last one
abbrev pub change_at : List Change → Place → Option Change
change_at [] place = None
change_at (change ∷ rest) place = option_or (change_at rest place) (cond (same_place (place_of change) place) (Some change) None)

-- what stands at a place after its change, if it has one
abbrev pub changed : Option Change → Option RowValues → Option RowValues
changed None row = row
changed (Some change) row = change.new

-- a list of changes has no change for the place, or one of its own
pub record Found (changes : List Change) (place : Place) (change : Change) : Type 0 where
  pub is : change_at changes place ≡ Some change
  pub listed : Contains changes change
  pub there : place_of change ≡ place

pub change_at_cases : (changes : List Change) (place : Place) → (change_at changes place ≡ None) ⊎ ((change : Change) × Found changes place change)
change_at_cases [] place = inl refl
change_at_cases (c ∷ rest) place = elim (change_at_cases rest place) [
  | inr found ↦ inr (found.0, record { is = ap (λ o. option_or o (cond (same_place (place_of c) place) (Some c) None)) found.1.is; listed = in_tail c rest found.0 found.1.listed; there = found.1.there })
  | inl none ↦
      let step : change_at (c ∷ rest) place ≡ cond (same_place (place_of c) place) (Some c) None = ap (λ o. option_or o (cond (same_place (place_of c) place) (Some c) None)) none in
      elim (cases_Bool (same_place (place_of c) place)) [
        | inl same ↦ inr (c, record { is = step ∙ ap (λ b. cond b (Some c) None) same; listed = in_head c rest; there = same_place-true _ _ same })
        | inr other ↦ inl (step ∙ ap (λ b. cond b (Some c) None) other)
      ]
]

-- where a change of the list is of the place, it has one
pub listed_at : (changes : List Change) (place : Place) (change : Change) → Contains changes change → place_of change ≡ place → change_at changes place ≡ None → ⊥
listed_at [] place change m e h = not_in_nil change m
listed_at (c ∷ rest) place change m e h = elim (in_cases c rest change m) [
  | inl same ↦ mine (change_at rest place) (subst (λ p. same_place (place_of c) p ≡ true) (ap place_of same ∙ e) (same_place-refl (place_of c))) h
  | inr there ↦ listed_at rest place change there e (both_none (change_at rest place) (cond (same_place (place_of c) place) (Some c) None) h)
]
  where
    mine : (o : Option Change) → same_place (place_of c) place ≡ true → option_or o (cond (same_place (place_of c) place) (Some c) None) ≡ None → ⊥
    mine None same h = let e : Some c ≡ None = sym (ap (λ b. cond b (Some c) None) same) ∙ h in cc
    mine (Some d) same h = cc

    both_none : (o p : Option Change) → option_or o p ≡ None → o ≡ None
    both_none None p h = refl
    both_none (Some d) p h = cc

-- a table that there isn't holds nothing
pub empty : (state : State) (t : ℕ) → length state ≤ t → rows_of t state ≡ []
empty [] t l = refl
empty (x ∷ xs) zero l = absurd (omega (arith, l))
empty (x ∷ xs) (suc t) l = empty xs t (omega (arith, l))

-- lists that hold the same at each place are one
same_lists : (xs ys : State) → length xs ≡ length ys → ((i : ℕ) → rows_of i xs ≡ rows_of i ys) → xs ≡ ys
same_lists [] [] l h = refl
same_lists [] (y ∷ ys) l h = absurd (omega (arith, l))
same_lists (x ∷ xs) [] l h = absurd (omega (arith, l))
same_lists (x ∷ xs) (y ∷ ys) l h =
    let e : x ≡ y = h 0 in
    let es : xs ≡ ys = same_lists xs ys (omega (arith, l)) (λ i. h (suc i)) in
    λ i. e i ∷ es i

pub row_seen : (place : Place) (row : Option RowValues) → row_under_key (OneRow place) place row ≡ row
row_seen place None = refl
row_seen place (Some row) = ap (λ b. cond b (Some row) None) (same_place-refl place)

pub all_seen : (table : ℕ) (key : Value) (row : Option RowValues) → row_under_key (WholeTable table) (record { table = table; key = key }) row ≡ row
all_seen table key None = refl
all_seen table key (Some row) = ap (λ b. cond b (Some row) None) (eq-eqb table table refl)

module _ (layouts : List Layout) where
  -- a row that stands under a key has it
  pub at_own : (table : ℕ) (k : Value) (rows : List RowValues) (row : RowValues) → row_at (key_of table layouts) k rows ≡ Some row → value_in (key_of table layouts) row ≡ k
  at_own table k rows row h = sym (value_exact k (value_in (key_of table layouts) row) (at-key value_cmp (value_in (key_of table layouts)) k rows row h))

  module _ (state : State) (fit : IsState layouts state) (change : Change) (put : IsPut layouts change) where
    -- the change from what stands there
    abbrev own : Change
    own = record { table = change.table; key = change.key; old = row_in layouts state (place_of change); new = change.new }

    own_is : IsChangeOf layouts own state
    own_is = record { table_in = subst (λ n. change.table < n) (sym fit.long) put.table_in; stands = refl; keyed = put.keyed }

    pub after_fits : IsState layouts (state_after layouts change state)
    after_fits = record { long = length-set state change.table _ ∙ fit.long; ordered = IsOrdered-after layouts own state own_is fit.ordered }

    pub row_in-after : (place : Place) → row_in layouts (state_after layouts change state) place ≡ cond (same_place (place_of change) place) change.new (row_in layouts state place)
    row_in-after place = elim (cases_Bool (place.table == change.table)) [
      | inl same ↦
          let t : place.table ≡ change.table = eqb-true _ _ same in
          ap (row_at (key_of place.table layouts) place.key) (rows-changed layouts own state own_is place.table same)
          ∙ at-put value_cmp_total (value_in (key_of place.table layouts)) change.key change.new (rows_of place.table state) (subst (λ n. HasKey value_cmp (value_in (key_of n layouts)) change.key change.new) (sym t) put.keyed) (fit.ordered place.table) place.key
          ∙ ap (λ b. cond b change.new (row_in layouts state place)) (same_value-turned place.key change.key ∙ ap (λ b. b && same_value change.key place.key) (sym (eq-eqb change.table place.table (sym t))))
      | inr other ↦
          let apart : (change.table == place.table) ≡ false = elim (cases_Bool (change.table == place.table)) [
            | inl same ↦ absurd (both_ways (place.table == change.table) other (eq-eqb place.table change.table (sym (eqb-true _ _ same))))
            | inr apart ↦ apart
          ] in
          ap (row_at (key_of place.table layouts) place.key) (rows-same layouts own state place.table other)
          ∙ sym (ap (λ b. cond (b && same_value change.key place.key) change.new (row_in layouts state place)) apart)
    ]

  pub all_fit : (changes : List Change) (state : State) → IsState layouts state → Each (IsPut layouts) changes → IsState layouts (state_after_all layouts changes state)
  all_fit [] state fit puts = fit
  all_fit (c ∷ rest) state fit puts = all_fit rest (state_after layouts c state) (after_fits state fit c puts.0) puts.1

  pub row_in-put : (changes : List Change) (state : State) (place : Place) → IsState layouts state → Each (IsPut layouts) changes → row_in layouts (state_after_all layouts changes state) place ≡ changed (change_at changes place) (row_in layouts state place)
  row_in-put [] state place fit puts = refl
  row_in-put (c ∷ rest) state place fit puts =
      row_in-put rest (state_after layouts c state) place (after_fits state fit c puts.0) puts.1
      ∙ ap (changed (change_at rest place)) (row_in-after state fit c puts.0 place)
      ∙ go (change_at rest place) (same_place (place_of c) place)
    where
      go : (o : Option Change) (b : Bool) → changed o (cond b c.new (row_in layouts state place)) ≡ changed (option_or o (cond b (Some c) None)) (row_in layouts state place)
      go None true = refl
      go None false = refl
      go (Some d) b = refl

  pub same_states : (one other : State) → IsState layouts one → IsState layouts other → ((place : Place) → row_in layouts one place ≡ row_in layouts other place) → one ≡ other
  same_states one other f g h =
      same_lists one other (f.long ∙ sym g.long) (λ t. same_list value_cmp_total (value_in (key_of t layouts)) (rows_of t one) (rows_of t other) (f.ordered t) (g.ordered t) (λ k. h (record { table = t; key = k })))

  module _ (one other : State) (f : IsOrdered layouts one) (g : IsOrdered layouts other) where
    pub table_same : (table : ℕ) → SameUnder (row_in layouts) (WholeTable table) one other → rows_of table one ≡ rows_of table other
    table_same table h =
        same_list value_cmp_total (value_in (key_of table layouts)) (rows_of table one) (rows_of table other) (f table) (g table)
        (λ k. sym (all_seen table k (row_at (key_of table layouts) k (rows_of table one))) ∙ h (record { table = table; key = k }) ∙ all_seen table k (row_at (key_of table layouts) k (rows_of table other)))

    pub one_same : (place : Place) → SameUnder (row_in layouts) (OneRow place) one other → row_in layouts one place ≡ row_in layouts other place
    one_same place h = sym (row_seen place (row_in layouts one place)) ∙ h place ∙ row_seen place (row_in layouts other place)

    -- what a filter keeps whose rows are all under the key
    pub filtered_same : (table : ℕ) (key : LockKey) (p : RowValues → Bool)
        → ((row : RowValues) → p row ≡ true → is_under key (record { table = table; key = value_in (key_of table layouts) row }) row ≡ true)
        → SameUnder (row_in layouts) key one other → filter p (rows_of table one) ≡ filter p (rows_of table other)
    filtered_same table key p under h =
        filter_same value_cmp_total (value_in (key_of table layouts)) p (rows_of table one) (rows_of table other) (f table) (g table)
        (λ k. only_seen k (row_at (key_of table layouts) k (rows_of table one)) (λ row e. at_own table k (rows_of table one) row e)
        ∙ ap (only p) (h (record { table = table; key = k }))
        ∙ sym (only_seen k (row_at (key_of table layouts) k (rows_of table other)) (λ row e. at_own table k (rows_of table other) row e)))
      where
        only_seen : (k : Value) (o : Option RowValues) → ((row : RowValues) → o ≡ Some row → value_in (key_of table layouts) row ≡ k) → only p o ≡ only p (row_under_key key (record { table = table; key = k }) o)
        only_seen k None mine = refl
        only_seen k (Some row) mine = elim (cases_Bool (p row)) [
          | inl on ↦
              let held : is_under key (record { table = table; key = k }) row ≡ true = subst (λ v. is_under key (record { table = table; key = v }) row ≡ true) (mine row refl) (under row on) in
              sym (ap (λ b. only p (cond b (Some row) None)) held)
          | inr off ↦
              ap (λ b. cond b (Some row) None) off
              ∙ (elim (is_under key (record { table = table; key = k }) row) as (λ b. None ≡ only p (cond b (Some row) None)) [ true ↦ sym (ap (λ b. cond b (Some row) None) off) | false ↦ refl ])
        ]
