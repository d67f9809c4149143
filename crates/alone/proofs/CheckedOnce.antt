-- What a check of the immediate assertions over the net change would read, the statements have read: each row of the net change is a
-- row of the one before the last statement, or of what this statement changed.
use Rattle.std.proofs.Common.{◌≡◌, ℕ, Bool, true, false, not, cond, List, [], ◌∷◌, ◌++◌, ◌⊎◌, Option, Some, None, Result, Ok, Err, length, map, filter, refl, sym, ap, ◌∙◌, subst, inl, inr, eq-eqb}
use Rattle.std.specs.Prelude.{Contains, ◌==◌, flat_map, option_to_list}
use Rattle.std.specs.List.{range_with_len, zip}
use Rattle.value.specs.declared.values.Value.{Value}
use Rattle.value.specs.declared.values.Root.{Root}
use Rattle.value.specs.declared.values.Root.TheVariants.{All, Of}
use Rattle.value.specs.declared.refusals.Refusal.{Refusal}
use Rattle.value.specs.declared.refusals.Refusal.TheVariants.{KeyUpdate}
use Rattle.value.specs.ValueOrder.{value_cmp}
use Rattle.value.proofs.ValueOrders.{value_cmp_total, value_exact}
use Rattle.table.specs.declared.rows.Change.{Change}
use Rattle.table.specs.Rows.{RowValues, Layout, value_in, key_of}
use Rattle.table.specs.Aggregates.{is_there}
use Rattle.table.specs.declared.conds.Cond.{Cond}
use Rattle.assertion.specs.declared.assertions.Assertion.{Assertion}
use Rattle.assertion.specs.declared.queries.Query.{Query}
use Rattle.assertion.specs.declared.queries.Link.{Link}
use Rattle.assertion.specs.declared.forms.Form.{Form}
use Rattle.assertion.specs.declared.forms.Form.TheVariants.{ByRow, ByGroup, Single}
use Rattle.assertion.specs.Meaning.{State, rows_of}
use Rattle.assertion.specs.Candidates.{rows_of_change, group_candidates, linked_values, linked_roots, query_candidates, candidates, candidates_of}
use Rattle.assertion.specs.Changes.{state_after_all}
use Rattle.assertion.specs.Declarations.{Declared, layouts_in}
use Rattle.siread.specs.declared.keys.Place.{Place}
use Rattle.siread.specs.declared.keys.LockKey.{LockKey}
use Rattle.siread.specs.declared.keys.LockKey.TheVariants.{Row as OneRow, Column as InColumn}
use Rattle.siread.specs.Keys.{same_value, place_of, are_among}
use Rattle.alone.specs.States.{row_in, IsState, same_there, is_real, change_between, keys_of_both, table_changes, net_change}
use Rattle.alone.specs.Reads.{filter_key}
use Rattle.alone.specs.Checks.{query_keys, keys_for, finding_keys, check_keys, violation, checks_read}
use Rattle.alone.specs.Modes.{Immediates, is_immediate, is_named, mode_with, modes_with, assertion_of, initial_modes, immediate_ones, named_ones}
use Rattle.alone.specs.Statements.{Effect, columns_of, places_in, found_rows, insert_effect, update_effect, delete_effect, sets_key}
use Rattle.alone.specs.declared.statements.ResolvedStatement.{ResolvedStatement}
use Rattle.alone.specs.declared.statements.ResolvedStatement.TheVariants.{Refused as Refuse, Insert, Update, Delete, Select, SetModes, Verdict}
use Rattle.alone.specs.declared.answers.Reply.{Reply}
use Rattle.alone.specs.declared.answers.Reply.TheVariants.{ModesSet}
use Rattle.alone.specs.Alone.{Standing, Step, unless_violated, step_of_effect, verdict_step, modes_step, unless_key, key_name, step_alone, ran, run_on, IsSound}
use Rattle.siread.proofs.Members.{in_head, in_tail, in_cases, not_in_nil}
use Rattle.alone.proofs.Members.{in_left, in_right, in_either, in_map, from_map, in_filter, from_filter, filter_passes, in_flat, from_flat}
use Rattle.alone.proofs.Stores.{same_there-refl}
use Rattle.alone.proofs.Nets.{at_in, net_exact, net_all}
use Rattle.alone.proofs.Orders.{at_member}
use Rattle.alone.proofs.ReadOnly.{no_net_change}
use Rattle.alone.proofs.KeyLists.{among_from}
use Rattle.alone.proofs.Induction.{Together, at_begin, ran_same}

-- what is made of rows one by one: each of it comes from a row, and is there whatever rows stand beside that one
abbrev ComesByRow : {Y : Type 0} → (List RowValues → List Y) → Type 0
ComesByRow {Y} f = (rows : List RowValues) (y : Y) → Contains (f rows) y
    → (row : RowValues) × (Contains rows row × ((others : List RowValues) → Contains others row → Contains (f others) y))

linked_by_row : (link : Link) → ComesByRow (linked_values link)
linked_by_row link rows v m =
    let there : is_there v ≡ true = filter_passes is_there (map (value_in link.inner) rows) v m in
    let found = from_map (value_in link.inner) rows v (from_filter is_there (map (value_in link.inner) rows) v m) in
    (found.0, (found.1.0, λ others n. in_filter is_there (map (value_in link.inner) others) v there (subst (Contains (map (value_in link.inner) others)) found.1.1 (in_map (value_in link.inner) others found.0 n))))

groups_by_row : (group : ℕ) → ComesByRow (group_candidates group)
groups_by_row group rows root m =
    let found = from_map (λ row. Of (value_in group row)) rows root m in
    (found.0, (found.1.0, λ others n. subst (Contains (group_candidates group others)) found.1.1 (in_map (λ row. Of (value_in group row)) others found.0 n)))

mapped_by_row : {X Y : Type 0} (f : List RowValues → List X) (g : X → Y) → ComesByRow f → ComesByRow (λ rows. map g (f rows))
mapped_by_row f g by rows y m =
    let made = from_map g (f rows) y m in
    let found = by rows made.0 made.1.0 in
    (found.0, (found.1.0, λ others n. subst (Contains (map g (f others))) made.1.1 (in_map g (f others) made.0 (found.1.1 others n))))

none_by_row : {Y : Type 0} → ComesByRow {Y = Y} (λ rows. [])
none_by_row rows y m = absurd (not_in_nil y m)

either_by_row : {Y : Type 0} (b : Bool) (f g : List RowValues → List Y) → ComesByRow f → ComesByRow g → ComesByRow (λ rows. cond b (f rows) (g rows))
either_by_row true f g by_f by_g = by_f
either_by_row false f g by_f by_g = by_g

each_by_row : {X Y : Type 0} (f : X → List RowValues → List Y) → ((x : X) → ComesByRow (f x)) → (xs : List X) → ComesByRow (λ rows. flat_map (λ x. f x rows) xs)
each_by_row f by xs rows y m =
    let one = from_flat (λ x. f x rows) xs y m in
    let found = by one.0 rows y one.1.1 in
    (found.0, (found.1.0, λ others n. in_flat (λ x. f x others) xs one.0 y one.1.0 (found.1.1 others n)))

-- from a state to another, and from this to a third
module _ (layouts : List Layout) (s u w : State) (fs : IsState layouts s) (fu : IsState layouts u) (fw : IsState layouts w) where
  abbrev earlier : List Change
  earlier = net_change layouts s u

  abbrev later : List Change
  later = net_change layouts u w

  abbrev whole : List Change
  whole = net_change layouts s w

  -- a change of a net change is of no row that both states hold
  differ : (c : Change) → Contains whole c → row_in layouts s (place_of c) ≡ row_in layouts w (place_of c) → ⊥
  unfolding net_change
  differ c m same =
      let found = from_flat (table_changes layouts s w) (range_with_len 0 (length layouts)) c m in
      let real : is_real c ≡ true = filter_passes is_real (map (λ k. change_between layouts s w (record { table = found.0; key = k })) (keys_of_both layouts s w found.0)) c found.1.1 in
      let still : same_there (row_in layouts s (place_of c)) (row_in layouts w (place_of c)) ≡ true = ap (same_there (row_in layouts s (place_of c))) (sym same) ∙ same_there-refl (row_in layouts s (place_of c)) in
      let no : true ≡ false = sym real ∙ ap is_real (net_exact layouts s w c m).0 ∙ ap not still in
      cc

  -- there is a change of the same place up to the second state, or behind it, of which this holds
  abbrev IsParted : Place → (Change → Type 0) → Type 0
  IsParted place P =
      (Contains earlier (change_between layouts s u place) × P (change_between layouts s u place))
      ⊎ (Contains later (change_between layouts u w place) × P (change_between layouts u w place))

  place_parted : (c : Change) → Contains whole c → IsParted (place_of c) (λ d. Unit {0})
  place_parted c m = elim (net_all layouts s u fs fu (place_of c)) [
    | inr one ↦ inl (one, tt)
    | inl same ↦ elim (net_all layouts u w fu fw (place_of c)) [ inr other ↦ inr (other, tt) | inl still ↦ absurd (differ c m (same ∙ still)) ]
  ]

  row_parted : (c : Change) → Contains whole c → (row : RowValues) → Contains (rows_of_change c) row → IsParted (place_of c) (λ d. Contains (rows_of_change d) row)
  row_parted c m row n =
      go (net_all layouts s u fs fu place) (net_all layouts u w fu fw place) (subst (λ d. Contains (rows_of_change d) row) (net_exact layouts s w c m).0 n)
    where
      place : Place
      place = place_of c

      rows_at : State → List RowValues
      rows_at state = option_to_list (row_in layouts state place)

      go : (row_in layouts s place ≡ row_in layouts u place) ⊎ Contains earlier (change_between layouts s u place) → (row_in layouts u place ≡ row_in layouts w place) ⊎ Contains later (change_between layouts u w place)
          → Contains (rows_at s ++ rows_at w) row → IsParted place (λ d. Contains (rows_of_change d) row)
      go (inl same) (inl still) k = absurd (differ c m (same ∙ still))
      go (inr one) (inl still) k = inl (one, subst (λ o. Contains (rows_at s ++ option_to_list o) row) (sym still) k)
      go (inl same) (inr other) k = inr (other, subst (λ o. Contains (option_to_list o ++ rows_at w) row) same k)
      go (inr one) (inr other) k =
          in_either (IsParted place (λ d. Contains (rows_of_change d) row)) (rows_at s) (rows_at w) row
          (λ old. inl (one, in_left (rows_at s) (rows_at u) row old)) (λ new. inr (other, in_right (rows_at u) (rows_at w) row new)) k

  made_parted : {Y : Type 0} (f : List RowValues → List Y) → ComesByRow f → (c : Change) → Contains whole c → (y : Y) → Contains (f (rows_of_change c)) y
      → IsParted (place_of c) (λ d. Contains (f (rows_of_change d)) y)
  made_parted f by c m y n =
      let found = by (rows_of_change c) y n in
      elim (row_parted c m found.0 found.1.0) [
        | inl one ↦ inl (one.0, found.1.1 (rows_of_change (change_between layouts s u (place_of c))) one.1)
        | inr other ↦ inr (other.0, found.1.1 (rows_of_change (change_between layouts u w (place_of c))) other.1)
      ]

  -- a check reads the key on the second state, over the changes up to it, or on the third, over those behind it
  abbrev IsRead : Form → LockKey → Type 0
  IsRead form read = Contains (check_keys layouts u form earlier) read ⊎ Contains (check_keys layouts w form later) read

  found_by : (form : Form) (state : State) (changes : List Change) (c : Change) → Contains changes c → (read : LockKey) → Contains (finding_keys layouts form c) read → Contains (check_keys layouts state form changes) read
  found_by form state changes c m read n =
      in_left (flat_map (finding_keys layouts form) changes) (flat_map (keys_for layouts state form) (candidates_of layouts state changes form)) read (in_flat (finding_keys layouts form) changes c read m n)

  looked_at : (form : Form) (state : State) (changes : List Change) (root : Root) → Contains (candidates_of layouts state changes form) root → (read : LockKey) → Contains (keys_for layouts state form root) read
      → Contains (check_keys layouts state form changes) read
  looked_at form state changes root m read n =
      in_right (flat_map (finding_keys layouts form) changes) (flat_map (keys_for layouts state form) (candidates_of layouts state changes form)) read (in_flat (keys_for layouts state form) (candidates_of layouts state changes form) root read m n)

  candidate_of : (form : Form) (state : State) (changes : List Change) (c : Change) → Contains changes c → (root : Root) → Contains (candidates layouts state c form) root → Contains (candidates_of layouts state changes form) root
  candidate_of form state changes c m root n = in_flat (λ change. candidates layouts state change form) changes c root m n

  finding_read : (form : Form) (c : Change) → Contains whole c → (read : LockKey) → Contains (finding_keys layouts form c) read → IsRead form read
  finding_read (ByGroup table restriction group having aggregates) c m read n = absurd (not_in_nil read n)
  finding_read (Single condition queries) c m read n = absurd (not_in_nil read n)
  finding_read (ByRow table condition queries) c m read n =
      elim (made_parted keys_of_rows by_rows c m read n) [
        | inl one ↦ inl (found_by form u earlier (change_between layouts s u (place_of c)) one.0 read one.1)
        | inr other ↦ inr (found_by form w later (change_between layouts u w (place_of c)) other.0 read other.1)
      ]
    where
      form : Form
      form = ByRow table condition queries

      columns : Query Link → List RowValues → List LockKey
      columns q rows = map (InColumn table q.grouping.outer) (linked_values q.grouping rows)

      keys_of : Query Link → List RowValues → List LockKey
      keys_of q rows = cond (q.grouping.outer == key_of table layouts) [] (cond (q.table == c.table) (columns q rows) [])

      keys_of_rows : List RowValues → List LockKey
      keys_of_rows rows = flat_map (λ q. keys_of q rows) queries

      by_rows : ComesByRow keys_of_rows
      by_rows = each_by_row keys_of (λ q.
          either_by_row (q.grouping.outer == key_of table layouts) (λ rows. []) (λ rows. cond (q.table == c.table) (columns q rows) []) none_by_row
          (either_by_row (q.table == c.table) (columns q) (λ rows. []) (mapped_by_row (linked_values q.grouping) (InColumn table q.grouping.outer) (linked_by_row q.grouping)) none_by_row)) queries

  -- by rows
  module _ (table : ℕ) (condition : Cond) (queries : List (Query Link)) where
    abbrev by_row : Form
    by_row = ByRow table condition queries

    abbrev key : ℕ
    key = key_of table layouts

    abbrev at : Value → Place
    at k = record { table = table; key = k }

    own_candidate : (state : State) (changes : List Change) (c : Change) → Contains changes c → (table == c.table) ≡ true → Contains (candidates_of layouts state changes by_row) (Of c.key)
    own_candidate state changes c m e =
        candidate_of by_row state changes c m (Of c.key)
        (in_left (cond (table == c.table) (Of c.key ∷ []) []) (flat_map (query_candidates key (rows_of table state) c) queries) (Of c.key) (subst (λ b. Contains (cond b (Of c.key ∷ []) []) (Of c.key)) (sym e) (in_head (Of c.key) [])))

    linked_candidate : (state : State) (changes : List Change) (c : Change) → Contains changes c → (q : Query Link) → Contains queries q → (q.table == c.table) ≡ true
        → (v : Value) → Contains (linked_values q.grouping (rows_of_change c)) v → (root : Root) → Contains (linked_roots key q.grouping (rows_of table state) v) root
        → Contains (candidates_of layouts state changes by_row) root
    linked_candidate state changes c m q n e v linked root k =
        let roots : List Root = flat_map (linked_roots key q.grouping (rows_of table state)) (linked_values q.grouping (rows_of_change c)) in
        candidate_of by_row state changes c m root
        (in_right (cond (table == c.table) (Of c.key ∷ []) []) (flat_map (query_candidates key (rows_of table state) c) queries) root
        (in_flat (query_candidates key (rows_of table state) c) queries q root n
        (subst (λ b. Contains (cond b roots []) root) (sym e) (in_flat (linked_roots key q.grouping (rows_of table state)) (linked_values q.grouping (rows_of_change c)) v root linked k))))

    -- the root of a key: where the row there has changed behind the second state, it is a candidate by its own key
    root_read : (k : Value)
        → (row_in layouts u (at k) ≡ row_in layouts w (at k) → Contains (candidates_of layouts u earlier by_row) (Of k) ⊎ Contains (candidates_of layouts w later by_row) (Of k))
        → (read : LockKey) → Contains (keys_for layouts w by_row (Of k)) read → IsRead by_row read
    root_read k is read n = elim (net_all layouts u w fu fw (at k)) [
      | inr changed ↦ inr (looked_at by_row w later (Of k) (own_candidate w later (change_between layouts u w (at k)) changed (eq-eqb table table refl)) read n)
      | inl same ↦ elim (is same) [
        | inl one ↦ inl (looked_at by_row u earlier (Of k) one read (subst (λ o. Contains (OneRow (at k) ∷ flat_map (query_keys layouts key k o) queries) read) (sym same) n))
        | inr other ↦ inr (looked_at by_row w later (Of k) other read n)
      ]
    ]

    own_read : (c : Change) → Contains whole c → (root : Root) → Contains (cond (table == c.table) (Of c.key ∷ []) []) root → (read : LockKey) → Contains (keys_for layouts w by_row root) read → IsRead by_row read
    own_read c m root n read k = go (table == c.table) refl n
      where
        go : (b : Bool) → (table == c.table) ≡ b → Contains (cond b (Of c.key ∷ []) []) root → IsRead by_row read
        go false e n = absurd (not_in_nil root n)
        go true e n = elim (in_cases (Of c.key) [] root n) [
          | inr none ↦ absurd (not_in_nil root none)
          | inl is ↦ root_read c.key (λ same. elim (place_parted c m) [
            | inl one ↦ inl (own_candidate u earlier (change_between layouts s u (place_of c)) one.0 e)
            | inr other ↦ inr (own_candidate w later (change_between layouts u w (place_of c)) other.0 e)
          ]) read (subst (λ root. Contains (keys_for layouts w by_row root) read) (sym is) k)
        ]

    -- a root to which a change up to the second state links on the third: it links there on the second too, where its row is the same
    linked_read : (c : Change) → Contains earlier c → (q : Query Link) → Contains queries q → (q.table == c.table) ≡ true → (v : Value) → Contains (linked_values q.grouping (rows_of_change c)) v
        → (root : Root) → Contains (linked_roots key q.grouping (rows_of table w) v) root → (read : LockKey) → Contains (keys_for layouts w by_row root) read → IsRead by_row read
    linked_read c m q n e v linked root l read k = go (q.grouping.outer == key) refl l
      where
        is_joined : RowValues → Bool
        is_joined row = same_value v (value_in q.grouping.outer row)

        root_of : RowValues → Root
        root_of row = Of (value_in key row)

        roots_by : Bool → State → List Root
        roots_by b state = cond b (Of v ∷ []) (map root_of (filter is_joined (rows_of table state)))

        go : (b : Bool) → (q.grouping.outer == key) ≡ b → Contains (roots_by b w) root → IsRead by_row read
        go true by_key l = elim (in_cases (Of v) [] root l) [
          | inr none ↦ absurd (not_in_nil root none)
          | inl is ↦
              root_read v (λ same. inl (linked_candidate u earlier c m q n e v linked (Of v) (subst (λ b. Contains (roots_by b u) (Of v)) (sym by_key) (in_head (Of v) []))))
              read (subst (λ root. Contains (keys_for layouts w by_row root) read) (sym is) k)
        ]
        go false other l =
            let found = from_map root_of (filter is_joined (rows_of table w)) root l in
            let row : RowValues = found.0 in
            let joined : is_joined row ≡ true = filter_passes is_joined (rows_of table w) row found.1.0 in
            let stands : row_in layouts w (at (value_in key row)) ≡ Some row = at_member value_cmp_total value_exact (value_in key) (rows_of table w) (fw.ordered table) row (from_filter is_joined (rows_of table w) row found.1.0) in
            root_read (value_in key row) (λ same.
            let there : Contains (rows_of table u) row = at_in value_cmp (value_in key) (value_in key row) (rows_of table u) row (same ∙ stands) in
            inl (linked_candidate u earlier c m q n e v linked (root_of row)
            (subst (λ b. Contains (roots_by b u) (root_of row)) (sym other) (in_map root_of (filter is_joined (rows_of table u)) row (in_filter is_joined (rows_of table u) row joined there)))))
            read (subst (λ root. Contains (keys_for layouts w by_row root) read) (sym found.1.1) k)

    query_read : (c : Change) → Contains whole c → (q : Query Link) → Contains queries q → (root : Root) → Contains (query_candidates key (rows_of table w) c q) root
        → (read : LockKey) → Contains (keys_for layouts w by_row root) read → IsRead by_row read
    query_read c m q n root l read k = go (q.table == c.table) refl l
      where
        go : (b : Bool) → (q.table == c.table) ≡ b → Contains (cond b (flat_map (linked_roots key q.grouping (rows_of table w)) (linked_values q.grouping (rows_of_change c))) []) root → IsRead by_row read
        go false e l = absurd (not_in_nil root l)
        go true e l =
            let found = from_flat (linked_roots key q.grouping (rows_of table w)) (linked_values q.grouping (rows_of_change c)) root l in
            elim (made_parted (linked_values q.grouping) (linked_by_row q.grouping) c m found.0 found.1.0) [
              | inl one ↦ linked_read (change_between layouts s u (place_of c)) one.0 q n e found.0 one.1 root found.1.1 read k
              | inr other ↦ inr (looked_at by_row w later root (linked_candidate w later (change_between layouts u w (place_of c)) other.0 q n e found.0 other.1 root found.1.1) read k)
            ]

    row_read : (c : Change) → Contains whole c → (root : Root) → Contains (candidates layouts w c by_row) root → (read : LockKey) → Contains (keys_for layouts w by_row root) read → IsRead by_row read
    row_read c m root n read k =
        in_either (IsRead by_row read) (cond (table == c.table) (Of c.key ∷ []) []) (flat_map (query_candidates key (rows_of table w) c) queries) root
        (λ own. own_read c m root own read k)
        (λ linked. let found = from_flat (query_candidates key (rows_of table w) c) queries root linked in query_read c m found.0 found.1.0 root found.1.1 read k) n

  -- a root that is a candidate of a change on whatever state, and is looked at under the same keys on both
  root_parted : (form : Form) (root : Root) → keys_for layouts u form root ≡ keys_for layouts w form root → (c : Change)
      → IsParted (place_of c) (λ d. (state : State) → Contains (candidates layouts state d form) root) → (read : LockKey) → Contains (keys_for layouts w form root) read → IsRead form read
  root_parted form root same c (inl one) read k =
      inl (looked_at form u earlier root (candidate_of form u earlier (change_between layouts s u (place_of c)) one.0 root (one.1 u)) read (subst (λ keys. Contains keys read) (sym same) k))
  root_parted form root same c (inr other) read k =
      inr (looked_at form w later root (candidate_of form w later (change_between layouts u w (place_of c)) other.0 root (other.1 w)) read k)

  candidate_read : (form : Form) (c : Change) → Contains whole c → (root : Root) → Contains (candidates layouts w c form) root → (read : LockKey) → Contains (keys_for layouts w form root) read → IsRead form read
  candidate_read (ByRow table condition queries) c m root n read k = row_read table condition queries c m root n read k
  candidate_read (ByGroup table restriction group having aggregates) c m root n read k =
      root_parted (ByGroup table restriction group having aggregates) root (same root) c (elim (made_parted roots by_rows c m root n) [
        | inl one ↦ inl (one.0, λ state. one.1)
        | inr other ↦ inr (other.0, λ state. other.1)
      ]) read k
    where
      roots : List RowValues → List Root
      roots rows = cond (table == c.table) (group_candidates group rows) []

      by_rows : ComesByRow roots
      by_rows = either_by_row (table == c.table) (group_candidates group) (λ rows. []) (groups_by_row group) none_by_row

      same : (root : Root) → keys_for layouts u (ByGroup table restriction group having aggregates) root ≡ keys_for layouts w (ByGroup table restriction group having aggregates) root
      same All = refl
      same (Of v) = refl
  candidate_read (Single condition queries) c m root n read k =
      root_parted (Single condition queries) root (same root) c (elim (place_parted c m) [
        | inl one ↦ inl (one.0, λ state. n)
        | inr other ↦ inr (other.0, λ state. n)
      ]) read k
    where
      same : (root : Root) → keys_for layouts u (Single condition queries) root ≡ keys_for layouts w (Single condition queries) root
      same All = refl
      same (Of v) = refl

  -- what a check reads on the third state over all changes, one reads on the second or the third over its own
  pub check_parted : (form : Form) (read : LockKey) → Contains (check_keys layouts w form whole) read → IsRead form read
  check_parted form read m =
      in_either (IsRead form read) (flat_map (finding_keys layouts form) whole) (flat_map (keys_for layouts w form) (candidates_of layouts w whole form)) read
      (λ n. let found = from_flat (finding_keys layouts form) whole read n in finding_read form found.0 found.1.0 read found.1.1)
      (λ n.
      let looked = from_flat (keys_for layouts w form) (candidates_of layouts w whole form) read n in
      let found = from_flat (λ change. candidates layouts w change form) whole looked.0 looked.1.0 in
      candidate_read form found.0 found.1.0 looked.0 found.1.1 read looked.1.1) m

-- assertions beside their modes
from_ones : (modes : Immediates) (assertions : List Assertion) (a : Assertion) → Contains (immediate_ones modes assertions) a → Contains (zip assertions modes) (a, true)
from_ones modes assertions a m =
    let pairs : List (Assertion × Bool) = zip assertions modes in
    let found = from_map (λ (p : Assertion × Bool). p.0) (filter (λ p. p.1) pairs) a m in
    let on : found.0.1 ≡ true = filter_passes (λ (p : Assertion × Bool). p.1) pairs found.0 found.1.0 in
    let is : found.0 ≡ (a, true) = λ i. (found.1.1 i, on i) in
    subst (Contains pairs) is (from_filter (λ (p : Assertion × Bool). p.1) pairs found.0 found.1.0)

to_ones : (modes : Immediates) (assertions : List Assertion) (a : Assertion) → Contains (zip assertions modes) (a, true) → Contains (immediate_ones modes assertions) a
to_ones modes assertions a m =
    let pairs : List (Assertion × Bool) = zip assertions modes in
    in_map (λ (p : Assertion × Bool). p.0) (filter (λ p. p.1) pairs) (a, true) (in_filter (λ (p : Assertion × Bool). p.1) pairs (a, true) refl m)

-- one beside what its mode has become, and the mode that it had
beside : (f : Assertion × Bool → Bool) (assertions : List Assertion) (modes : Immediates) (a : Assertion) (b : Bool) → Contains (zip assertions (map f (zip assertions modes))) (a, b)
    → Contains assertions a × ((mode : Bool) × (Contains (zip assertions modes) (a, mode) × (f (a, mode) ≡ b)))
beside f [] modes a b m = absurd (not_in_nil (a, b) m)
beside f (x ∷ rest) [] a b m = absurd (not_in_nil (a, b) m)
beside f (x ∷ rest) (mode ∷ modes) a b m = elim (in_cases (x, f (x, mode)) (zip rest (map f (zip rest modes))) (a, b) m) [
  | inl same ↦
      let is : x ≡ a = ap (λ (p : Assertion × Bool). p.0) same in
      let became : f (x, mode) ≡ b = ap (λ (p : Assertion × Bool). p.1) same in (
        subst (Contains (x ∷ rest)) is (in_head x rest),
        (mode, (subst (λ y. Contains ((x, mode) ∷ zip rest modes) (y, mode)) is (in_head (x, mode) (zip rest modes)), subst (λ y. f (y, mode) ≡ b) is became)),
      )
  | inr there ↦
      let found = beside f rest modes a b there in
      (in_tail x rest a found.0, (found.1.0, (in_tail (x, mode) (zip rest modes) (a, found.1.0) found.1.1.0, found.1.1.1)))
]

-- those that are immediate after SET CONSTRAINTS .. DEFERRED were so before, and after IMMEDIATE they were or are named
was_one : (names : List (List ℕ)) (modes : Immediates) (assertions : List Assertion) (a : Assertion) → Contains (immediate_ones (modes_with names false assertions modes) assertions) a → Contains (immediate_ones modes assertions) a
was_one names modes assertions a m =
    let found = beside (mode_with names false) assertions modes a true (from_ones (modes_with names false assertions modes) assertions a m) in
    to_ones modes assertions a (subst (λ mode. Contains (zip assertions modes) (a, mode)) (unset (is_named names a.name) found.1.0 found.1.1.1) found.1.1.0)
  where
    unset : (b mode : Bool) → cond b false mode ≡ true → mode ≡ true
    unset true mode h = cc
    unset false mode h = h

was_or_named : (names : List (List ℕ)) (modes : Immediates) (assertions : List Assertion) (a : Assertion) → Contains (immediate_ones (modes_with names true assertions modes) assertions) a
    → Contains (immediate_ones modes assertions) a ⊎ Contains (named_ones names assertions) a
was_or_named names modes assertions a m =
    let found = beside (mode_with names true) assertions modes a true (from_ones (modes_with names true assertions modes) assertions a m) in
    go (is_named names a.name) refl found.0 found.1.0 found.1.1.0 found.1.1.1
  where
    go : (b : Bool) → is_named names a.name ≡ b → Contains assertions a → (mode : Bool) → Contains (zip assertions modes) (a, mode) → cond b true mode ≡ true
        → Contains (immediate_ones modes assertions) a ⊎ Contains (named_ones names assertions) a
    go true e listed mode n h = inr (in_filter (λ a. is_named names a.name) assertions a e listed)
    go false e listed mode n h = inl (to_ones modes assertions a (subst (λ mode. Contains (zip assertions modes) (a, mode)) h n))

module _ (declared : Declared) (s : State) (sound : IsSound declared s) where
  abbrev lays : List Layout
  lays = layouts_in declared

  abbrev all : List Assertion
  all = declared.assertions

  abbrev IsFit : Standing → Type 0
  IsFit now = Together declared s s sound sound now.modes now.view now.view

  fit_after : (now : Standing) → IsFit now → (statement : ResolvedStatement) → IsFit (step_alone declared s now statement).after
  fit_after now fit statement = (ran_same declared s s sound sound (statement ∷ []) now now (refl, fit) (λ key c place. refl)).final.1

  module _ (Known : LockKey → Type 0) where
    -- what a check of the immediate ones would read over the net change since the start is known
    abbrev AreKnown : Standing → Type 0
    AreKnown now = (a : Assertion) → Contains (immediate_ones now.modes all) a → (read : LockKey) → Contains (check_keys lays now.view a.form (net_change lays s now.view)) read → Known read

    abbrev EachKnown : List LockKey → Type 0
    EachKnown reads = (read : LockKey) → Contains reads read → Known read

    unless_known : (fault : Option Refusal) (reply : Reply) (before after : Standing) (reads : List LockKey) → IsState lays (unless_violated fault reply before after reads).after.view → EachKnown (unless_violated fault reply before after reads).reads
        → AreKnown before → (IsState lays after.view → EachKnown reads → AreKnown after) → AreKnown (unless_violated fault reply before after reads).after
    unless_known None reply before after reads fit each known does = does fit each
    unless_known (Some refusal) reply before after reads fit each known does = known

    effect_known : (now : Standing) → IsState lays now.view → (own : List LockKey) (effect : Result Effect Refusal) → IsState lays (step_of_effect declared now own effect).after.view
        → EachKnown (step_of_effect declared now own effect).reads → AreKnown now → AreKnown (step_of_effect declared now own effect).after
    effect_known now fit own (Err refusal) fit' each known = known
    effect_known now fit own (Ok effect) fit' each known =
        let w : State = state_after_all lays effect.changes now.view in
        let ones : List Assertion = immediate_ones now.modes all in
        let checks : List LockKey = checks_read lays w ones (net_change lays now.view w) in
        unless_known (violation lays ones w) effect.reply now (record { view = w; modes = now.modes }) (own ++ checks) fit' each known (λ fits reads a m key n.
        elim (check_parted lays s now.view w sound.fit fit fits a.form key n) [
          | inl one ↦ known a m key one
          | inr other ↦ reads key (in_right own checks key (in_flat (λ (a : Assertion). check_keys lays w a.form (net_change lays now.view w)) ones a key m other))
        ])

    modes_known : (names : List (List ℕ)) (immediate : Bool) (now : Standing) → IsState lays (modes_step declared s names immediate now).after.view → EachKnown (modes_step declared s names immediate now).reads
        → AreKnown now → AreKnown (modes_step declared s names immediate now).after
    modes_known names false now fit each known = λ a m read n. known a (was_one names now.modes all a m) read n
    modes_known names true now fit each known =
        let named : List Assertion = named_ones names all in
        unless_known (violation lays named now.view) ModesSet now (record { view = now.view; modes = modes_with names true all now.modes }) (checks_read lays now.view named (net_change lays s now.view)) fit each known (λ fits reads a m read n.
        elim (was_or_named names now.modes all a m) [
          | inl was ↦ known a was read n
          | inr is ↦ reads read (in_flat (λ (a : Assertion). check_keys lays now.view a.form (net_change lays s now.view)) named a read is n)
        ])

    verdict_known : (found : Option Assertion) (name : List ℕ) (now : Standing) → AreKnown now → AreKnown (verdict_step declared found name now).after
    verdict_known None name now known = known
    verdict_known (Some a) name now known = known

    keyed_known : (b : Bool) (refusal : Refusal) (now : Standing) (step : Step) → IsState lays (unless_key b refusal now step).after.view → EachKnown (unless_key b refusal now step).reads
        → AreKnown now → (IsState lays step.after.view → EachKnown step.reads → AreKnown step.after) → AreKnown (unless_key b refusal now step).after
    keyed_known true refusal now step fit each known does = known
    keyed_known false refusal now step fit each known does = does fit each

    step_known : (statement : ResolvedStatement) (now : Standing) → IsState lays now.view → IsState lays (step_alone declared s now statement).after.view → EachKnown (step_alone declared s now statement).reads
        → AreKnown now → AreKnown (step_alone declared s now statement).after
    step_known (Refuse refusal) now fit fit' each known = known
    step_known (Insert new) now fit fit' each known = effect_known now fit (map OneRow (places_in lays new)) (insert_effect declared.tables new now.view) fit' each known
    step_known (Update x) now fit fit' each known =
        let own : List LockKey = filter_key x.table (key_of x.table lays) x.filter ∷ [] in
        let effect : Result Effect Refusal = update_effect (columns_of x.table lays) x.table (key_of x.table lays) x.sets (found_rows now.view x.table x.filter) in
        keyed_known (sets_key (key_of x.table lays) x.sets) (KeyUpdate (key_name lays x.table)) now (step_of_effect declared now own effect) fit' each known (λ fits reads. effect_known now fit own effect fits reads known)
    step_known (Delete x) now fit fit' each known =
        effect_known now fit (filter_key x.table (key_of x.table lays) x.filter ∷ []) (Ok (delete_effect x.table (key_of x.table lays) (found_rows now.view x.table x.filter))) fit' each known
    step_known (Select x) now fit fit' each known = known
    step_known (SetModes names mode) now fit fit' each known = modes_known names (is_immediate mode) now fit' each known
    step_known (Verdict name) now fit fit' each known = verdict_known (assertion_of name all) name now known

    ran_known : (trace : List ResolvedStatement) (now : Standing) → IsFit now → EachKnown (ran declared s now trace).reads → AreKnown now → AreKnown (ran declared s now trace).final
    ran_known [] now fit each known = known
    ran_known (statement ∷ rest) now fit each known =
        let step : Step = step_alone declared s now statement in
        let more : List LockKey = (ran declared s step.after rest).reads in
        let fit' : IsFit step.after = fit_after now fit statement in
        ran_known rest step.after fit' (λ read m. each read (in_right step.reads more read m))
        (step_known statement now fit.fit fit'.fit (λ read m. each read (in_left step.reads more read m)) known)

  fit_at_begin : IsFit (record { view = s; modes = initial_modes all })
  fit_at_begin = (at_begin declared s s sound sound).1

  nothing_read : (form : Form) (read : LockKey) → Contains (check_keys lays s form (net_change lays s s)) read → ⊥
  nothing_read form read m = not_in_nil read (subst (λ changes. Contains (check_keys lays s form changes) read) (no_net_change lays s) m)

  pub read_once : (trace : List ResolvedStatement)
      → are_among (checks_read lays (run_on declared trace s).final.view (immediate_ones (run_on declared trace s).final.modes all) (net_change lays s (run_on declared trace s).final.view)) (run_on declared trace s).reads ≡ true
  read_once trace =
      let now : Standing = (run_on declared trace s).final in
      let reads : List LockKey = (run_on declared trace s).reads in
      let ones : List Assertion = immediate_ones now.modes all in
      among_from (checks_read lays now.view ones (net_change lays s now.view)) reads (λ read m.
      let found = from_flat (λ (a : Assertion). check_keys lays now.view a.form (net_change lays s now.view)) ones read m in
      ran_known (Contains reads) trace (record { view = s; modes = initial_modes all }) fit_at_begin (λ key n. n) (λ a n key k. absurd (nothing_read a.form key k)) found.0 found.1.0 read found.1.1)
