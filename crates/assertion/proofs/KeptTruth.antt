-- A root that is no candidate of a change keeps its truth.
use Rattle.std.proofs.Common.{◌≡◌, ◌≢◌, ℕ, Bool, true, false, cond, List, [], ◌∷◌, Option, Some, None, map, length, refl, sym, ◌∙◌, ap, subst, arith}
use Rattle.std.specs.Prelude.{◌==◌, ◌&&◌, ◌||◌, filter, flat_map, nat_lt, if◌then◌else◌}
use Rattle.std.specs.Ordering.{eq_by_cmp, is_eq}
use Rattle.std.proofs.lemmas.List.{get_or-set_same, get_or-set_other}
use Rattle.std.proofs.lemmas.Bool.Decides.{nat_tests}
use Rattle.std.proofs.lemmas.Bool.{or_parts}
use Rattle.std.proofs.lemmas.Cmp.{tied_itself}
use Rattle.std.proofs.Math.Bool.{and-false}
use Rattle.value.specs.declared.values.Value.{Value}
use Rattle.value.specs.declared.values.Value.TheVariants.{Null, Int, Text}
use Rattle.value.specs.declared.values.Root.{Root}
use Rattle.value.specs.declared.values.Root.TheVariants.{All, Of}
use Rattle.value.specs.declared.comparisons.Comparison.TheVariants.{Equal}
use Rattle.value.specs.ValueOrder.{value_cmp, root_cmp}
use Rattle.value.specs.Ordered as ordered
use Rattle.value.proofs.OrderedLists.{has, at-put, equal_from, IsAscending-put}
use Rattle.value.proofs.ValueOrders.{value_cmp_total, value_exact}
use Rattle.value.specs.declared.truths.Truth.TheVariants.{True, False}
use Rattle.value.specs.Truths.{is_of, truth_of_bool}
use Rattle.table.specs.declared.rows.Change.{Change}
use Rattle.table.specs.Rows.{RowValues, Layout, value_in, row_at, put_row, key_of}
use Rattle.table.specs.Aggregates.{is_there, aggregate, rows_of_group}
use Rattle.table.specs.declared.conds.Cond.{Cond}
use Rattle.table.specs.Eval.{truth, keeps}
use Rattle.table.specs.Values.{comparison_truth}
use Rattle.assertion.specs.declared.queries.Query.{Query}
use Rattle.assertion.specs.declared.queries.Link.{Link}
use Rattle.assertion.specs.declared.queries.Whole.{Whole}
use Rattle.assertion.specs.declared.forms.Form.{Form}
use Rattle.assertion.specs.declared.forms.Form.TheVariants.{ByRow, ByGroup, Single}
use Rattle.assertion.specs.Meaning.{State, rows_of, links, linked_answer, plain_answer, filtered_rows}
use Rattle.assertion.specs.Candidates.{rows_of_change, linked_values, linked_roots, group_candidates, query_candidates, is_named, candidates, candidates_of}
use Rattle.assertion.specs.Roots.{is_bad_row, is_bad_root}
use Rattle.assertion.specs.Changes.{IsOrdered, IsChangeOf, AreChangesOf, state_after, state_after_all}
use Rattle.assertion.proofs.BadRoots.{passes, has-row}
use Rattle.assertion.proofs.ListLemmas.{has-append, has-neither, filter-filter, Drops, DropsAll, DropsAll-two, filter-put, at-key}

pub equal_of : (a b : ℕ) → (a == b) ≡ true → a ≡ b
equal_of a b h = grind (arith, nat_tests)

pub unequal_of : (a b : ℕ) → (a == b) ≡ false → a ≢ b
unequal_of a b h = grind (arith, nat_tests)

is_of-known : (b : Bool) → is_of (truth_of_bool b) True ≡ b
is_of-known true = refl
is_of-known false = refl

pub equals-there : (key w : Value) → is_of (comparison_truth Equal key w) True ≡ is_there w && eq_by_cmp value_cmp key w
equals-there Null Null = refl
equals-there Null (Int n) = refl
equals-there Null (Text t) = refl
equals-there (Int m) Null = refl
equals-there (Int m) (Int n) = is_of-known (eq_by_cmp value_cmp (Int m) (Int n))
equals-there (Int m) (Text t) = refl
equals-there (Text s) Null = refl
equals-there (Text s) (Int n) = refl
equals-there (Text s) (Text t) = is_of-known (eq_by_cmp value_cmp (Text s) (Text t))

-- a row links to those that have its value in their column, if it isn't NULL
pub links-there : (link : Link) (row linked : RowValues) → links link row linked ≡ is_there (value_in link.inner linked) && eq_by_cmp value_cmp (value_in link.outer row) (value_in link.inner linked)
links-there link row linked = equals-there (value_in link.outer row) (value_in link.inner linked)

-- values that are not the same are not from the other side either
apart : (v w : Value) → eq_by_cmp value_cmp w v ≡ false → eq_by_cmp value_cmp v w ≡ false
apart v w h =
    let case : (b : Bool) → eq_by_cmp value_cmp v w ≡ b → b ≡ false = λ b. elim b as (λ b. eq_by_cmp value_cmp v w ≡ b → b ≡ false) [
      | true ↦ λ e.
          let same : v ≡ w = value_exact v w (equal_from (value_cmp v w) e) in
          sym (ap is_eq (tied_itself value_cmp_total w)) ∙ subst (λ x. eq_by_cmp value_cmp w x ≡ false) same h
      | false ↦ λ e. refl
    ]
    in case (eq_by_cmp value_cmp v w) refl

module _ (key : ℕ) (link : Link) (v : Value) (rows : List RowValues) (asc : ordered.IsAscending value_cmp (value_in key) rows) where
  -- whether a value links to the root of a key, by the row under it
  abbrev pub is_linked : Value → Option RowValues → Bool
  is_linked w row = if link.outer == key then eq_by_cmp value_cmp v w else passes (λ row. eq_by_cmp value_cmp w (value_in link.outer row)) row

  or-none : (b : Bool) → (b || false) ≡ b
  or-none true = refl
  or-none false = refl

  pub linked-has : (w : Value) → has root_cmp (Of v) (linked_roots key link rows w) ≡ is_linked w (row_at key v rows)
  linked-has w = elim (link.outer == key) as (λ b.
      has root_cmp (Of v) (if b then Of w ∷ [] else map (λ row. Of (value_in key row)) (filter (λ row. eq_by_cmp value_cmp w (value_in link.outer row)) rows))
      ≡ (if b then eq_by_cmp value_cmp v w else passes (λ row. eq_by_cmp value_cmp w (value_in link.outer row)) (row_at key v rows))) [
        | true ↦ or-none (eq_by_cmp value_cmp v w)
        | false ↦ has-row key (λ row. eq_by_cmp value_cmp w (value_in link.outer row)) v rows asc
      ]

  module _ (row : RowValues) (stands : row_at key v rows ≡ Some row) where
    -- a value that doesn't link to the root isn't the one of its row
    other_value : (w : Value) → has root_cmp (Of v) (linked_roots key link rows w) ≡ false → eq_by_cmp value_cmp (value_in link.outer row) w ≡ false
    other_value w h =
        let case : (b : Bool) → (link.outer == key) ≡ b → (if b then eq_by_cmp value_cmp v w else eq_by_cmp value_cmp w (value_in link.outer row)) ≡ false → eq_by_cmp value_cmp (value_in link.outer row) w ≡ false
        = λ b. elim b as (λ b. (link.outer == key) ≡ b → (if b then eq_by_cmp value_cmp v w else eq_by_cmp value_cmp w (value_in link.outer row)) ≡ false → eq_by_cmp value_cmp (value_in link.outer row) w ≡ false) [
          | true ↦ λ e f.
              let own : value_in link.outer row ≡ v = ap (λ c. value_in c row) (equal_of link.outer key e) ∙ sym (value_exact v (value_in key row) (at-key value_cmp (value_in key) v rows row stands)) in
              ap (λ x. eq_by_cmp value_cmp x w) own ∙ f
          | false ↦ λ e f. apart (value_in link.outer row) w f
        ]
        in case (link.outer == key) refl (ap (is_linked w) (sym stands) ∙ sym (linked-has w) ∙ h)

    -- where no linked column of some rows holds the value of the root's row, the subquery's filter drops each of them
    pub not_linked : (restriction : Cond) (touched : List RowValues) → has root_cmp (Of v) (flat_map (linked_roots key link rows) (linked_values link touched)) ≡ false → DropsAll (λ linked. links link row linked && keeps linked row restriction) touched
    not_linked restriction [] h = tt
    not_linked restriction (linked ∷ more) h =
        let w : Value = value_in link.inner linked in
        let rest : List Value = linked_values link more in
        let unlinked : is_there w && eq_by_cmp value_cmp (value_in link.outer row) w ≡ false → links link row linked && keeps linked row restriction ≡ false = λ e. ap (λ b. b && keeps linked row restriction) (links-there link row linked ∙ e) in
        let case : (b : Bool) → is_there w ≡ b → has root_cmp (Of v) (flat_map (linked_roots key link rows) (cond b (w ∷ rest) rest)) ≡ false → DropsAll (λ linked. links link row linked && keeps linked row restriction) (linked ∷ more)
        = λ b. elim b as (λ b. is_there w ≡ b → has root_cmp (Of v) (flat_map (linked_roots key link rows) (cond b (w ∷ rest) rest)) ≡ false → DropsAll (λ linked. links link row linked && keeps linked row restriction) (linked ∷ more)) [
          | true ↦ λ e h.
              let parts : (has root_cmp (Of v) (linked_roots key link rows w) ≡ false) × (has root_cmp (Of v) (flat_map (linked_roots key link rows) rest) ≡ false)
              = has-neither root_cmp (Of v) (linked_roots key link rows w) (flat_map (linked_roots key link rows) rest) h in
              (unlinked (ap (λ b. is_there w && b) (other_value w parts.0) ∙ and-false (is_there w)), not_linked restriction more parts.1)
          | false ↦ λ e h. (unlinked (ap (λ b. b && eq_by_cmp value_cmp (value_in link.outer row) w) e), not_linked restriction more h)
        ]
        in case (is_there w) refl h

-- where none of some rows is of a group, the group's filter drops each
pub not_of_group : (group : ℕ) (v : Value) (restriction : Cond) (rows : List RowValues) → has root_cmp (Of v) (group_candidates group rows) ≡ false → DropsAll (λ row. keeps row [] restriction && eq_by_cmp value_cmp v (value_in group row)) rows
not_of_group group v restriction [] h = tt
not_of_group group v restriction (row ∷ rows) h =
    let parts : (eq_by_cmp value_cmp v (value_in group row) ≡ false) × (has root_cmp (Of v) (group_candidates group rows) ≡ false) = or_parts (eq_by_cmp value_cmp v (value_in group row)) (has root_cmp (Of v) (group_candidates group rows)) h in
    (ap (λ b. keeps row [] restriction && b) parts.0 ∙ and-false (keeps row [] restriction), not_of_group group v restriction rows parts.1)

-- what isn't in a list that stands under a test
under : (r : Root) (b : Bool) (rs : List Root) → has root_cmp r (if b then rs else []) ≡ false → b ≡ true → has root_cmp r rs ≡ false
under r b rs h e = rw e at h

module _ (layouts : List Layout) (change : Change) (state : State) where
  -- the changed table's rows after the change
  pub rows-changed : IsChangeOf layouts change state → (t : ℕ) → (t == change.table) ≡ true → rows_of t (state_after layouts change state) ≡ put_row (key_of t layouts) change.key change.new (rows_of t state)
  rows-changed is t e = rw (equal_of t change.table e) (get_or-set_same state change.table (put_row (key_of change.table layouts) change.key change.new (rows_of change.table state)) [] is.table_in)

  -- another table's rows
  pub rows-same : (t : ℕ) → (t == change.table) ≡ false → rows_of t (state_after layouts change state) ≡ rows_of t state
  rows-same t e = get_or-set_other state change.table t (put_row (key_of change.table layouts) change.key change.new (rows_of change.table state)) [] (unequal_of t change.table e)

  stands_at : IsChangeOf layouts change state → (t : ℕ) → (t == change.table) ≡ true → row_at (key_of t layouts) change.key (rows_of t state) ≡ change.old
  stands_at is t e = rw (equal_of t change.table e) is.stands

  keyed_at : IsChangeOf layouts change state → (t : ℕ) → (t == change.table) ≡ true → ordered.HasKey value_cmp (value_in (key_of t layouts)) change.key change.new
  keyed_at is t e = rw (equal_of t change.table e) is.keyed

  -- each table's rows stay in key order
  pub IsOrdered-after : IsChangeOf layouts change state → IsOrdered layouts state → IsOrdered layouts (state_after layouts change state)
  IsOrdered-after is asc t =
      let Goes : List RowValues → Type 0 = λ rows. ordered.IsAscending value_cmp (value_in (key_of t layouts)) rows in
      let case : (b : Bool) → (t == change.table) ≡ b → Goes (rows_of t (state_after layouts change state)) = λ b. elim b as (λ b. (t == change.table) ≡ b → Goes (rows_of t (state_after layouts change state))) [
        | true ↦ λ e. subst Goes (sym (rows-changed is t e)) (IsAscending-put value_cmp_total (value_in (key_of t layouts)) change.key change.new (rows_of t state) (keyed_at is t e) (asc t))
        | false ↦ λ e. subst Goes (sym (rows-same t e)) (asc t)
      ]
      in case (t == change.table) refl

  -- what a filter keeps of a table is unchanged, where it is another table or drops the old and the new row
  pub filtered-same : IsChangeOf layouts change state → (t : ℕ) (p : RowValues → Bool) → ((t == change.table) ≡ true → DropsAll p (rows_of_change change)) → filter p (rows_of t (state_after layouts change state)) ≡ filter p (rows_of t state)
  filtered-same is t p h =
      let case : (b : Bool) → (t == change.table) ≡ b → filter p (rows_of t (state_after layouts change state)) ≡ filter p (rows_of t state) = λ b. elim b as (λ b. (t == change.table) ≡ b → filter p (rows_of t (state_after layouts change state)) ≡ filter p (rows_of t state)) [
        | true ↦ λ e.
            let two : Drops p change.old × Drops p change.new = DropsAll-two p change.old change.new (h e) in
            ap (filter p) (rows-changed is t e) ∙ filter-put value_cmp (value_in (key_of t layouts)) p change.key change.new (rows_of t state) (subst (Drops p) (sym (stands_at is t e)) two.0) two.1
        | false ↦ λ e. ap (filter p) (rows-same t e)
      ]
      in case (t == change.table) refl

  -- a subquery's answer for the row of a root to which no touched row is linked
  module _ (table : ℕ) (v : Value) (row : RowValues) (asc : IsOrdered layouts (state_after layouts change state)) (stands : row_at (key_of table layouts) v (rows_of table (state_after layouts change state)) ≡ Some row) where
    abbrev stored : List RowValues
    stored = rows_of table (state_after layouts change state)

    linked-same : IsChangeOf layouts change state → (q : Query Link) → has root_cmp (Of v) (query_candidates (key_of table layouts) stored change q) ≡ false → linked_answer (state_after layouts change state) row q ≡ linked_answer state row q
    linked-same is q h =
        ap (aggregate q.aggregate) (filtered-same is q.table (λ linked. links q.grouping row linked && keeps linked row q.filter)
        (λ e. not_linked (key_of table layouts) q.grouping v stored (asc table) row stands q.filter (rows_of_change change)
        (under (Of v) (q.table == change.table) (flat_map (linked_roots (key_of table layouts) q.grouping stored) (linked_values q.grouping (rows_of_change change))) h e)))

    answers-same : IsChangeOf layouts change state → (qs : List (Query Link)) → has root_cmp (Of v) (flat_map (query_candidates (key_of table layouts) stored change) qs) ≡ false
        → map (linked_answer (state_after layouts change state) row) qs ≡ map (linked_answer state row) qs
    answers-same is [] h = refl
    answers-same is (q ∷ qs) h =
        let mine : List Root = query_candidates (key_of table layouts) stored change q in
        let others : List Root = flat_map (query_candidates (key_of table layouts) stored change) qs in
        let parts : (has root_cmp (Of v) mine ≡ false) × (has root_cmp (Of v) others ≡ false) = has-neither root_cmp (Of v) mine others h in
        ap (λ a. a ∷ map (linked_answer (state_after layouts change state) row) qs) (linked-same is q parts.0)
        ∙ ap (λ rest. linked_answer state row q ∷ rest) (answers-same is qs parts.1)

  -- the row under a key that isn't the changed one
  pub row-same : IsChangeOf layouts change state → IsOrdered layouts state → (t : ℕ) (v : Value) → has root_cmp (Of v) (if t == change.table then Of change.key ∷ [] else []) ≡ false
      → row_at (key_of t layouts) v (rows_of t (state_after layouts change state)) ≡ row_at (key_of t layouts) v (rows_of t state)
  row-same is asc t v =
      let case : (b : Bool) → (t == change.table) ≡ b → has root_cmp (Of v) (if b then Of change.key ∷ [] else []) ≡ false → row_at (key_of t layouts) v (rows_of t (state_after layouts change state)) ≡ row_at (key_of t layouts) v (rows_of t state)
      = λ b. elim b as (λ b. (t == change.table) ≡ b → has root_cmp (Of v) (if b then Of change.key ∷ [] else []) ≡ false → row_at (key_of t layouts) v (rows_of t (state_after layouts change state)) ≡ row_at (key_of t layouts) v (rows_of t state)) [
        | true ↦ λ e h.
            let other : eq_by_cmp value_cmp v change.key ≡ false = (or_parts (eq_by_cmp value_cmp v change.key) false h).0 in
            ap (row_at (key_of t layouts) v) (rows-changed is t e)
            ∙ at-put value_cmp_total (value_in (key_of t layouts)) change.key change.new (rows_of t state) (keyed_at is t e) (asc t) v
            ∙ ap (λ b. cond b change.new (row_at (key_of t layouts) v (rows_of t state))) other
        | false ↦ λ e h. ap (row_at (key_of t layouts) v) (rows-same t e)
      ]
      in case (t == change.table) refl

  -- the rows of a group that neither row of the change is of
  pub group-same : IsChangeOf layouts change state → (t group : ℕ) (restriction : Cond) (v : Value) → has root_cmp (Of v) (if t == change.table then group_candidates group (rows_of_change change) else []) ≡ false
      → rows_of_group group v (filtered_rows restriction (rows_of t (state_after layouts change state))) ≡ rows_of_group group v (filtered_rows restriction (rows_of t state))
  group-same is t group restriction v h =
      filter-filter (λ row. eq_by_cmp value_cmp v (value_in group row)) (λ row. keeps row [] restriction) (rows_of t (state_after layouts change state))
      ∙ filtered-same is t (λ row. keeps row [] restriction && eq_by_cmp value_cmp v (value_in group row))
      (λ e. not_of_group group v restriction (rows_of_change change) (under (Of v) (t == change.table) (group_candidates group (rows_of_change change)) h e))
      ∙ sym (filter-filter (λ row. eq_by_cmp value_cmp v (value_in group row)) (λ row. keeps row [] restriction) (rows_of t state))

  -- subqueries none of whose tables is changed
  pub plain-same : (qs : List (Query Whole)) → is_named change.table qs ≡ false → map (plain_answer (state_after layouts change state)) qs ≡ map (plain_answer state) qs
  plain-same [] h = refl
  plain-same (q ∷ qs) h =
      let parts : ((q.table == change.table) ≡ false) × (is_named change.table qs ≡ false) = or_parts (q.table == change.table) (is_named change.table qs) h in
      ap (λ rows. aggregate q.aggregate (filter (λ row. keeps row [] q.filter) rows) ∷ map (plain_answer (state_after layouts change state)) qs) (rows-same q.table parts.0)
      ∙ ap (λ rest. plain_answer state q ∷ rest) (plain-same qs parts.1)

  -- the truth of the row of a root to which no touched row is linked
  bad_row-same : IsChangeOf layouts change state → IsOrdered layouts (state_after layouts change state) → (table : ℕ) (c : Cond) (qs : List (Query Link)) (v : Value)
      → has root_cmp (Of v) (flat_map (query_candidates (key_of table layouts) (rows_of table (state_after layouts change state)) change) qs) ≡ false
      → (row : Option RowValues) → row_at (key_of table layouts) v (rows_of table (state_after layouts change state)) ≡ row → is_bad_row (state_after layouts change state) c qs row ≡ is_bad_row state c qs row
  bad_row-same is asc table c qs v h None e = refl
  bad_row-same is asc table c qs v h (Some row) e = ap (λ slots. keeps row slots c) (answers-same table v row asc e is qs h)

  not_named : (b : Bool) → has root_cmp All (if b then All ∷ [] else []) ≡ false → b ≡ false
  not_named true h = cc
  not_named false h = refl

  -- a root that is no candidate keeps its truth
  pub kept_truth : IsChangeOf layouts change state → IsOrdered layouts state → (form : Form) (r : Root) → has root_cmp r (candidates layouts (state_after layouts change state) change form) ≡ false
      → is_bad_root layouts form (state_after layouts change state) r ≡ is_bad_root layouts form state r
  kept_truth is asc (ByRow table c queries) All h = refl
  kept_truth is asc (ByRow table c queries) (Of v) h =
      let after : State = state_after layouts change state in
      let mine : List Root = if table == change.table then Of change.key ∷ [] else [] in
      let others : List Root = flat_map (query_candidates (key_of table layouts) (rows_of table after) change) queries in
      let parts : (has root_cmp (Of v) mine ≡ false) × (has root_cmp (Of v) others ≡ false) = has-neither root_cmp (Of v) mine others h in
      bad_row-same is (IsOrdered-after is asc) table c queries v parts.1 (row_at (key_of table layouts) v (rows_of table after)) refl
      ∙ ap (is_bad_row state c queries) (row-same is asc table v parts.0)
  kept_truth is asc (ByGroup table restriction group having aggregates) All h = refl
  kept_truth is asc (ByGroup table restriction group having aggregates) (Of v) h =
      ap (λ members. nat_lt 0 (length members) && keeps (v ∷ []) (map (λ a. aggregate a members) aggregates) having) (group-same is table group restriction v h)
  kept_truth is asc (Single c queries) All h = ap (λ slots. is_of (truth [] slots c) False) (plain-same queries (not_named (is_named change.table queries) h))
  kept_truth is asc (Single c queries) (Of v) h = refl

-- ---- changes that are put in one after the other

module _ (layouts : List Layout) where
  IsOrdered-after_all : (changes : List Change) (state : State) → AreChangesOf layouts changes state → IsOrdered layouts state → IsOrdered layouts (state_after_all layouts changes state)
  IsOrdered-after_all [] state are asc = asc
  IsOrdered-after_all (change ∷ changes) state are asc = IsOrdered-after_all changes (state_after layouts change state) are.1 (IsOrdered-after layouts change state are.0 asc)

  -- the row of a root that is a candidate of none of them stays
  row-same_all : (table : ℕ) (c : Cond) (queries : List (Query Link)) (v : Value) (end : State) (changes : List Change) (state : State) → AreChangesOf layouts changes state → IsOrdered layouts state → has root_cmp (Of v) (candidates_of layouts end changes (ByRow table c queries)) ≡ false
      → row_at (key_of table layouts) v (rows_of table (state_after_all layouts changes state)) ≡ row_at (key_of table layouts) v (rows_of table state)
  row-same_all table c queries v end [] state are asc h = refl
  row-same_all table c queries v end (change ∷ changes) state are asc h =
      let form : Form = ByRow table c queries in
      let parts : (has root_cmp (Of v) (candidates layouts end change form) ≡ false) × (has root_cmp (Of v) (candidates_of layouts end changes form) ≡ false) = has-neither root_cmp (Of v) (candidates layouts end change form) (candidates_of layouts end changes form) h in
      let mine : List Root = if table == change.table then Of change.key ∷ [] else [] in
      row-same_all table c queries v end changes (state_after layouts change state) are.1 (IsOrdered-after layouts change state are.0 asc) parts.1
      ∙ row-same layouts change state are.0 asc table v (has-neither root_cmp (Of v) mine (flat_map (query_candidates (key_of table layouts) (rows_of table end) change) queries) parts.0).0

  -- to which roots a value links depends on their rows alone
  module _ (table : ℕ) (v : Value) (one other : State) (f : IsOrdered layouts one) (g : IsOrdered layouts other) (same : row_at (key_of table layouts) v (rows_of table one) ≡ row_at (key_of table layouts) v (rows_of table other)) where
    roots-alike : (link : Link) (w : Value) → has root_cmp (Of v) (linked_roots (key_of table layouts) link (rows_of table one) w) ≡ has root_cmp (Of v) (linked_roots (key_of table layouts) link (rows_of table other) w)
    roots-alike link w =
        linked-has (key_of table layouts) link v (rows_of table one) (f table) w
        ∙ ap (λ (row : Option RowValues). is_linked (key_of table layouts) link v (rows_of table one) (f table) w row) same
        ∙ sym (linked-has (key_of table layouts) link v (rows_of table other) (g table) w)

    flat-alike : {X : Type 0} (f g : X → List Root) (xs : List X) → ((x : X) → has root_cmp (Of v) (f x) ≡ has root_cmp (Of v) (g x)) → has root_cmp (Of v) (flat_map f xs) ≡ has root_cmp (Of v) (flat_map g xs)
    flat-alike f g [] h = refl
    flat-alike f g (x ∷ xs) h =
        has-append root_cmp (Of v) (f x) (flat_map f xs) ∙ ap (λ b. b || has root_cmp (Of v) (flat_map f xs)) (h x) ∙ ap (λ b. has root_cmp (Of v) (g x) || b) (flat-alike f g xs h)
        ∙ sym (has-append root_cmp (Of v) (g x) (flat_map g xs))

    query-alike : (change : Change) (q : Query Link) → has root_cmp (Of v) (query_candidates (key_of table layouts) (rows_of table one) change q) ≡ has root_cmp (Of v) (query_candidates (key_of table layouts) (rows_of table other) change q)
    query-alike change q =
        let values : List Value = linked_values q.grouping (rows_of_change change) in
        let these : List Root = flat_map (linked_roots (key_of table layouts) q.grouping (rows_of table one)) values in
        let those : List Root = flat_map (linked_roots (key_of table layouts) q.grouping (rows_of table other)) values in
        elim (q.table == change.table) as (λ b. has root_cmp (Of v) (if b then these else []) ≡ has root_cmp (Of v) (if b then those else [])) [
          | true ↦ flat-alike (linked_roots (key_of table layouts) q.grouping (rows_of table one)) (linked_roots (key_of table layouts) q.grouping (rows_of table other)) values (roots-alike q.grouping)
          | false ↦ refl
        ]

    pub candidates-alike : (change : Change) (c : Cond) (queries : List (Query Link)) → has root_cmp (Of v) (candidates layouts one change (ByRow table c queries)) ≡ has root_cmp (Of v) (candidates layouts other change (ByRow table c queries))
    candidates-alike change c queries =
        let mine : List Root = if table == change.table then Of change.key ∷ [] else [] in
        let these : List Root = flat_map (query_candidates (key_of table layouts) (rows_of table one) change) queries in
        let those : List Root = flat_map (query_candidates (key_of table layouts) (rows_of table other) change) queries in
        has-append root_cmp (Of v) mine these
        ∙ ap (λ b. has root_cmp (Of v) mine || b) (flat-alike (query_candidates (key_of table layouts) (rows_of table one) change) (query_candidates (key_of table layouts) (rows_of table other) change) queries (query-alike change))
        ∙ sym (has-append root_cmp (Of v) mine those)

  -- a row that is no candidate at the end of some changes is none behind the first of them
  no_candidate : (change : Change) (changes : List Change) (state : State) → AreChangesOf layouts (change ∷ changes) state → IsOrdered layouts state → (table : ℕ) (c : Cond) (queries : List (Query Link)) (v : Value)
      → has root_cmp (Of v) (candidates_of layouts (state_after_all layouts (change ∷ changes) state) (change ∷ changes) (ByRow table c queries)) ≡ false
      → has root_cmp (Of v) (candidates layouts (state_after layouts change state) change (ByRow table c queries)) ≡ false
  no_candidate change changes state are asc table c queries v h =
      let form : Form = ByRow table c queries in
      let next : State = state_after layouts change state in
      let end : State = state_after_all layouts changes next in
      let parts : (has root_cmp (Of v) (candidates layouts end change form) ≡ false) × (has root_cmp (Of v) (candidates_of layouts end changes form) ≡ false) = has-neither root_cmp (Of v) (candidates layouts end change form) (candidates_of layouts end changes form) h in
      candidates-alike table v next end (IsOrdered-after layouts change state are.0 asc) (IsOrdered-after_all (change ∷ changes) state are asc)
      (sym (row-same_all table c queries v end changes next are.1 (IsOrdered-after layouts change state are.0 asc) parts.1)) change c queries
      ∙ parts.0

  -- a root that is a candidate of none of some changes keeps its truth
  pub kept_truth-all : (changes : List Change) (state : State) → AreChangesOf layouts changes state → IsOrdered layouts state → (form : Form) (r : Root) → has root_cmp r (candidates_of layouts (state_after_all layouts changes state) changes form) ≡ false
      → is_bad_root layouts form (state_after_all layouts changes state) r ≡ is_bad_root layouts form state r
  kept_truth-all [] state are asc form r h = refl
  kept_truth-all (change ∷ changes) state are asc (ByRow table c queries) All h = refl
  kept_truth-all (change ∷ changes) state are asc (ByRow table c queries) (Of v) h =
      let form : Form = ByRow table c queries in
      let next : State = state_after layouts change state in
      let end : State = state_after_all layouts changes next in
      kept_truth-all changes next are.1 (IsOrdered-after layouts change state are.0 asc) form (Of v) (has-neither root_cmp (Of v) (candidates layouts end change form) (candidates_of layouts end changes form) h).1
      ∙ kept_truth layouts change state are.0 asc form (Of v) (no_candidate change changes state are asc table c queries v h)
  kept_truth-all (change ∷ changes) state are asc (ByGroup table restriction group having aggregates) r h =
      let form : Form = ByGroup table restriction group having aggregates in
      let next : State = state_after layouts change state in
      let end : State = state_after_all layouts changes next in
      let parts : (has root_cmp r (candidates layouts end change form) ≡ false) × (has root_cmp r (candidates_of layouts end changes form) ≡ false) = has-neither root_cmp r (candidates layouts end change form) (candidates_of layouts end changes form) h in
      kept_truth-all changes next are.1 (IsOrdered-after layouts change state are.0 asc) form r parts.1
      ∙ kept_truth layouts change state are.0 asc form r parts.0
  kept_truth-all (change ∷ changes) state are asc (Single c queries) r h =
      let form : Form = Single c queries in
      let next : State = state_after layouts change state in
      let end : State = state_after_all layouts changes next in
      let parts : (has root_cmp r (candidates layouts end change form) ≡ false) × (has root_cmp r (candidates_of layouts end changes form) ≡ false) = has-neither root_cmp r (candidates layouts end change form) (candidates_of layouts end changes form) h in
      kept_truth-all changes next are.1 (IsOrdered-after layouts change state are.0 asc) form r parts.1
      ∙ kept_truth layouts change state are.0 asc form r parts.0
