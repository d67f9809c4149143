-- Whether a root is bad depends on the rows under its keys alone, and which roots are candidates on the rows under the keys by which they are found.
use Rattle.std.proofs.Common.{◌≡◌, ℕ, Bool, true, false, cond, List, [], ◌∷◌, ◌++◌, Option, Some, None, map, filter, refl, sym, ap, ◌∙◌, subst, inl, inr, eq-eqb}
use Rattle.std.specs.Prelude.{Contains, ◌&&◌, ◌==◌, flat_map, length, nat_lt}
use Rattle.std.proofs.lemmas.Bool.{cases_Bool, and_parts, and_from}
use Rattle.value.specs.declared.values.Value.{Value}
use Rattle.value.specs.declared.values.Value.TheVariants.{Null, Int, Text}
use Rattle.value.specs.declared.values.Root.{Root}
use Rattle.value.specs.declared.values.Root.TheVariants.{All, Of}
use Rattle.value.specs.declared.comparisons.Comparison.TheVariants.{Equal}
use Rattle.value.specs.declared.truths.Truth.TheVariants.{True, False}
use Rattle.value.specs.Truths.{is_of}
use Rattle.table.specs.declared.rows.Change.{Change}
use Rattle.table.specs.Rows.{RowValues, Layout, value_in, row_at, key_of}
use Rattle.table.specs.Aggregates.{is_there, aggregate, rows_of_group}
use Rattle.table.specs.declared.conds.Cond.{Cond}
use Rattle.table.specs.Eval.{truth, keeps}
use Rattle.table.specs.Values.{comparison_truth}
use Rattle.assertion.specs.declared.queries.Query.{Query}
use Rattle.assertion.specs.declared.queries.Link.{Link}
use Rattle.assertion.specs.declared.queries.Whole.{Whole}
use Rattle.assertion.specs.declared.forms.Form.{Form}
use Rattle.assertion.specs.declared.forms.Form.TheVariants.{ByRow, ByGroup, Single}
use Rattle.assertion.specs.Meaning.{State, rows_of, links, linked_answer, plain_answer, filtered_rows, truth_of_roots, verdict_of, group_roots}
use Rattle.assertion.specs.Candidates.{rows_of_change, linked_values, linked_roots, query_candidates, candidates, candidates_of}
use Rattle.assertion.specs.Roots.{is_bad_row, is_bad_root}
use Rattle.assertion.specs.Changes.{IsOrdered}
use Rattle.assertion.proofs.ListLemmas.{filter-filter}
use Rattle.assertion.proofs.KeptTruth.{links-there, equal_of}
use Rattle.siread.specs.declared.keys.Place.{Place}
use Rattle.siread.specs.declared.keys.LockKey.{LockKey}
use Rattle.siread.specs.declared.keys.LockKey.TheVariants.{Row as OneRow, Column as InColumn, Table as WholeTable}
use Rattle.siread.specs.Keys.{is_under, SameUnder, AlikeUnder, same_value}
use Rattle.alone.specs.States.{row_in}
use Rattle.alone.specs.Checks.{inner_key, query_keys, keys_for, outer_keys, finding_keys, check_keys, tables_in}
use Rattle.siread.proofs.Members.{in_head, in_tail}
use Rattle.alone.proofs.Members.{in_left, in_right, in_map, in_flat}
use Rattle.siread.proofs.KeyOrder.{same_value-true, same_value-refl}
use Rattle.alone.proofs.Stores.{at_own, table_same, one_same, filtered_same}

none_filtered : (rows : List RowValues) → filter (λ row. false) rows ≡ []
none_filtered [] = refl
none_filtered (row ∷ rows) = none_filtered rows

module _ (layouts : List Layout) (one other : State) (f : IsOrdered layouts one) (g : IsOrdered layouts other) where
  abbrev Same : LockKey → Type 0
  Same key = SameUnder (row_in layouts) key one other

  -- the rows that are linked to a row, where they are under a key
  linked_under : (q : Query Link) (row : RowValues) (key : LockKey)
      → ((linked : RowValues) → value_in q.grouping.outer row ≡ value_in q.grouping.inner linked → is_under key (record { table = q.table; key = value_in (key_of q.table layouts) linked }) linked ≡ true)
      → Same key → linked_answer one row q ≡ linked_answer other row q
  linked_under q row key under h = ap (aggregate q.aggregate) (filtered_same layouts one other f g q.table key (λ linked. links q.grouping row linked && keeps linked row q.filter)
      (λ linked on.
      let joined : links q.grouping row linked ≡ true = (and_parts (links q.grouping row linked) (keeps linked row q.filter) on).0 in
      let parts = and_parts (is_there (value_in q.grouping.inner linked)) (same_value (value_in q.grouping.outer row) (value_in q.grouping.inner linked)) (sym (links-there q.grouping row linked) ∙ joined) in
      under linked (same_value-true (value_in q.grouping.outer row) (value_in q.grouping.inner linked) parts.1)) h)

  -- a row with NULL in the column of the link is linked to none
  none_linked : (q : Query Link) (row : RowValues) → is_there (value_in q.grouping.outer row) ≡ false → linked_answer one row q ≡ linked_answer other row q
  none_linked q row e = ap (aggregate q.aggregate) (go (value_in q.grouping.outer row) e (rows_of q.table one) ∙ sym (go (value_in q.grouping.outer row) e (rows_of q.table other)))
    where
      go : (v : Value) → is_there v ≡ false → (rows : List RowValues) → filter (λ linked. is_of (comparison_truth Equal v (value_in q.grouping.inner linked)) True && keeps linked row q.filter) rows ≡ []
      go Null e rows = none_filtered rows
      go (Int n) e rows = cc
      go (Text t) e rows = cc

  under_inner : (q : Query Link) (v : Value) (linked : RowValues) → v ≡ value_in q.grouping.inner linked → is_under (inner_key layouts q v) (record { table = q.table; key = value_in (key_of q.table layouts) linked }) linked ≡ true
  under_inner q v linked e =
      let case : (b : Bool) → (q.grouping.inner == key_of q.table layouts) ≡ b → is_under (cond b (OneRow (record { table = q.table; key = v })) (InColumn q.table q.grouping.inner v)) (record { table = q.table; key = value_in (key_of q.table layouts) linked }) linked ≡ true
      = λ b. elim b as (λ b. (q.grouping.inner == key_of q.table layouts) ≡ b → is_under (cond b (OneRow (record { table = q.table; key = v })) (InColumn q.table q.grouping.inner v)) (record { table = q.table; key = value_in (key_of q.table layouts) linked }) linked ≡ true) [
        | true ↦ λ is.
            let own : v ≡ value_in (key_of q.table layouts) linked = e ∙ ap (λ c. value_in c linked) (equal_of q.grouping.inner (key_of q.table layouts) is) in
            and_from (q.table == q.table) (same_value v (value_in (key_of q.table layouts) linked)) (eq-eqb q.table q.table refl) (subst (λ w. same_value v w ≡ true) own (same_value-refl v))
        | false ↦ λ is. and_from (q.table == q.table) (same_value v (value_in q.grouping.inner linked)) (eq-eqb q.table q.table refl) (subst (λ w. same_value v w ≡ true) e (same_value-refl v))
      ]
      in case (q.grouping.inner == key_of q.table layouts) refl

  -- what a subquery gives for the row of a root, by the keys of its links
  linked_same : (q : Query Link) (key : ℕ) (k : Value) (row : RowValues) → value_in key row ≡ k → AlikeUnder (row_in layouts) (query_keys layouts key k (Some row) q) one other → linked_answer one row q ≡ linked_answer other row q
  linked_same q key k row own h =
      let v : Value = value_in q.grouping.outer row in
      let by_key : LockKey = InColumn q.table q.grouping.inner k in
      let case : (b : Bool) → (q.grouping.outer == key) ≡ b → AlikeUnder (row_in layouts) (cond b (by_key ∷ []) (map (inner_key layouts q) (filter is_there (v ∷ [])))) one other → linked_answer one row q ≡ linked_answer other row q
      = λ b. elim b as (λ b. (q.grouping.outer == key) ≡ b → AlikeUnder (row_in layouts) (cond b (by_key ∷ []) (map (inner_key layouts q) (filter is_there (v ∷ [])))) one other → linked_answer one row q ≡ linked_answer other row q) [
        | true ↦ λ is h.
            let same : k ≡ v = sym own ∙ ap (λ c. value_in c row) (sym (equal_of q.grouping.outer key is)) in
            linked_under q row by_key
            (λ linked e. and_from (q.table == q.table) (same_value k (value_in q.grouping.inner linked)) (eq-eqb q.table q.table refl) (subst (λ w. same_value k w ≡ true) (same ∙ e) (same_value-refl k)))
            (h by_key (in_head by_key []))
        | false ↦ λ is h. elim (cases_Bool (is_there v)) [
          | inl there ↦ linked_under q row (inner_key layouts q v) (under_inner q v)
              (h (inner_key layouts q v) (subst (λ b. Contains (map (inner_key layouts q) (cond b (v ∷ []) [])) (inner_key layouts q v)) (sym there) (in_head (inner_key layouts q v) [])))
          | inr null ↦ none_linked q row null
        ]
      ]
      in case (q.grouping.outer == key) refl h

  all_linked : (key : ℕ) (k : Value) (row : RowValues) → value_in key row ≡ k → (queries : List (Query Link)) → AlikeUnder (row_in layouts) (flat_map (query_keys layouts key k (Some row)) queries) one other
      → map (linked_answer one row) queries ≡ map (linked_answer other row) queries
  all_linked key k row own [] h = refl
  all_linked key k row own (q ∷ rest) h =
      let mine : List LockKey = query_keys layouts key k (Some row) q in
      let others : List LockKey = flat_map (query_keys layouts key k (Some row)) rest in
      let e : linked_answer one row q ≡ linked_answer other row q = linked_same q key k row own (λ read m. h read (in_left mine others read m)) in
      let es : map (linked_answer one row) rest ≡ map (linked_answer other row) rest = all_linked key k row own rest (λ read m. h read (in_right mine others read m)) in
      λ i. e i ∷ es i

  all_plain : (queries : List (Query Whole)) → ((q : Query Whole) → Contains queries q → Same (WholeTable q.table)) → map (plain_answer one) queries ≡ map (plain_answer other) queries
  all_plain [] h = refl
  all_plain (q ∷ rest) h =
      let e : plain_answer one q ≡ plain_answer other q = ap (λ rows. aggregate q.aggregate (filter (λ row. keeps row [] q.filter) rows)) (table_same layouts one other f g q.table (h q (in_head q rest))) in
      let es : map (plain_answer one) rest ≡ map (plain_answer other) rest = all_plain rest (λ r m. h r (in_tail q rest r m)) in
      λ i. e i ∷ es i

  bad_row : (table : ℕ) (c : Cond) (queries : List (Query Link)) (k : Value) (o : Option RowValues) → row_at (key_of table layouts) k (rows_of table one) ≡ o
      → AlikeUnder (row_in layouts) (flat_map (query_keys layouts (key_of table layouts) k o) queries) one other → is_bad_row one c queries o ≡ is_bad_row other c queries o
  bad_row table c queries k None e h = refl
  bad_row table c queries k (Some row) e h = ap (λ slots. keeps row slots c) (all_linked (key_of table layouts) k row (at_own layouts table k (rows_of table one) row e) queries h)

  group_same : (table : ℕ) (restriction : Cond) (group : ℕ) (v : Value) → Same (InColumn table group v) → rows_of_group group v (filtered_rows restriction (rows_of table one)) ≡ rows_of_group group v (filtered_rows restriction (rows_of table other))
  group_same table restriction group v h =
      filter-filter (λ row. same_value v (value_in group row)) (λ row. keeps row [] restriction) (rows_of table one)
      ∙ filtered_same layouts one other f g table (InColumn table group v) (λ row. keeps row [] restriction && same_value v (value_in group row))
      (λ row on. and_from (table == table) (same_value v (value_in group row)) (eq-eqb table table refl) (and_parts (keeps row [] restriction) (same_value v (value_in group row)) on).1) h
      ∙ sym (filter-filter (λ row. same_value v (value_in group row)) (λ row. keeps row [] restriction) (rows_of table other))

  -- over two states a root is bad alike where the rows under its keys are the same
  pub root_same : (form : Form) (root : Root) → AlikeUnder (row_in layouts) (keys_for layouts one form root) one other → is_bad_root layouts form one root ≡ is_bad_root layouts form other root
  root_same (ByRow table c queries) All h = refl
  root_same (ByRow table c queries) (Of k) h =
      let place : Place = record { table = table; key = k } in
      let links : List LockKey = flat_map (query_keys layouts (key_of table layouts) k (row_in layouts one place)) queries in
      bad_row table c queries k (row_in layouts one place) refl (λ read m. h read (in_tail (OneRow place) links read m))
      ∙ ap (is_bad_row other c queries) (one_same layouts one other f g place (h (OneRow place) (in_head (OneRow place) links)))
  root_same (ByGroup table restriction group having aggregates) All h = refl
  root_same (ByGroup table restriction group having aggregates) (Of v) h =
      ap (λ members. nat_lt 0 (length members) && keeps (v ∷ []) (map (λ a. aggregate a members) aggregates) having) (group_same table restriction group v (h (InColumn table group v) (in_head (InColumn table group v) [])))
  root_same (Single c queries) All h =
      ap (λ slots. is_of (truth [] slots c) False) (all_plain queries (λ q m. h (WholeTable q.table) (in_map WholeTable (map (λ q. q.table) queries) q.table (in_map (λ (q : Query Whole). q.table) queries q m))))
  root_same (Single c queries) (Of v) h = refl

  -- and is read under the same keys
  pub keys_same : (form : Form) (root : Root) → AlikeUnder (row_in layouts) (keys_for layouts one form root) one other → keys_for layouts one form root ≡ keys_for layouts other form root
  keys_same (ByRow table c queries) All h = refl
  keys_same (ByRow table c queries) (Of k) h =
      let place : Place = record { table = table; key = k } in
      ap (λ row. OneRow place ∷ flat_map (query_keys layouts (key_of table layouts) k row) queries)
      (one_same layouts one other f g place (h (OneRow place) (in_head (OneRow place) (flat_map (query_keys layouts (key_of table layouts) k (row_in layouts one place)) queries))))
  keys_same (ByGroup table restriction group having aggregates) All h = refl
  keys_same (ByGroup table restriction group having aggregates) (Of v) h = refl
  keys_same (Single c queries) All h = refl
  keys_same (Single c queries) (Of v) h = refl

  -- what subqueries give for a row, by their tables
  linked_whole : (row : RowValues) (queries : List (Query Link)) → ((q : Query Link) → Contains queries q → Same (WholeTable q.table)) → map (linked_answer one row) queries ≡ map (linked_answer other row) queries
  linked_whole row [] h = refl
  linked_whole row (q ∷ rest) h =
      let e : linked_answer one row q ≡ linked_answer other row q =
      ap (λ rows. aggregate q.aggregate (filter (λ linked. links q.grouping row linked && keeps linked row q.filter) rows)) (table_same layouts one other f g q.table (h q (in_head q rest))) in
      let es : map (linked_answer one row) rest ≡ map (linked_answer other row) rest = linked_whole row rest (λ r m. h r (in_tail q rest r m)) in
      λ i. e i ∷ es i

  -- the verdict by the tables that it names
  pub verdict_same : (form : Form) → ((table : ℕ) → Contains (tables_in form) table → Same (WholeTable table)) → verdict_of layouts form one ≡ verdict_of layouts form other
  verdict_same (ByRow table c queries) h =
      let rows : rows_of table one ≡ rows_of table other = table_same layouts one other f g table (h table (in_head table (map (λ q. q.table) queries))) in
      let answers : (row : RowValues) → map (linked_answer one row) queries ≡ map (linked_answer other row) queries = λ row. linked_whole row queries (λ q m.
      h q.table (in_tail table (map (λ q. q.table) queries) q.table (in_map (λ (q : Query Link). q.table) queries q m))) in
      λ i. truth_of_roots (map (λ row. Of (value_in (key_of table layouts) row)) (filter (λ row. keeps row (answers row i) c) (rows i)))
  verdict_same (ByGroup table restriction group having aggregates) h =
      ap (λ rows. truth_of_roots (group_roots (filtered_rows restriction rows) group having aggregates)) (table_same layouts one other f g table (h table (in_head table [])))
  verdict_same (Single c queries) h = ap (λ slots. truth [] slots c) (all_plain queries (λ q m. h q.table (in_map (λ (q : Query Whole). q.table) queries q m)))

-- ---- which roots are candidates

flat_same : {X Y : Type 0} (f g : X → List Y) (xs : List X) → ((x : X) → Contains xs x → f x ≡ g x) → flat_map f xs ≡ flat_map g xs
flat_same f g [] h = refl
flat_same f g (x ∷ xs) h =
    let e : f x ≡ g x = h x (in_head x xs) in
    let es : flat_map f xs ≡ flat_map g xs = flat_same f g xs (λ y m. h y (in_tail x xs y m)) in
    λ i. e i ++ es i

module _ (layouts : List Layout) (one other : State) (f : IsOrdered layouts one) (g : IsOrdered layouts other) where
  -- the roots to which a value links
  value_roots : (table key : ℕ) (link : Link) (v : Value) → ((link.outer == key) ≡ false → SameUnder (row_in layouts) (InColumn table link.outer v) one other)
      → linked_roots key link (rows_of table one) v ≡ linked_roots key link (rows_of table other) v
  value_roots table key link v h =
      let p : RowValues → Bool = λ row. same_value v (value_in link.outer row) in
      let roots : State → List Root = λ state. map (λ row. Of (value_in key row)) (filter p (rows_of table state)) in
      let case : (b : Bool) → (link.outer == key) ≡ b → cond b (Of v ∷ []) (roots one) ≡ cond b (Of v ∷ []) (roots other) = λ b. elim b as (λ b. (link.outer == key) ≡ b → cond b (Of v ∷ []) (roots one) ≡ cond b (Of v ∷ []) (roots other)) [
        | true ↦ λ e. refl
        | false ↦ λ e. ap (map (λ row. Of (value_in key row))) (filtered_same layouts one other f g table (InColumn table link.outer v) p (λ row on. and_from (table == table) (p row) (eq-eqb table table refl) on) (h e))
      ]
      in case (link.outer == key) refl

  query_roots : (table key : ℕ) (change : Change) (q : Query Link) → AlikeUnder (row_in layouts) (outer_keys table key change q) one other → query_candidates key (rows_of table one) change q ≡ query_candidates key (rows_of table other) change q
  query_roots table key change q h =
      let values : List Value = linked_values q.grouping (rows_of_change change) in
      let these : List Root = flat_map (linked_roots key q.grouping (rows_of table one)) values in
      let those : List Root = flat_map (linked_roots key q.grouping (rows_of table other)) values in
      let reads : List LockKey = map (InColumn table q.grouping.outer) values in
      let case : (b : Bool) → (q.table == change.table) ≡ b → AlikeUnder (row_in layouts) (cond (q.grouping.outer == key) [] (cond b reads [])) one other → cond b these [] ≡ cond b those []
      = λ b. elim b as (λ b. (q.table == change.table) ≡ b → AlikeUnder (row_in layouts) (cond (q.grouping.outer == key) [] (cond b reads [])) one other → cond b these [] ≡ cond b those []) [
        | true ↦ λ e h. flat_same (linked_roots key q.grouping (rows_of table one)) (linked_roots key q.grouping (rows_of table other)) values (λ v m. value_roots table key q.grouping v (λ apart.
            h (InColumn table q.grouping.outer v) (subst (λ b. Contains (cond b [] reads) (InColumn table q.grouping.outer v)) (sym apart) (in_map (InColumn table q.grouping.outer) values v m))))
        | false ↦ λ e h. refl
      ]
      in case (q.table == change.table) refl h

  change_roots : (form : Form) (change : Change) → AlikeUnder (row_in layouts) (finding_keys layouts form change) one other → candidates layouts one change form ≡ candidates layouts other change form
  change_roots (ByRow table c queries) change h =
      ap (λ roots. cond (table == change.table) (Of change.key ∷ []) [] ++ roots)
      (flat_same (query_candidates (key_of table layouts) (rows_of table one) change) (query_candidates (key_of table layouts) (rows_of table other) change) queries (λ q m.
      query_roots table (key_of table layouts) change q (λ read n. h read (in_flat (outer_keys table (key_of table layouts) change) queries q read m n))))
  change_roots (ByGroup table restriction group having aggregates) change h = refl
  change_roots (Single c queries) change h = refl

  -- over two states changes have the same candidates where the rows are the same by which they are found
  pub candidates_same : (form : Form) (changes : List Change) → AlikeUnder (row_in layouts) (flat_map (finding_keys layouts form) changes) one other → candidates_of layouts one changes form ≡ candidates_of layouts other changes form
  candidates_same form changes h =
      flat_same (λ change. candidates layouts one change form) (λ change. candidates layouts other change form) changes (λ change m.
      change_roots form change (λ read n. h read (in_flat (finding_keys layouts form) changes change read m n)))

  -- and so a check over the changes reads the same keys
  pub check_keys_same : (form : Form) (changes : List Change) → AlikeUnder (row_in layouts) (check_keys layouts one form changes) one other → check_keys layouts one form changes ≡ check_keys layouts other form changes
  check_keys_same form changes h =
      let finding : List LockKey = flat_map (finding_keys layouts form) changes in
      let looks : State → List Root → List LockKey = λ state roots. flat_map (keys_for layouts state form) roots in
      let roots : List Root = candidates_of layouts one changes form in
      ap (λ reads. finding ++ reads) (
      flat_same (keys_for layouts one form) (keys_for layouts other form) roots (λ root m. keys_same layouts one other f g form root (λ read n. h read (in_right finding (looks one roots) read (in_flat (keys_for layouts one form) roots root read m n))))
      ∙ ap (looks other) (candidates_same form changes (λ read m. h read (in_left finding (looks one roots) read m))))
