-- A check at a root reads under the keys of the assertion's text.
use Rattle.std.proofs.Common.{◌≡◌, ℕ, map, Option, Some, None, Result, Ok, List, [], ◌∷◌, ◌++◌, refl, ap, sym, ◌∙◌, subst, ⊎_elim, inl, inr}
use Rattle.std.specs.Prelude.{◌==◌, is_some, unwrap_or, filter, flat_map, if◌then◌else◌}
use Rattle.value.specs.declared.values.Value.{Value}
use Rattle.value.specs.declared.refusals.Refusal.{Refusal}
use Rattle.table.specs.declared.rows.Change.{Change}
use Rattle.table.specs.Rows.{RowValues, Layout, Tables, layout_of, layouts_of, position_of, row_at, value_in, key_of}
use Rattle.table.specs.Aggregates.{is_there}
use Rattle.table.specs.declared.aggregates.Aggregate.{Aggregate}
use Rattle.table.specs.declared.aggregates.Aggregate.TheVariants.{CountRows}
use Rattle.table.specs.declared.conds.Cond.{Cond}
use Rattle.table.specs.declared.conds.Cond.TheViews as cond_of
use Rattle.assertion.specs.declared.queries.Query.{Query as Subquery}
use Rattle.assertion.specs.declared.queries.Link.{Link}
use Rattle.assertion.specs.declared.queries.Whole.{Whole}
use Rattle.assertion.specs.declared.forms.Form.{Form}
use Rattle.assertion.specs.declared.forms.Form.TheVariants.{ByRow, ByGroup}
use Rattle.assertion.specs.Meaning.{State, rows_of}
use Rattle.assertion.specs.Candidates.{rows_of_change, linked_values}
use Rattle.syntax.specs.declared.trees.ColumnName.{ColumnName}
use Rattle.syntax.specs.declared.trees.Condition.{Condition}
use Rattle.syntax.specs.declared.trees.Query.{Query, out-Query}
use Rattle.form_check.specs.Scopes.{Scope, own_column}
use Rattle.value.specs.Results.{each}
use Rattle.form_check.specs.Results.{in_class, only_if}
use Rattle.form_check.specs.Columns.{no_column, at_place}
use Rattle.form_check.specs.Leaves.{Leaf, Leaves}
use Rattle.form_check.specs.Queries.{Source, source_of, selected_aggregate, may_be_selected}
use Rattle.form_check.specs.Forms.{form_of, plain, plain_by, row_where, by_row, by_group, by_clauses, not_exists, single, slot_query_of, linked_filter}
use Rattle.siread.specs.declared.keys.LockKey.TheVariants as key
use Rattle.siread.specs.declared.keys.LockKey.{LockKey}
use Rattle.alone.specs.States.{row_in}
use Rattle.alone.specs.Checks.{row_keys, query_keys, outer_keys, tables_in}
use Rattle.meaning.specs.Class as class
use Rattle.meaning.specs.Class.{Piece, Pieces, pieces_in, IfWritten, IsOverRows, IsDenied}
use Rattle.meaning.specs.Laws.{Pairs}
use Rattle.meaning.specs.Keys as written
use Rattle.meaning.specs.Keys.{IsTable, IsOfLink, joined_keys, link_keys, found_keys, looks_of, IsTableKey, InWhere, InSingle, filter_pieces, ReadsRow, ReadsGroup, ReadsAsWritten, ReadsWhole}
use Rattle.form_check.proofs.Steps.{in_class_ok, only_if_ok, ok_pair}
use Rattle.meaning.proofs.Queries.{plain_by_ok}
use Rattle.meaning.proofs.Links.{linked_where_ok}
use Rattle.meaning.proofs.Rooted.{sourced_parts, layout_at}
use Rattle.meaning.proofs.Made.{single_made, row_made, group_made}
use Rattle.meaning.proofs.Whole.{by_clauses_ok}
use Rattle.meaning.proofs.Standing.{leaf_of, condition_numbers}
use Rattle.meaning.proofs.Classes.{source_read, each_pairs, each_mapped, over_filter, where_class, form_cases}

-- the table of a name
pub table_is : (tables : Tables) (name : List ℕ) (correlation_name : Option (List ℕ)) (source : Source) → source_of tables name correlation_name ≡ Some source → IsTable tables name correlation_name source.table source.scope
table_is tables name correlation_name source found =
    let exposed_name = unwrap_or correlation_name name in
    record { placed = (sourced_parts exposed_name (position_of name tables) (layout_of name tables) source found).0; reads = source_read exposed_name (position_of name tables) (layout_of name tables) source found }

-- what a check and VERDICT read
abbrev Reads : Tables → Condition → Form → Type 0
Reads tables c form = ReadsAsWritten tables c (looks_of tables form) × ReadsWhole tables c (map key.Table (tables_in form))

-- ---- slots one after the other

pairs_mapped : {X Y Z : Type 0} (Q : X → Z → Type 0) (f : Y → Z) (xs : List X) (ys : List Y) → Pairs (λ x y. Q x (f y)) xs ys → Pairs Q xs (map f ys)
pairs_mapped Q f [] [] h = tt
pairs_mapped Q f [] (y ∷ ys) h = absurd h
pairs_mapped Q f (x ∷ xs) [] h = absurd h
pairs_mapped Q f (x ∷ xs) (y ∷ ys) h = (h.0, pairs_mapped Q f xs ys h.1)

-- each piece beside what is made of what stands in its slot
pieces_made : {A Z : Type 0} (make : Leaf → Result A Refusal) (Q : Piece → Z → Type 0) (f : A → Z) → ((p : Piece) (a : A) → make (leaf_of p) ≡ Ok a → Q p (f a)) → (leaves : Leaves) (ps : Pieces) (made : List A) → leaves ≡ map leaf_of ps → each make leaves ≡ Ok made → Pairs Q ps (map f made)
pieces_made make Q f one leaves ps made same e =
    pairs_mapped Q f ps made (each_pairs (λ p. make (leaf_of p)) (λ p a. Q p (f a)) one ps made (sym (each_mapped make leaf_of ps) ∙ ap (each make) (sym same) ∙ e))

-- ---- single conditions

whole_read : (tables : Tables) (p : Piece) (q : Subquery Whole) → plain tables (leaf_of p) ≡ Ok q → InSingle (IsTableKey tables) p (key.Table q.table)
whole_read tables class.Rows q e = cc
whole_read tables (class.Of f c) q e = cc
whole_read tables (class.Exists query) q e = cc
whole_read tables (class.Value query) q e =
    let c = out-Query query in
    let (source, (found, more)) = in_class_ok (source_of tables c.table c.correlation_name) (λ source. plain_by source (selected_aggregate source.scope c.select_list) c.keeps c.group c.having) q e in
    let (no_group, (no_having, (function, (lists, (restriction, (filters, makes)))))) = plain_by_ok source (selected_aggregate source.scope c.select_list) c.keeps c.group c.having q more in
    (source.table, (table_is tables c.table c.correlation_name source found).placed, ap (λ (q : Subquery Whole). key.Table q.table) (sym makes))

single_reads : (tables : Tables) (c : Condition) (form : Form) → single tables c ≡ Ok form → Reads tables c form
single_reads tables c form e =
    let m = single_made tables c form e in
    let (columns, leaves) = (condition_numbers (at_place no_column) c).says [] m.made m.leaves m.numbers in
    let places : List ℕ = map (λ (q : Subquery Whole). q.table) m.queries in
    let queried = pairs_mapped (InSingle (IsTableKey tables)) key.Table (pieces_in c) places (pieces_made (plain tables) (λ p t. InSingle (IsTableKey tables) p (key.Table t)) (λ (q : Subquery Whole). q.table) (whole_read tables) m.leaves (pieces_in c) m.queries leaves m.are) in
    subst (Reads tables c) m.is (inr (inr (record { queried = λ state. queried; none = λ state v. refl; finding = λ change. refl })), inr queried)

-- ---- by rows

-- the key of a table that is read
key_is : (tables : Tables) (name : List ℕ) (correlation_name : Option (List ℕ)) (source : Source) → source_of tables name correlation_name ≡ Some source → key_of source.table (layouts_of tables) ≡ source.scope.layout.key
key_is tables name correlation_name source found =
    let parts = sourced_parts (unwrap_or correlation_name name) (position_of name tables) (layout_of name tables) source found in
    ap (λ (l : Layout). l.key) (layout_at name (record { columns = []; key = 0 }) tables source.table source.scope.layout parts.0 parts.1)

-- what is read for the link of a query, where that is said by its columns and the two tables
link_read : (tables : Tables) (root : Scope) (reads : ℕ → Scope → Link → List LockKey) (read : Subquery Link → List LockKey)
    → ((child : Source) (q : Subquery Link) → key_of child.table (layouts_of tables) ≡ child.scope.layout.key → q.table ≡ child.table → read q ≡ reads child.table child.scope q.grouping)
    → (query : Query) (child : Source) (a : Aggregate) (q : Subquery Link) → source_of tables (out-Query query).table (out-Query query).correlation_name ≡ Some child
    → linked_filter child root a (out-Query query).keeps (out-Query query).group (out-Query query).having ≡ Ok q → IsOfLink tables root reads query (read q)
link_read tables root reads read same query child a q found e =
    let c = out-Query query in
    let (no_group, (no_having, (condition, (keeps, (link, (first, (restriction, (are, makes)))))))) = linked_where_ok child root a c.keeps c.group c.having q e in record {
      table = child.table;
      scope = child.scope;
      of_table = table_is tables c.table c.correlation_name child found;
      condition = condition;
      filter = keeps;
      link = link;
      linked = where_class child.scope root condition link first (restriction, are);
      is =
          same child q (key_is tables c.table c.correlation_name child found) (ap (λ (q : Subquery Link). q.table) (sym makes))
          ∙ ap (λ (q : Subquery Link). reads child.table child.scope q.grouping) (sym makes);
    }

-- the keys of a link at a root, by the scopes of its tables
module _ (tables : Tables) (root : Scope) (table : ℕ) (is_key : key_of table (layouts_of tables) ≡ root.layout.key) where
  row_read : (child : Source) (q : Subquery Link) → key_of child.table (layouts_of tables) ≡ child.scope.layout.key → q.table ≡ child.table → (row : Option RowValues)
      → row_keys (layouts_of tables) q row ≡ joined_keys child.table child.scope q.grouping row
  row_read child q own same None = refl
  row_read child q own same (Some row) =
      ap (λ f. map f (filter is_there (value_in q.grouping.outer row ∷ [])))
      (λ i v. if q.grouping.inner == (ap (λ t. key_of t (layouts_of tables)) same ∙ own) i then key.Row (record { table = same i; key = v }) else key.Column (same i) q.grouping.inner v)

  root_read : (k : Value) (row : Option RowValues) (child : Source) (q : Subquery Link) → key_of child.table (layouts_of tables) ≡ child.scope.layout.key → q.table ≡ child.table
      → query_keys (layouts_of tables) (key_of table (layouts_of tables)) k row q ≡ link_keys root k row child.table child.scope q.grouping
  root_read k row child q own same =
      λ i. if q.grouping.outer == is_key i then key.Column (same i) q.grouping.inner k ∷ [] else row_read child q own same row i

  change_read : (change : Change) (child : Source) (q : Subquery Link) → key_of child.table (layouts_of tables) ≡ child.scope.layout.key → q.table ≡ child.table
      → outer_keys table (key_of table (layouts_of tables)) change q ≡ found_keys root table change child.table q.grouping
  change_read change child q own same =
      λ i. if q.grouping.outer == is_key i then []
      else if same i == change.table then map (key.Column table q.grouping.outer) (linked_values q.grouping (rows_of_change change)) else []

flattened : {X Y : Type 0} (f : X → List Y) (xs : List X) → flat_map f xs ≡ flat_map (λ ys. ys) (map f xs)
flattened f [] = refl
flattened f (x ∷ xs) = ap (λ ys. f x ++ ys) (flattened f xs)

link_table : (tables : Tables) (root : Scope) (query : Query) (child : Source) (a : Aggregate) (q : Subquery Link) → source_of tables (out-Query query).table (out-Query query).correlation_name ≡ Some child
    → linked_filter child root a (out-Query query).keeps (out-Query query).group (out-Query query).having ≡ Ok q → IsTableKey tables query (key.Table q.table)
link_table tables root query child a q found e =
    let c = out-Query query in
    let (no_group, (no_having, (condition, (keeps, (link, (first, (restriction, (are, makes)))))))) = linked_where_ok child root a c.keeps c.group c.having q e in
    (child.table, (table_is tables c.table c.correlation_name child found).placed, ap (λ (q : Subquery Link). key.Table q.table) (sym makes))

mapped_tables : (queries : List (Subquery Link)) → map key.Table (map (λ (q : Subquery Link). q.table) queries) ≡ map (λ (q : Subquery Link). key.Table q.table) queries
mapped_tables [] = refl
mapped_tables (q ∷ queries) = ap (λ rest. key.Table q.table ∷ rest) (mapped_tables queries)

-- what is read for a linked query
module _ {Read : Type 0} (tables : Tables) (root : Scope) (P : Query → Read → Type 0) (read : Subquery Link → Read)
    (one : (query : Query) (child : Source) (a : Aggregate) (q : Subquery Link) → source_of tables (out-Query query).table (out-Query query).correlation_name ≡ Some child
    → linked_filter child root a (out-Query query).keeps (out-Query query).group (out-Query query).having ≡ Ok q → P query (read q)) where
  linked_read : (p : Piece) (q : Subquery Link) → slot_query_of tables root (leaf_of p) ≡ Ok q → InWhere P p (read q)
  linked_read class.Rows q e = cc
  linked_read (class.Of f c) q e = cc
  linked_read (class.Exists query) q e =
      let c = out-Query query in
      let (child, (found, more)) = in_class_ok (source_of tables c.table c.correlation_name) (λ child. only_if (may_be_selected (own_column child.scope) c.select_list) (linked_filter child root CountRows c.keeps c.group c.having)) q e in
      let (lists, rest) = only_if_ok (may_be_selected (own_column child.scope) c.select_list) (linked_filter child root CountRows c.keeps c.group c.having) q more in
      one query child CountRows q found rest
  linked_read (class.Value query) q e =
      let c = out-Query query in
      let (child, (found, more)) = in_class_ok (source_of tables c.table c.correlation_name) (λ child. in_class (selected_aggregate child.scope c.select_list) (λ a. linked_filter child root a c.keeps c.group c.having)) q e in
      let (a, (lists, rest)) = in_class_ok (selected_aggregate child.scope c.select_list) (λ a. linked_filter child root a c.keeps c.group c.having) q more in
      one query child a q found rest

  where_reads : (keeps : Option Condition) (made : Cond) (leaves : Leaves) (queries : List (Subquery Link)) → row_where root keeps ≡ Ok (made, leaves) → each (slot_query_of tables root) leaves ≡ Ok queries → Pairs (InWhere P) (filter_pieces keeps) (map read queries)
  where_reads None made leaves queries is are =
      let none : Leaves = [] in
      pieces_made (slot_query_of tables root) (InWhere P) read linked_read leaves [] queries (sym (ok_pair (cond_of.And []) made none leaves is).1) are
  where_reads (Some c) made leaves queries is are =
      pieces_made (slot_query_of tables root) (InWhere P) read linked_read leaves (pieces_in c) queries ((condition_numbers (at_place (own_column root)) c).says [] made leaves is).1 are

row_reads : (tables : Tables) (c : Condition) (query : Query) → IsDenied c query → (source : Source) → source_of tables (out-Query query).table (out-Query query).correlation_name ≡ Some source → (out-Query query).group ≡ None → (form : Form) → by_row tables source (out-Query query) ≡ Ok form
    → Reads tables c form
row_reads tables c query denied source found no_group form e =
    let q = out-Query query in
    let scope = source.scope in
    let of_table = table_is tables q.table q.correlation_name source found in
    let m = row_made tables source q form e in
    let places : List ℕ = map (λ (q : Subquery Link). q.table) m.queries in
    let is_key = key_is tables q.table q.correlation_name source found in
    let layouts = layouts_of tables in
    let at : State → Value → Subquery Link → List LockKey = λ state k. query_keys layouts (key_of source.table layouts) k (row_in layouts state (record { table = source.table; key = k })) in
    let finds : Change → Subquery Link → List LockKey = outer_keys source.table (key_of source.table layouts) in
    let stands : State → Value → Option RowValues = λ state k. row_at scope.layout.key k (rows_of source.table state) in
    let by_row : State → Value → ℕ → Scope → Link → List LockKey = λ state k. link_keys scope k (stands state k) in
    let by_change : Change → ℕ → Scope → Link → List LockKey = λ change t child. found_keys scope source.table change t in
    let checks : ReadsRow tables c (looks_of tables (ByRow source.table m.made m.queries)) = record {
      query = query;
      denied = denied;
      ungrouped = ap is_some no_group;
      table = source.table;
      scope = scope;
      of_table = of_table;
      others = λ state k. map (at state k) m.queries;
      row = λ state k. ap (λ reads. key.Row (record { table = source.table; key = k }) ∷ reads) (flattened (at state k) m.queries);
      linked = λ state k. where_reads tables scope (IsOfLink tables scope (by_row state k)) (at state k)
          (link_read tables scope (by_row state k) (at state k) (λ child q own same.
          root_read tables scope source.table is_key k (row_in layouts state (record { table = source.table; key = k })) child q own same
          ∙ ap (λ key. link_keys scope k (row_at key k (rows_of source.table state)) child.table child.scope q.grouping) is_key))
          q.keeps m.made m.leaves m.queries m.keeps m.are;
      whole = λ state. refl;
      found = λ change. map (finds change) m.queries;
      finding = λ change. flattened (finds change) m.queries;
      joins = λ change. where_reads tables scope (IsOfLink tables scope (by_change change)) (finds change)
          (link_read tables scope (by_change change) (finds change) (change_read tables scope source.table is_key change)) q.keeps m.made m.leaves m.queries m.keeps m.are;
    } in
    let named = where_reads tables scope (IsTableKey tables) (λ q. key.Table q.table) (link_table tables scope) q.keeps m.made m.leaves m.queries m.keeps m.are in
    let verdict : Pairs (InWhere (IsTableKey tables)) (class.Exists query ∷ filter_pieces q.keeps) (key.Table source.table ∷ map key.Table places) =
    ((source.table, of_table.placed, refl), subst (Pairs (InWhere (IsTableKey tables)) (filter_pieces q.keeps)) (sym (mapped_tables m.queries)) named) in
    subst (Reads tables c) m.is (inl checks, inl (query, denied, verdict))

-- ---- by groups

-- a condition over the rows of one table has no query
no_queries : (scope : Scope) (keeps : Option Condition) → IfWritten (IsOverRows scope) keeps → filter_pieces keeps ≡ []
no_queries scope None h = refl
no_queries scope (Some c) h = h.alone

group_reads : (tables : Tables) (c : Condition) (query : Query) → IsDenied c query → (source : Source) → source_of tables (out-Query query).table (out-Query query).correlation_name ≡ Some source → (column : ColumnName) (having : Condition) → (out-Query query).group ≡ Some column → (form : Form)
    → by_group source (out-Query query) column having ≡ Ok form → Reads tables c form
group_reads tables c query denied source found column having grouped form e =
    let q = out-Query query in
    let scope = source.scope in
    let of_table = table_is tables q.table q.correlation_name source found in
    let m = group_made source q column having form e in
    let checks : ReadsGroup tables c (looks_of tables (ByGroup source.table m.restriction m.group m.made m.aggregates)) = record {
      query = query;
      denied = denied;
      name = column;
      grouped = grouped;
      table = source.table;
      scope = scope;
      of_table = of_table;
      column = m.group;
      is_own = m.own;
      group = λ state v. refl;
      whole = λ state. refl;
      finding = λ change. refl;
    } in
    let none : List LockKey = [] in
    let verdict : Pairs (InWhere (IsTableKey tables)) (class.Exists query ∷ filter_pieces q.keeps) (key.Table source.table ∷ []) =
    ((source.table, of_table.placed, refl), subst (λ ps. Pairs (InWhere (IsTableKey tables)) ps none) (sym (no_queries scope q.keeps (over_filter scope q.keeps (m.restriction, m.keeps)))) tt) in
    subst (Reads tables c) m.is (inr (inl checks), inl (query, denied, verdict))

-- ---- all

exists_reads : (tables : Tables) (c : Condition) (query : Query) → IsDenied c query → (form : Form) → not_exists tables (out-Query query) ≡ Ok form → Reads tables c form
exists_reads tables c query denied form e =
    let q = out-Query query in
    let (source, (found, more)) = in_class_ok (source_of tables q.table q.correlation_name) (λ source. by_clauses tables source q q.group q.having) form e in
    ⊎_elim
    (λ rows. row_reads tables c query denied source found rows.0 form rows.1.1)
    (λ groups. group_reads tables c query denied source found groups.0 groups.1.0 groups.1.1.0 form groups.1.1.1.1)
    (by_clauses_ok tables source q q.group q.having form more)

form_reads : (tables : Tables) (c : Condition) (form : Form) → form_of tables c ≡ Ok form → Reads tables c form
form_reads tables c form e =
    ⊎_elim
    (λ denied. exists_reads tables c denied.0 denied.1 form denied.2)
    (single_reads tables c form)
    (form_cases tables c form e)

pub CheckReads-law : written.CheckReads
CheckReads-law tables c form e = (form_reads tables c form e).0

pub VerdictReads-law : written.VerdictReads
VerdictReads-law tables c form e = (form_reads tables c form e).1
