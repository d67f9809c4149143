-- Assertions of every form.
use Rattle.std.proofs.Common.{◌≡◌, ℕ, true, false, Option, Some, None, Ok, List, [], ◌∷◌, map, refl, ap, sym, ◌∙◌, subst, ⊎_elim, inl, inr}
use Rattle.std.specs.Prelude.{◌⊎◌, unwrap_or, option_map, if◌then◌else◌}
use Rattle.value.specs.declared.values.Root.{Root}
use Rattle.value.specs.declared.values.Root.TheVariants.{All}
use Rattle.value.specs.ValueOrder.{root_cmp}
use Rattle.value.proofs.OrderedLists.{has, has-itself}
use Rattle.value.proofs.ValueOrders.{root_cmp_total, root_exact}
use Rattle.value.specs.declared.truths.Truth.{Truth}
use Rattle.value.specs.declared.truths.Truth.TheVariants.{False}
use Rattle.value.specs.Truths.{not_of, is_of, truth_of_bool}
use Rattle.table.specs.Rows.{Layout, Tables, layout_of, position_of, layouts_of, key_of}
use Rattle.table.proofs.DistinctLemmas.{least_same}
use Rattle.assertion.specs.declared.forms.Form.{Form}
use Rattle.assertion.specs.Meaning.{State, rows_of, bad_roots, verdict_of, truth_of_roots, row_roots}
use Rattle.assertion.proofs.ListLemmas.{has-contains, contains-has}
use Rattle.syntax.specs.declared.trees.ColumnName.{ColumnName}
use Rattle.syntax.specs.declared.trees.Condition.{Condition, out-Condition}
use Rattle.syntax.specs.declared.trees.Condition.TheOpen.{Condition-F}
use Rattle.syntax.specs.declared.trees.Condition.TheFolds.{map-Condition}
use Rattle.syntax.specs.declared.trees.Expression.{Expression}
use Rattle.syntax.specs.declared.trees.SelectList.{SelectList}
use Rattle.syntax.specs.declared.trees.Query.{Query, out-Query}
use Rattle.form_check.specs.Scopes.{own_column}
use Rattle.form_check.specs.Queries.{Source, source_of}
use Rattle.form_check.specs.Forms.{Clauses, by_row, by_group, by_clauses, not_exists, single, form_of_negation, form_in}
use Rattle.meaning.specs.Meaning as written
use Rattle.meaning.specs.Meaning.{References, Evaluation, Answer, is_any, truth, evaluation_of, select_list, answers, table_of, group_value, root_of, roots_of_answers, query_roots, roots_in, denied_roots, written_truth, written_bad_roots}
use Rattle.meaning.specs.Laws as law
use Rattle.meaning.specs.Laws.{reference_to}
use Rattle.form_check.proofs.Steps.{in_class_ok}
use Rattle.meaning.proofs.Made.{row_made, group_made}
use Rattle.meaning.proofs.Queries.{answers_by, answers_at, source_seen}
use Rattle.meaning.proofs.Singles.{single_is}
use Rattle.meaning.proofs.Groups.{group_roots_are}
use Rattle.meaning.proofs.Links.{condition_out, plain_list}
use Rattle.meaning.proofs.Rooted.{layout_at, sourced_parts, row_roots_are}

-- two lists with the same roots are both empty or neither
same_empty : (xs ys : List Root) → ((r : Root) → has root_cmp r xs ≡ has root_cmp r ys) → truth_of_roots xs ≡ truth_of_roots ys
same_empty [] [] h = refl
same_empty [] (y ∷ ys) h = let k : false ≡ true = h y ∙ has-itself root_cmp_total y ys in cc
same_empty (x ∷ xs) [] h = let k : true ≡ false = sym (has-itself root_cmp_total x xs) ∙ h x in cc
same_empty (x ∷ xs) (y ∷ ys) h = refl

none_given : (g : Answer → Root) (rows : List Answer) → not_of (truth_of_bool (is_any rows)) ≡ truth_of_roots (map g rows)
none_given g [] = refl
none_given g (row ∷ rows) = refl

-- the same roots and the same truth as a form
abbrev Agrees : Tables → State → Form → List Root → Truth → Type 0
Agrees tables state form roots t = ((r : Root) → has root_cmp r roots ≡ has root_cmp r (bad_roots (layouts_of tables) form state)) × (t ≡ verdict_of (layouts_of tables) form state)

-- ---- single conditions

single_agrees : (tables : Tables) (condition : Condition) (form : Form) → single tables condition ≡ Ok form → (state : State) → Agrees tables state form (written.roots_of_whole (written_truth tables state condition)) (written_truth tables state condition)
single_agrees tables condition form e state =
    let (made, (queries, (is, means))) = single_is tables condition form e in
    subst (λ form. Agrees tables state form (written.roots_of_whole (written_truth tables state condition)) (written_truth tables state condition)) is (
      (λ r. ap (λ t. has root_cmp r (if is_of t False then All ∷ [] else [])) (means state)),
      means state,
    )

-- ---- NOT EXISTS

pub by_clauses_ok : (tables : Tables) (source : Source) (query : Clauses) (g : Option ColumnName) (h : Option Condition) (form : Form) → by_clauses tables source query g h ≡ Ok form
    → ((g ≡ None) × ((h ≡ None) × (by_row tables source query ≡ Ok form))) ⊎ ((column : ColumnName) × ((having : Condition) × ((g ≡ Some column) × ((h ≡ Some having) × (by_group source query column having ≡ Ok form)))))
by_clauses_ok tables source query None None form e = inl (refl, (refl, e))
by_clauses_ok tables source query (Some column) (Some having) form e = inr (column, (having, (refl, (refl, e))))
by_clauses_ok tables source query None (Some having) form e = cc
by_clauses_ok tables source query (Some column) None form e = cc

-- the roots of a query, by its clauses and the table that it reads
roots_by : (tables : Tables) (state : State) (query : Query) (source : Source) → source_of tables (out-Query query).table (out-Query query).correlation_name ≡ Some source
    → (g : Option ColumnName) (h : Option Condition) → (out-Query query).group ≡ g → (out-Query query).having ≡ h
    → query_roots tables state query (out-Query query)
    ≡ roots_of_answers g (reference_to source.scope (rows_of source.table state)) (answers_by (reference_to source.scope (rows_of source.table state)) (select_list tables state (out-Query query).select_list) (option_map (truth tables state) (out-Query query).keeps) g (option_map (truth tables state) h) [])
roots_by tables state query source found g h is_g is_h =
    let q = out-Query query in
    let table = reference_to source.scope (rows_of source.table state) in
    let list = select_list tables state q.select_list in
    let keeps = option_map (truth tables state) q.keeps in
    ap (λ t. roots_of_answers q.group t (answers tables state query [])) (source_seen tables state q.table q.correlation_name source found)
    ∙ ap (roots_of_answers q.group table) (answers_at tables state query source [] found)
    ∙ ap (λ g. roots_of_answers g table (answers_by table list keeps g (option_map (truth tables state) q.having) [])) is_g
    ∙ ap (λ h. roots_of_answers g table (answers_by table list keeps g (option_map (truth tables state) h) [])) is_h

pub key_at : (tables : Tables) (table : List ℕ) (correlation_name : Option (List ℕ)) (source : Source) → source_of tables table correlation_name ≡ Some source → key_of source.table (layouts_of tables) ≡ source.scope.layout.key
key_at tables table correlation_name source found =
    let (place, layout) = sourced_parts (unwrap_or correlation_name table) (position_of table tables) (layout_of table tables) source found in
    ap (λ (l : Layout). l.key) (layout_at table (record { columns = []; key = 0 }) tables source.table source.scope.layout place layout)

row_agrees : (tables : Tables) (state : State) (query : Query) (source : Source) (form : Form) → source_of tables (out-Query query).table (out-Query query).correlation_name ≡ Some source → (out-Query query).group ≡ None → (out-Query query).having ≡ None → by_row tables source (out-Query query) ≡ Ok form
    → (r : Root) → has root_cmp r (query_roots tables state query (out-Query query)) ≡ has root_cmp r (bad_roots (layouts_of tables) form state)
row_agrees tables state query source form found no_group no_having e r =
    let q = out-Query query in
    let m = row_made tables source q form e in
    ap (has root_cmp r) (
    roots_by tables state query source found None None no_group no_having
    ∙ row_roots_are tables state source.scope source.table (select_list tables state q.select_list) q.keeps m.made m.leaves m.queries (plain_list tables state (own_column source.scope) q.select_list m.lists) m.keeps m.are
    ∙ ap (λ key. row_roots state source.table key m.made m.queries) (sym (key_at tables q.table q.correlation_name source found)))
    ∙ ap (λ form. has root_cmp r (bad_roots (layouts_of tables) form state)) m.is

group_agrees : (tables : Tables) (state : State) (query : Query) (source : Source) (column : ColumnName) (having : Condition) (form : Form) → source_of tables (out-Query query).table (out-Query query).correlation_name ≡ Some source → (out-Query query).group ≡ Some column → (out-Query query).having ≡ Some having → by_group source (out-Query query) column having ≡ Ok form
    → (r : Root) → has root_cmp r (query_roots tables state query (out-Query query)) ≡ has root_cmp r (bad_roots (layouts_of tables) form state)
group_agrees tables state query source column having form found is_group is_having e r =
    let q = out-Query query in
    let m = group_made source q column having form e in
    ap (has root_cmp r) (roots_by tables state query source found (Some column) (Some having) is_group is_having)
    ∙ group_roots_are tables state source.scope (rows_of source.table state) source.scope.layout.key (select_list tables state q.select_list) q.keeps m.restriction column m.group having m.made m.leaves m.aggregates m.keeps m.own m.numbers m.are r
    ∙ ap (λ form. has root_cmp r (bad_roots (layouts_of tables) form state)) m.is

-- a form that NOT EXISTS makes has the truth of its roots
abbrev IsOfRoots : Tables → State → Form → Type 0
IsOfRoots tables state form = verdict_of (layouts_of tables) form state ≡ truth_of_roots (bad_roots (layouts_of tables) form state)

by_row_of_roots : (tables : Tables) (state : State) (source : Source) (query : Clauses) (form : Form) → by_row tables source query ≡ Ok form → IsOfRoots tables state form
by_row_of_roots tables state source query form e = subst (IsOfRoots tables state) (row_made tables source query form e).is refl

by_group_of_roots : (tables : Tables) (state : State) (source : Source) (query : Clauses) (column : ColumnName) (having : Condition) (form : Form) → by_group source query column having ≡ Ok form → IsOfRoots tables state form
by_group_of_roots tables state source query column having form e = subst (IsOfRoots tables state) (group_made source query column having form e).is refl

exists_agrees : (tables : Tables) (query : Query) (form : Form) → not_exists tables (out-Query query) ≡ Ok form → (state : State) → Agrees tables state form (query_roots tables state query (out-Query query)) (not_of (truth_of_bool (is_any (answers tables state query []))))
exists_agrees tables query form e state =
    let q = out-Query query in
    let (source, (found, more)) = in_class_ok (source_of tables q.table q.correlation_name) (λ source. by_clauses tables source q q.group q.having) form e in
    let finish : ((r : Root) → has root_cmp r (query_roots tables state query q) ≡ has root_cmp r (bad_roots (layouts_of tables) form state)) → IsOfRoots tables state form → Agrees tables state form (query_roots tables state query q) (not_of (truth_of_bool (is_any (answers tables state query [])))) = λ same of_roots.
    (same, none_given (root_of (group_value q.group (table_of tables state q.table q.correlation_name) []) (table_of tables state q.table q.correlation_name).table.layout.key) (answers tables state query []) ∙ same_empty (query_roots tables state query q) (bad_roots (layouts_of tables) form state) same ∙ sym of_roots) in
    ⊎_elim
    (λ rows. finish (row_agrees tables state query source form found rows.0 rows.1.0 rows.1.1) (by_row_of_roots tables state source q form rows.1.1))
    (λ groups. finish (group_agrees tables state query source groups.0 groups.1.0 form found groups.1.1.0 groups.1.1.1.0 groups.1.1.1.1) (by_group_of_roots tables state source q groups.0 groups.1.0 form groups.1.1.1.1))
    (by_clauses_ok tables source q q.group q.having form more)

-- ---- all

abbrev step_at : Tables → State → Condition-F Condition Expression SelectList Query → Truth
step_at tables state layer = written.condition_step (map-Condition Condition Expression SelectList Query (References → Truth) Evaluation Evaluation (References → List Answer) (truth tables state) (evaluation_of tables state) (select_list tables state) (answers tables state) layer) []

denied_agrees : (tables : Tables) (condition part : Condition) (form : Form) (layer : Condition-F Condition Expression SelectList Query) → out-Condition condition ≡ Condition-F.Not part → out-Condition part ≡ layer → form_of_negation tables condition layer ≡ Ok form
    → (state : State) → Agrees tables state form (denied_roots tables state (written_truth tables state condition) layer) (written_truth tables state condition)
denied_agrees tables condition part form (Condition-F.Or parts) n p e state = single_agrees tables condition form e state
denied_agrees tables condition part form (Condition-F.And parts) n p e state = single_agrees tables condition form e state
denied_agrees tables condition part form (Condition-F.Not inner) n p e state = single_agrees tables condition form e state
denied_agrees tables condition part form (Condition-F.Is inner wanted) n p e state = single_agrees tables condition form e state
denied_agrees tables condition part form (Condition-F.Exists query) n p e state =
    let (same, is) = exists_agrees tables query form e state in
    (same, ap (λ t. t []) (condition_out tables state condition) ∙ ap (λ layer. step_at tables state layer) n ∙ ap not_of (ap (λ t. t []) (condition_out tables state part) ∙ ap (λ layer. step_at tables state layer) p) ∙ is)
denied_agrees tables condition part form (Condition-F.Compare left comparison right) n p e state = single_agrees tables condition form e state
denied_agrees tables condition part form (Condition-F.IsNull x) n p e state = single_agrees tables condition form e state
denied_agrees tables condition part form (Condition-F.Between x low high) n p e state = single_agrees tables condition form e state
denied_agrees tables condition part form (Condition-F.In x list) n p e state = single_agrees tables condition form e state

whole_agrees : (tables : Tables) (condition : Condition) (form : Form) (layer : Condition-F Condition Expression SelectList Query) → out-Condition condition ≡ layer → form_in tables condition layer ≡ Ok form
    → (state : State) → Agrees tables state form (roots_in tables state (written_truth tables state condition) layer) (written_truth tables state condition)
whole_agrees tables condition form (Condition-F.Or parts) is e state = single_agrees tables condition form e state
whole_agrees tables condition form (Condition-F.And parts) is e state = single_agrees tables condition form e state
whole_agrees tables condition form (Condition-F.Not part) is e state = denied_agrees tables condition part form (out-Condition part) is refl e state
whole_agrees tables condition form (Condition-F.Is inner wanted) is e state = single_agrees tables condition form e state
whole_agrees tables condition form (Condition-F.Exists query) is e state = single_agrees tables condition form e state
whole_agrees tables condition form (Condition-F.Compare left comparison right) is e state = single_agrees tables condition form e state
whole_agrees tables condition form (Condition-F.IsNull x) is e state = single_agrees tables condition form e state
whole_agrees tables condition form (Condition-F.Between x low high) is e state = single_agrees tables condition form e state
whole_agrees tables condition form (Condition-F.In x list) is e state = single_agrees tables condition form e state

pub HasWrittenRoots-law : law.HasWrittenRoots
HasWrittenRoots-law tables condition form e state r =
    let (same, is) = whole_agrees tables condition form (out-Condition condition) refl e state in
    let bad = bad_roots (layouts_of tables) form state in
    let roots = written_bad_roots tables state condition in
    (λ c. contains-has root_exact bad r (sym (same r) ∙ has-contains root_cmp_total roots r c), λ c. contains-has root_exact roots r (same r ∙ has-contains root_cmp_total bad r c))

pub HasWrittenTruth-law : law.HasWrittenTruth
HasWrittenTruth-law tables condition form e state = (whole_agrees tables condition form (out-Condition condition) refl e state).1

pub HasWrittenLeast-law : law.HasWrittenLeast
HasWrittenLeast-law tables condition form e state =
    least_same root_cmp_total root_exact (written_bad_roots tables state condition) (bad_roots (layouts_of tables) form state) (whole_agrees tables condition form (out-Condition condition) refl e state).0
