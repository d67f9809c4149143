-- What the queries of slots give is what the meaning of a form asks for.
use Rattle.std.proofs.Common.{◌≡◌, ◌≢◌, ℕ, ◌<◌, Bool, true, false, List, [], ◌∷◌, Option, Some, None, map, length, get_or, refl, sym, ◌∙◌, ap, subst, arith}
use Rattle.std.specs.Prelude.{◌==◌, ◌&&◌, nat_lt, if◌then◌else◌}
use Rattle.std.proofs.lemmas.Bool.Decides.{nat_tests}
use Rattle.std.proofs.lemmas.List.{length-map}
use Rattle.std.proofs.lemmas.List.Elements.{filter_agree}
use Rattle.std.specs.Ordering.{eq_by_cmp}
use Rattle.std.proofs.Math.Bool.{and-false}
use Rattle.value.specs.declared.values.Value.{Value}
use Rattle.value.specs.declared.values.Value.TheVariants.{Null}
use Rattle.value.specs.declared.values.Root.{Root}
use Rattle.value.specs.declared.values.Root.TheVariants.{All, Of}
use Rattle.value.specs.ValueOrder.{value_cmp}
use Rattle.value.proofs.ValueOrders.{value_exact}
use Rattle.value.specs.declared.truths.Truth.TheVariants.{True, False}
use Rattle.value.specs.Truths.{is_of}
use Rattle.table.specs.declared.aggregates.Aggregate.{Aggregate}
use Rattle.table.specs.Aggregates.{is_there, aggregate, rows_of_group}
use Rattle.table.specs.Rows.{RowValues, Layout, value_in, row_at, key_of}
use Rattle.table.specs.declared.conds.Cond.{Cond}
use Rattle.table.specs.Eval.{truth, keeps}
use Rattle.table.specs.Slotless.{has_slots}
use Rattle.table.proofs.SlotlessLemmas.{slotless_truth}
use Rattle.assertion.specs.declared.queries.Query.{Query}
use Rattle.assertion.specs.declared.queries.Link.{Link}
use Rattle.assertion.specs.declared.queries.Whole.{Whole as AnyWhole}
use Rattle.assertion.specs.declared.forms.Form.{Form}
use Rattle.assertion.specs.declared.forms.Form.TheVariants.{ByRow, ByGroup, Single}
use Rattle.assertion.specs.Meaning.{State, rows_of, links, linked_answer, plain_answer, filtered_rows, single_truth, verdict_of}
use Rattle.assertion.specs.Roots.{is_bad_row, is_bad_root}
use Rattle.assertion.proofs.KeptTruth.{links-there}
use Rattle.assertion.proofs.ListLemmas.{at-key, filter-filter}
use Rattle.groups.specs.Answers.{value_for}
use Rattle.groups.specs.Members.{is_placed}
use Rattle.roots.specs.Bad.{IsRowOf, answers, query_value, row_passes, group_passes, whole_truth}
use Rattle.roots.specs.declared.grouped.Around.{Around}
use Rattle.roots.specs.declared.grouped.Grouping.{Grouping}
use Rattle.roots.specs.declared.grouped.Grouping.TheVariants.{Linked, ByKey, PerRow}
use Rattle.roots.specs.Summaries.{place, query_with_grouping, rows_beside_one, group_rows, linked_query, whole_query, group_query, summed_up, members, queries_of, summaries_of}
use Rattle.roots.proofs.AnswerLemmas.{summed-some}

linked_by : (k t : Bool) (v w : Value) → is_placed v (if k then (if t then Some w else None) else None) ≡ (t && eq_by_cmp value_cmp v w) && k
linked_by true true v w = elim (eq_by_cmp value_cmp v w) as (λ b. b ≡ b && true) [ true ↦ refl | false ↦ refl ]
linked_by false true v w = sym (and-false (eq_by_cmp value_cmp v w))
linked_by true false v w = refl
linked_by false false v w = refl

-- a row that stands under its key
abbrev IsStanding : ℕ → ℕ → State → RowValues → Type 0
IsStanding table key state row = row_at key (value_in key row) (rows_of table state) ≡ Some row

-- a linked query gives what its meaning says: where its filter has no slots, the totals' rows are the linked ones; else
-- the rows are those beside the row
linked_given : (layouts : List Layout) (table : ℕ) (state : State) (row : RowValues) → IsStanding table (key_of table layouts) state row → (q : Query Link) → query_value state row (linked_query layouts table q) ≡ linked_answer state row q
linked_given layouts table state row stands q = case (has_slots q.filter) refl
  where
    v : Value
    v = value_in q.grouping.outer row

    here : RowValues → Value
    here linked = value_in q.grouping.inner linked

    around : Around
    around = record { table = table; key = key_of table layouts; link = q.grouping }

    same : has_slots q.filter ≡ false → (linked : RowValues)
        → is_placed v (if keeps linked [] q.filter then (if is_there (here linked) then Some (here linked) else None) else None) ≡ links q.grouping row linked && keeps linked row q.filter
    same e linked =
        linked_by (keeps linked [] q.filter) (is_there (here linked)) v (here linked)
        ∙ ap (λ b. b && keeps linked [] q.filter) (sym (links-there q.grouping row linked))
        ∙ ap (λ t. links q.grouping row linked && is_of t True) (slotless_truth linked [] row q.filter e)

    beside : (o : Option RowValues) → o ≡ Some row → aggregate q.aggregate (rows_beside_one q.grouping q.filter (rows_of q.table state) o) ≡ linked_answer state row q
    beside o e = rw e refl

    joint : (b : Bool) → (q.grouping.inner == key_of q.table layouts) ≡ b → query_value state row (query_with_grouping (if q.grouping.inner == key_of q.table layouts then ByKey q.grouping else PerRow around) q) ≡ linked_answer state row q
    joint true e = rw e refl
    joint false e = rw e (beside (row_at (key_of table layouts) (value_in (key_of table layouts) row) (rows_of table state)) stands)

    case : (b : Bool) → has_slots q.filter ≡ b → query_value state row (linked_query layouts table q) ≡ linked_answer state row q
    case true e = rw e (joint (q.grouping.inner == key_of q.table layouts) refl)
    case false e = rw e (ap (aggregate q.aggregate) (filter_agree (λ linked. is_placed v (place (query_with_grouping (Linked q.grouping) q) linked)) (λ linked. links q.grouping row linked && keeps linked row q.filter) (same e) (rows_of q.table state)))

linked_are : (layouts : List Layout) (table : ℕ) (state : State) (row : RowValues) → IsStanding table (key_of table layouts) state row → (qs : List (Query Link)) → answers state (map (linked_query layouts table) qs) row ≡ map (linked_answer state row) qs
linked_are layouts table state row stands [] = refl
linked_are layouts table state row stands (q ∷ qs) =
    ap (λ v. v ∷ answers state (map (linked_query layouts table) qs) row) (linked_given layouts table state row stands q)
    ∙ ap (λ rest. linked_answer state row q ∷ rest) (linked_are layouts table state row stands qs)

plain_by : (k : Bool) → is_placed Null (if k then Some Null else None) ≡ k
plain_by true = refl
plain_by false = refl

plain_are : (state : State) (qs : List (Query AnyWhole)) → answers state (map whole_query qs) [] ≡ map (plain_answer state) qs
plain_are state [] = refl
plain_are state (q ∷ qs) =
    ap (λ rows. aggregate q.aggregate rows ∷ answers state (map whole_query qs) [])
    (filter_agree (λ row. is_placed Null (place (whole_query q) row)) (λ row. keeps row [] q.filter) (λ row. plain_by (keeps row [] q.filter)) (rows_of q.table state))
    ∙ ap (λ rest. plain_answer state q ∷ rest) (plain_are state qs)

group_by : (k : Bool) (v w : Value) → is_placed v (if k then Some w else None) ≡ k && eq_by_cmp value_cmp v w
group_by true v w = refl
group_by false v w = refl

group_are-rows : (state : State) (v : Value) (table : ℕ) (restriction : Cond) (group : ℕ) (a : Aggregate) → group_rows state (group_query table restriction group a) v ≡ rows_of_group group v (filtered_rows restriction (rows_of table state))
group_are-rows state v table restriction group a =
    filter_agree (λ row. is_placed v (place (group_query table restriction group a) row)) (λ row. keeps row [] restriction && eq_by_cmp value_cmp v (value_in group row)) (λ row. group_by (keeps row [] restriction) v (value_in group row)) (rows_of table state)
    ∙ sym (filter-filter (λ row. eq_by_cmp value_cmp v (value_in group row)) (λ row. keeps row [] restriction) (rows_of table state))

group_are : (state : State) (v : Value) (table : ℕ) (restriction : Cond) (group : ℕ) (sets : List Aggregate) → answers state (map (group_query table restriction group) sets) (v ∷ []) ≡ map (λ a. aggregate a (rows_of_group group v (filtered_rows restriction (rows_of table state)))) sets
group_are state v table restriction group [] = refl
group_are state v table restriction group (a ∷ sets) =
    ap (λ rows. aggregate a rows ∷ answers state (map (group_query table restriction group) sets) (v ∷ [])) (group_are-rows state v table restriction group a)
    ∙ ap (λ rest. aggregate a (rows_of_group group v (filtered_rows restriction (rows_of table state))) ∷ rest) (group_are state v table restriction group sets)

-- a form by rows
row_passes-is : (layouts : List Layout) (table : ℕ) (state : State) (c : Cond) (qs : List (Query Link)) (v : Value) (o : Option RowValues) → row_at (key_of table layouts) v (rows_of table state) ≡ o → row_passes state (map (linked_query layouts table) qs) c o ≡ is_bad_row state c qs o
row_passes-is layouts table state c qs v None e = refl
row_passes-is layouts table state c qs v (Some row) e =
    let key : ℕ = key_of table layouts in
    let own : v ≡ value_in key row = value_exact v (value_in key row) (at-key value_cmp (value_in key) v (rows_of table state) row e) in
    ap (λ slots. keeps row slots c) (linked_are layouts table state row (subst (λ w. row_at key w (rows_of table state) ≡ Some row) own e) qs)

pub row-bad : (layouts : List Layout) (state : State) (form : Form) (root : Root) (row : Option RowValues) (t : ℕ) (c : Cond) (qs : List (Query Link)) (v : Value) → form ≡ ByRow t c qs → root ≡ Of v → IsRowOf layouts form state root row
    → row_passes state (queries_of layouts form) c row ≡ is_bad_root layouts form state root
row-bad layouts state form root row t c qs v e r = rw (e, r) (λ is. row_passes-is layouts t state c qs v row (sym is) ∙ ap (is_bad_row state c qs) is)

-- a form by groups
group_members : (state : State) (v : Value) (table : ℕ) (restriction : Cond) (group : ℕ) (sets : List Aggregate) (d : Query Grouping) → 0 < length sets
    → length (members state (get_or (map (group_query table restriction group) sets) 0 d) v) ≡ length (rows_of_group group v (filtered_rows restriction (rows_of table state)))
group_members state v table restriction group [] d h = absurd (omega arith)
group_members state v table restriction group (a ∷ sets) d h = length-map (group_rows state (group_query table restriction group a) v) (value_for a) ∙ ap length (group_are-rows state v table restriction group a)

pub group-bad : (layouts : List Layout) (state : State) (form : Form) (root : Root) (t : ℕ) (restriction : Cond) (group : ℕ) (having : Cond) (sets : List Aggregate) (v : Value) (d : Query Grouping) → form ≡ ByGroup t restriction group having sets → root ≡ Of v
    → group_passes state (get_or (summaries_of layouts form) 0 d) (queries_of layouts form) having v ≡ is_bad_root layouts form state root
group-bad layouts state form root t restriction group having sets v d e r = rw (e, r)
    (ap (λ n. nat_lt 0 n && keeps (v ∷ []) (answers state (map (group_query t restriction group) sets) (v ∷ [])) having) (group_members state v t restriction group (summed_up sets) d (summed-some sets))
    ∙ ap (λ slots. nat_lt 0 (length (rows_of_group group v (filtered_rows restriction (rows_of t state)))) && keeps (v ∷ []) slots having) (group_are state v t restriction group sets))

pub group-some : (layouts : List Layout) (form : Form) (t : ℕ) (restriction : Cond) (group : ℕ) (having : Cond) (sets : List Aggregate) → form ≡ ByGroup t restriction group having sets → 0 < length (summaries_of layouts form)
group-some layouts form t restriction group having sets e = rw e (omega (arith, length-map (summed_up sets) (group_query t restriction group), summed-some sets))

-- a condition that sees no row
pub whole-is : (layouts : List Layout) (state : State) (form : Form) (c : Cond) (qs : List (Query AnyWhole)) → form ≡ Single c qs → whole_truth state (queries_of layouts form) c ≡ single_truth state c qs
whole-is layouts state form c qs e = rw e (ap (λ slots. truth [] slots c) (plain_are state qs))

pub whole-bad : (layouts : List Layout) (state : State) (form : Form) (root : Root) (c : Cond) (qs : List (Query AnyWhole)) → form ≡ Single c qs → root ≡ All → is_of (whole_truth state (queries_of layouts form) c) False ≡ is_bad_root layouts form state root
whole-bad layouts state form root c qs e r = ap (λ t. is_of t False) (whole-is layouts state form c qs e) ∙ sym (rw (e, r) refl)

pub whole-verdict : (layouts : List Layout) (state : State) (form : Form) (c : Cond) (qs : List (Query AnyWhole)) → form ≡ Single c qs → whole_truth state (queries_of layouts form) c ≡ verdict_of layouts form state
whole-verdict layouts state form c qs e = whole-is layouts state form c qs e ∙ sym (rw e refl)

-- a group has no row
pub no-row : (n m : ℕ) → n ≡ 0 → n ≡ m → nat_lt 0 m ≡ false
no-row n m e f = grind (arith, nat_tests)

pub some-row : (n m : ℕ) → n ≢ 0 → n ≡ m → nat_lt 0 m ≡ true
some-row n m e f = grind (arith, nat_tests)
