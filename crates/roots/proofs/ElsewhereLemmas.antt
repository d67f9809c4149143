-- What is maintained for an assertion stays right through a change of a table that it isn't over.
use Rattle.std.proofs.Common.{◌≡◌, ◌≢◌, ℕ, Bool, true, false, List, [], ◌∷◌, ◌++◌, Option, Some, None, map, get_or, refl, sym, ◌∙◌, ap}
use Rattle.std.specs.Prelude.{◌==◌, All, flat_map, if◌then◌else◌}
use Rattle.std.proofs.lemmas.List.Elements.{All-nil, All-cons}
use Rattle.std.proofs.lemmas.Bool.{or_parts}
use Rattle.value.specs.declared.values.Value.{Value}
use Rattle.value.specs.declared.values.Root.{Root}
use Rattle.value.specs.declared.values.Root.TheVariants.{Of}
use Rattle.value.specs.ValueOrder.{root_cmp}
use Rattle.value.specs.Ordered.{HoldsOf}
use Rattle.value.proofs.OrderedLists.{has}
use Rattle.table.specs.declared.rows.Change.{Change}
use Rattle.table.specs.declared.aggregates.Aggregate.{Aggregate}
use Rattle.table.specs.Rows.{RowValues, Layout, row_at, key_of}
use Rattle.table.specs.Slotless.{has_slots}
use Rattle.table.specs.declared.conds.Cond.{Cond}
use Rattle.table.specs.Eval.{truth}
use Rattle.assertion.specs.declared.queries.Query.{Query}
use Rattle.assertion.specs.declared.queries.Link.{Link}
use Rattle.assertion.specs.declared.queries.Whole.{Whole as AnyWhole}
use Rattle.assertion.specs.declared.forms.Form.{Form}
use Rattle.assertion.specs.declared.forms.Form.TheVariants.{ByRow, ByGroup, Single}
use Rattle.assertion.specs.Candidates.{candidates, query_candidates, linked_roots, linked_values, group_candidates, rows_of_change, is_named}
use Rattle.assertion.specs.Meaning.{State, rows_of, verdict_of}
use Rattle.assertion.specs.Roots.{AreBad}
use Rattle.assertion.specs.Changes.{IsOrdered, IsChangeOf, state_after}
use Rattle.assertion.proofs.KeptTruth.{kept_truth, plain-same, rows-same, unequal_of}
use Rattle.assertion.proofs.LawLemmas.{AnswersVerdict-law}
use Rattle.groups.specs.Answers.{value_for}
use Rattle.groups.specs.Members.{rows_in}
use Rattle.groups.specs.Totals.{Entries}
use Rattle.groups.proofs.EntryLemmas.{AreTotalsOf-along}
use Rattle.roots.specs.Maintained.{AreMaintained, AreTotalsFor}
use Rattle.roots.specs.declared.grouped.Around.{Around}
use Rattle.roots.specs.declared.grouped.Grouping.{Grouping}
use Rattle.roots.specs.declared.grouped.Grouping.TheVariants.{Linked, ByKey, PerRow}
use Rattle.roots.specs.Over.{is_over}
use Rattle.roots.specs.Summaries.{around_of, group_query, group_rows_by, linked_query, members, place, rows_beside_one, summaries_of, summed_up, whole_query}
use Rattle.roots.proofs.MaintainedLemmas.{test_false}

-- such a change has no candidates
linked-none : (key : ℕ) (rows : List RowValues) (change : Change) (qs : List (Query Link)) → is_named change.table qs ≡ false → flat_map (query_candidates key rows change) qs ≡ []
linked-none key rows change [] h = refl
linked-none key rows change (q ∷ qs) h =
    let parts : ((q.table == change.table) ≡ false) × (is_named change.table qs ≡ false) = or_parts (q.table == change.table) (is_named change.table qs) h in
    ap (λ b. (if b then flat_map (linked_roots key q.grouping rows) (linked_values q.grouping (rows_of_change change)) else []) ++ flat_map (query_candidates key rows change) qs) parts.0
    ∙ linked-none key rows change qs parts.1

pub no-candidates : (layouts : List Layout) (after : State) (change : Change) (form : Form) → is_over change.table form ≡ false → candidates layouts after change form ≡ []
no-candidates layouts after change (ByRow table c queries) h =
    let parts : ((table == change.table) ≡ false) × (is_named change.table queries ≡ false) = or_parts (table == change.table) (is_named change.table queries) h in
    ap (λ b. (if b then Of change.key ∷ [] else []) ++ flat_map (query_candidates (key_of table layouts) (rows_of table after) change) queries) parts.0
    ∙ linked-none (key_of table layouts) (rows_of table after) change queries parts.1
no-candidates layouts after change (ByGroup table restriction group having aggregates) h = ap (λ b. if b then group_candidates group (rows_of_change change) else []) h
no-candidates layouts after change (Single c queries) h = rw h refl

-- no summary is of the table, nor are its rows around
abbrev IsElsewhere : ℕ → Query Grouping → Type 0
IsElsewhere t q = (q.table ≢ t) × HoldsOf (λ (around : Around). around.table ≢ t) (around_of q.grouping)

whole-elsewhere : (t : ℕ) (qs : List (Query AnyWhole)) → is_named t qs ≡ false → All (IsElsewhere t) (map whole_query qs)
whole-elsewhere t [] h = All-nil (IsElsewhere t)
whole-elsewhere t (q ∷ qs) h =
    let parts : ((q.table == t) ≡ false) × (is_named t qs ≡ false) = or_parts (q.table == t) (is_named t qs) h in
    All-cons (IsElsewhere t) (whole_query q) (map whole_query qs) (unequal_of q.table t parts.0, tt) (whole-elsewhere t qs parts.1)

around-elsewhere : (t : ℕ) (link : Link) (around : Around) → around.table ≢ t → (b c : Bool) → HoldsOf (λ (around : Around). around.table ≢ t) (around_of (if b then (if c then ByKey link else PerRow around) else Linked link))
around-elsewhere t link around h true true = tt
around-elsewhere t link around h true false = h
around-elsewhere t link around h false c = tt

linked-elsewhere : (layouts : List Layout) (t table : ℕ) → table ≢ t → (qs : List (Query Link)) → is_named t qs ≡ false → All (IsElsewhere t) (map (linked_query layouts table) qs)
linked-elsewhere layouts t table other [] h = All-nil (IsElsewhere t)
linked-elsewhere layouts t table other (q ∷ qs) h =
    let parts : ((q.table == t) ≡ false) × (is_named t qs ≡ false) = or_parts (q.table == t) (is_named t qs) h in
    let around : Around = record { table = table; key = key_of table layouts; link = q.grouping } in
    All-cons (IsElsewhere t) (linked_query layouts table q) (map (linked_query layouts table) qs)
    (unequal_of q.table t parts.0, around-elsewhere t q.grouping around other (has_slots q.filter) (q.grouping.inner == key_of q.table layouts))
    (linked-elsewhere layouts t table other qs parts.1)

group-elsewhere : (t table : ℕ) (restriction : Cond) (group : ℕ) (sets : List Aggregate) → table ≢ t → All (IsElsewhere t) (map (group_query table restriction group) sets)
group-elsewhere t table restriction group [] h = All-nil (IsElsewhere t)
group-elsewhere t table restriction group (a ∷ sets) h =
    All-cons (IsElsewhere t) (group_query table restriction group a) (map (group_query table restriction group) sets) (h, tt) (group-elsewhere t table restriction group sets h)

summaries-elsewhere : (layouts : List Layout) (t : ℕ) (form : Form) → is_over t form ≡ false → All (IsElsewhere t) (summaries_of layouts form)
summaries-elsewhere layouts t (ByRow table c queries) h =
    let parts : ((table == t) ≡ false) × (is_named t queries ≡ false) = or_parts (table == t) (is_named t queries) h in
    linked-elsewhere layouts t table (unequal_of table t parts.0) queries parts.1
summaries-elsewhere layouts t (ByGroup table restriction group having aggregates) h = group-elsewhere t table restriction group (summed_up aggregates) (unequal_of table t h)
summaries-elsewhere layouts t (Single c queries) h = whole-elsewhere t queries h

module _ (layouts : List Layout) (change : Change) (state : State) (is : IsChangeOf layouts change state) where
  -- the groups of other tables stay
  groups-elsewhere : (s : Query Grouping) (v : Value) → s.table ≢ change.table → (o : Option Around) → HoldsOf (λ (around : Around). around.table ≢ change.table) o → group_rows_by o (state_after layouts change state) s v ≡ group_rows_by o state s v
  groups-elsewhere s v e None h = ap (λ rows. rows_in (place s) rows v) (rows-same layouts change state s.table (test_false s.table change.table e))
  groups-elsewhere s v e (Some around) h =
      let after : State = state_after layouts change state in
      ap (λ rows. rows_beside_one around.link s.filter rows (row_at around.key v (rows_of around.table after))) (rows-same layouts change state s.table (test_false s.table change.table e))
      ∙ ap (λ rows. rows_beside_one around.link s.filter (rows_of s.table state) (row_at around.key v rows)) (rows-same layouts change state around.table (test_false around.table change.table h))

  totals-elsewhere : (s : Query Grouping) (es : Entries) → IsElsewhere change.table s → AreTotalsFor state s es → AreTotalsFor (state_after layouts change state) s es
  totals-elsewhere s es h k =
      AreTotalsOf-along s.aggregate (members state s) (members (state_after layouts change state) s) es (λ v. ap (map (value_for s.aggregate)) (groups-elsewhere s v h.0 (around_of s.grouping) h.1)) k

  pub maintained-elsewhere : (form : Form) (totals : List Entries) → is_over change.table form ≡ false → AreMaintained layouts state form totals → AreMaintained layouts (state_after layouts change state) form totals
  maintained-elsewhere form totals h k = record {
    long = k.long;
    right = λ i below s e. totals-elsewhere (get_or (summaries_of layouts form) i s) (get_or totals i e) (summaries-elsewhere layouts change.table form h i s below) (k.right i below s e);
  }

  pub bad-elsewhere : (form : Form) (bad : List Root) → IsOrdered layouts state → is_over change.table form ≡ false → AreBad layouts form state bad → AreBad layouts form (state_after layouts change state) bad
  bad-elsewhere form bad asc h k = record {
    in_order = k.in_order;
    exact = λ r. k.exact r ∙ sym (kept_truth layouts change state is asc form r (ap (has root_cmp r) (no-candidates layouts (state_after layouts change state) change form h)));
  }

  pub verdict-elsewhere : (form : Form) (bad : List Root) → IsOrdered layouts state → IsOrdered layouts (state_after layouts change state) → is_over change.table form ≡ false → AreBad layouts form state bad
      → verdict_of layouts form state ≡ verdict_of layouts form (state_after layouts change state)
  verdict-elsewhere (ByRow table c queries) bad asc after h k =
      AnswersVerdict-law layouts (ByRow table c queries) state bad asc k tt
      ∙ sym (AnswersVerdict-law layouts (ByRow table c queries) (state_after layouts change state) bad after (bad-elsewhere (ByRow table c queries) bad asc h k) tt)
  verdict-elsewhere (ByGroup table restriction group having aggregates) bad asc after h k =
      AnswersVerdict-law layouts (ByGroup table restriction group having aggregates) state bad asc k tt
      ∙ sym (AnswersVerdict-law layouts (ByGroup table restriction group having aggregates) (state_after layouts change state) bad after (bad-elsewhere (ByGroup table restriction group having aggregates) bad asc h k) tt)
  verdict-elsewhere (Single c queries) bad asc after h k = sym (ap (λ slots. truth [] slots c) (plain-same layouts change state queries h))
