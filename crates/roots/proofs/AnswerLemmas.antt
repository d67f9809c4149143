-- The slots are answered from the maintained totals.
use Rattle.std.proofs.Common.{◌≡◌, ℕ, ◌+◌, ◌<◌, zero, suc, List, [], ◌∷◌, ◌++◌, length, take, get_or, arith, refl, sym, ◌∙◌, ap, subst}
use Rattle.std.proofs.lemmas.List.{take_more, map-append, length-map, get_or-map}
use Rattle.table.specs.declared.aggregates.Aggregate.{Aggregate}
use Rattle.table.specs.declared.aggregates.Aggregate.TheVariants.{CountRows}
use Rattle.table.specs.Rows.{RowValues, Layout}
use Rattle.table.specs.declared.conds.Cond.{Cond}
use Rattle.table.specs.declared.slots.SlotValue.{SlotValue}
use Rattle.table.specs.Slots.{SlotValues, kind_of, kinds_of, value_of, values_of}
use Rattle.table.specs.Kinds.{kind_of_aggregate}
use Rattle.assertion.specs.Meaning.{State}
use Rattle.assertion.specs.declared.queries.Query.{Query}
use Rattle.assertion.specs.declared.forms.Form.{Form}
use Rattle.assertion.specs.declared.forms.Form.TheVariants.{ByRow, ByGroup, Single}
use Rattle.groups.specs.Totals.{Entries}
use Rattle.roots.specs.Answers.{kinds_in}
use Rattle.roots.specs.Bad.{answers, query_value}
use Rattle.roots.specs.declared.grouped.Grouping.{Grouping}
use Rattle.roots.specs.Summaries.{summed_up, group_query, queries_of, summaries_of}
use Rattle.roots.proofs.MaintainedLemmas.{totals-at}
use Rattle.roots.specs.Maintained.{AreMaintained, AreTotalsFor}

-- the set function at a place that groups are summed up for
summed-at : (sets : List Aggregate) (i : ℕ) → i < length (summed_up sets) → get_or (summed_up sets) i CountRows ≡ get_or sets i CountRows
summed-at [] zero h = refl
summed-at [] (suc i) h = absurd (omega (arith, h))
summed-at (a ∷ sets) i h = refl

pub summed-some : (sets : List Aggregate) → 0 < length (summed_up sets)
summed-some [] = omega arith
summed-some (a ∷ sets) = omega arith

-- a summary of a form by groups
pub group-summary : (layouts : List Layout) (form : Form) (table : ℕ) (restriction : Cond) (group : ℕ) (having : Cond) (sets : List Aggregate) → form ≡ ByGroup table restriction group having sets
    → (i : ℕ) → i < length (summaries_of layouts form) → (d : Query Grouping) → get_or (summaries_of layouts form) i d ≡ group_query table restriction group (get_or sets i CountRows)
group-summary layouts form table restriction group having sets is i = rw is (λ h d.
    let within : i < length (summed_up sets) = subst (λ n. i < n) (length-map (summed_up sets) (group_query table restriction group)) h in
    get_or-map (group_query table restriction group) (summed_up sets) i CountRows d within ∙ ap (group_query table restriction group) (summed-at sets i within))

-- where there is a slot, the summaries are the queries of the slots
slots-summed : (layouts : List Layout) (form : Form) (i : ℕ) → i < length (queries_of layouts form) → summaries_of layouts form ≡ queries_of layouts form
slots-summed layouts (ByRow table condition queries) i h = refl
slots-summed layouts (ByGroup table restriction group having []) i h = absurd (omega (arith, h))
slots-summed layouts (ByGroup table restriction group having (a ∷ sets)) i h = refl
slots-summed layouts (Single condition queries) i h = refl

pub slot-within : (layouts : List Layout) (form : Form) (i : ℕ) → i < length (queries_of layouts form) → i < length (summaries_of layouts form)
slot-within layouts form i h = subst (λ n. i < n) (ap length (sym (slots-summed layouts form i h))) h

-- the summary at a slot's place is the slot's query
slot-query : (layouts : List Layout) (form : Form) (i : ℕ) (s : Query Grouping) → i < length (queries_of layouts form) → s ≡ get_or (summaries_of layouts form) i s → s ≡ get_or (queries_of layouts form) i s
slot-query layouts form i s h e = e ∙ ap (λ queries. get_or queries i s) (slots-summed layouts form i h)

module _ (layouts : List Layout) (form : Form) (i : ℕ) (s : Query Grouping) (h : i < length (queries_of layouts form)) (is : s ≡ get_or (summaries_of layouts form) i s) where
  -- the totals at the slot's place are those that its query asks for
  pub slot-totals : (state : State) (totals : List Entries) (es : Entries) → AreMaintained layouts state form totals → es ≡ get_or totals i es → AreTotalsFor state s es
  slot-totals state totals es k e = subst (λ (q : Query Grouping). AreTotalsFor state q es) (sym is) (totals-at state (summaries_of layouts form) (length (summaries_of layouts form)) totals i es k (slot-within layouts form i h) e s)

  -- the kinds of the slots, with one more
  pub kinds-more : (v : SlotValue) (slots more : SlotValues) → kind_of v ≡ kind_of_aggregate s.aggregate → more ≡ slots ++ v ∷ []
      → kinds_of slots ≡ kinds_in (take i (queries_of layouts form)) → kinds_of more ≡ kinds_in (take (i + 1) (queries_of layouts form))
  kinds-more v slots more kind g so_far =
      let queries : List (Query Grouping) = queries_of layouts form in
      ap kinds_of g ∙ map-append kind_of slots (v ∷ []) ∙ ap (λ kinds. kinds ++ kind_of v ∷ []) so_far
      ∙ ap (λ kind. kinds_in (take i queries) ++ kind ∷ []) (kind ∙ ap (λ (q : Query Grouping). kind_of_aggregate q.aggregate) (slot-query layouts form i s h is))
      ∙ sym (ap kinds_in (take_more queries i s h) ∙ map-append (λ (q : Query Grouping). kind_of_aggregate q.aggregate) (take i queries) (get_or queries i s ∷ []))

  -- the values of the slots, with one more
  pub values-more : (state : State) (row : RowValues) (v : SlotValue) (slots more : SlotValues) → value_of v ≡ query_value state row s
      → more ≡ slots ++ v ∷ [] → values_of slots ≡ answers state (take i (queries_of layouts form)) row → values_of more ≡ answers state (take (i + 1) (queries_of layouts form)) row
  values-more state row v slots more e g so_far =
      let queries : List (Query Grouping) = queries_of layouts form in
      ap values_of g ∙ map-append value_of slots (v ∷ []) ∙ ap (λ vs. vs ++ value_of v ∷ []) so_far
      ∙ ap (λ x. answers state (take i queries) row ++ x ∷ []) (e ∙ ap (query_value state row) (slot-query layouts form i s h is))
      ∙ sym (ap (λ qs. answers state qs row) (take_more queries i s h) ∙ map-append (query_value state row) (take i queries) (get_or queries i s ∷ []))
