-- The conditions of a form are bounded over the slots that they see.
use Rattle.std.proofs.Common.{◌≡◌, ℕ, ◌<◌, List, [], ◌∷◌, map, length, get_or, refl, sym, ap, subst}
use Rattle.std.specs.Prelude.{All}
use Rattle.std.proofs.lemmas.List.Elements.{All-map}
use Rattle.table.specs.declared.aggregates.Aggregate.{Aggregate}
use Rattle.table.specs.declared.conds.Cond.{Cond}
use Rattle.table.specs.Rows.{Layout}
use Rattle.assertion.specs.declared.forms.Form.{Form}
use Rattle.assertion.specs.declared.forms.Form.TheVariants.{ByRow, ByGroup, Single}
use Rattle.assertion.specs.Bounded.{IsBounded, IsBoundedOver}
use Rattle.table.specs.Kinds.{kind_of_aggregate}
use Rattle.assertion.specs.declared.queries.Query.{Query}
use Rattle.assertion.specs.declared.queries.Link.{Link}
use Rattle.assertion.specs.declared.queries.Whole.{Whole as AnyWhole}
use Rattle.roots.specs.declared.grouped.Grouping.{Grouping}
use Rattle.roots.specs.Answers.{kinds_in}
use Rattle.roots.specs.Summaries.{summed_up, group_query, linked_query, whole_query, queries_of, summaries_of}

abbrev IsFilterBounded : Query Grouping → Type 0
IsFilterBounded q = IsBoundedOver [] q.filter

pub all-bounded : (layouts : List Layout) (form : Form) → IsBounded form → All IsFilterBounded (summaries_of layouts form)
all-bounded layouts (ByRow table condition queries) b = All-map IsFilterBounded (linked_query layouts table) queries b.1
all-bounded layouts (ByGroup table restriction group having aggregates) b = All-map IsFilterBounded (group_query table restriction group) (summed_up aggregates) (λ i d h. b.0)
all-bounded layouts (Single condition queries) b = All-map IsFilterBounded whole_query queries b.1

-- the WHERE of each summary is bounded
pub summary-bounded : (layouts : List Layout) (form : Form) → IsBounded form → (i : ℕ) (s : Query Grouping) → i < length (summaries_of layouts form) → s ≡ get_or (summaries_of layouts form) i s → IsBoundedOver [] s.filter
summary-bounded layouts form b i s h e = subst IsFilterBounded (sym e) (all-bounded layouts form b i s h)

kinds-map : {X : Type 0} (query_of : X → Query Grouping) (xs : List X) → kinds_in (map query_of xs) ≡ map (λ x. kind_of_aggregate (query_of x).aggregate) xs
kinds-map query_of [] = refl
kinds-map query_of (x ∷ xs) = ap (λ kinds. kind_of_aggregate (query_of x).aggregate ∷ kinds) (kinds-map query_of xs)

-- the condition of a form is bounded over the kinds of its slots
pub row-bounded : (layouts : List Layout) (form : Form) (table : ℕ) (condition : Cond) (queries : List (Query Link)) → form ≡ ByRow table condition queries → IsBounded form → IsBoundedOver (kinds_in (queries_of layouts form)) condition
row-bounded layouts form table condition queries e = rw e (λ b. subst (λ kinds. IsBoundedOver kinds condition) (sym (kinds-map (linked_query layouts table) queries)) b.0)

pub having-bounded : (layouts : List Layout) (form : Form) (table : ℕ) (restriction : Cond) (group : ℕ) (having : Cond) (aggregates : List Aggregate) → form ≡ ByGroup table restriction group having aggregates → IsBounded form → IsBoundedOver (kinds_in (queries_of layouts form)) having
having-bounded layouts form table restriction group having aggregates e = rw e (λ b. subst (λ kinds. IsBoundedOver kinds having) (sym (kinds-map (group_query table restriction group) aggregates)) b.1)

pub whole-bounded : (layouts : List Layout) (form : Form) (condition : Cond) (queries : List (Query AnyWhole)) → form ≡ Single condition queries → IsBounded form → IsBoundedOver (kinds_in (queries_of layouts form)) condition
whole-bounded layouts form condition queries e = rw e (λ b. subst (λ kinds. IsBoundedOver kinds condition) (sym (kinds-map whole_query queries)) b.0)
