-- What is maintained for an assertion, made in one pass over tables.
use Rattle.std.proofs.Common.{◌≡◌, ℕ, ◌<◌, ◌^◌, Bool, true, false, List, [], ◌∷◌, ◌++◌, Option, Some, None, length, refl, sym, ◌∙◌, ap, subst, arith, length-append}
use Rattle.std.specs.Prelude.{◌&&◌, All, filter, if◌then◌else◌}
use Rattle.std.proofs.lemmas.List.{get_or_append_left}
use Rattle.std.specs.Ordering.{eq_by_cmp, is_eq}
use Rattle.std.specs.declared.cmp.Ordering.{Ordering}
use Rattle.std.specs.declared.cmp.Ordering.TheVariants.{Less, Equal, Greater}
use Rattle.std.proofs.lemmas.Bool.{or_parts}
use Rattle.value.specs.declared.values.Value.{Value}
use Rattle.value.specs.declared.values.Root.{Root}
use Rattle.value.specs.declared.values.Root.TheVariants.{All as Whole, Of}
use Rattle.value.specs.ValueOrder.{value_cmp, root_cmp}
use Rattle.value.specs.Ordered.{by_order}
use Rattle.value.proofs.OrderedLists.{has}
use Rattle.table.specs.Aggregates.{rows_of_group}
use Rattle.table.specs.Rows.{RowValues, Layout, value_in, row_at, key_of}
use Rattle.table.specs.declared.conds.Cond.{Cond}
use Rattle.table.specs.Bounds.{IsSmallRow}
use Rattle.table.specs.Eval.{keeps}
use Rattle.assertion.specs.declared.forms.Form.{Form}
use Rattle.assertion.specs.declared.forms.Form.TheVariants.{ByRow, ByGroup, Single}
use Rattle.assertion.specs.declared.queries.Query.{Query}
use Rattle.assertion.specs.Candidates.{group_candidates}
use Rattle.assertion.specs.Meaning.{State, rows_of, filtered_rows}
use Rattle.assertion.specs.Roots.{AreBad, is_bad_row, is_bad_root, is_among}
use Rattle.assertion.proofs.KeptTruth.{not_of_group}
use Rattle.assertion.proofs.ListLemmas.{DropsAll, filter-filter}
use Rattle.groups.specs.Totals.{Entries, AreTotalsOf, AreWithin}
use Rattle.groups.proofs.RowLemmas.{members_within}
use Rattle.roots.specs.Bad.{AreUpdated, is_touched, named_roots}
use Rattle.roots.specs.Maintained.{IsSmallState}
use Rattle.roots.specs.declared.grouped.Grouping.{Grouping}
use Rattle.roots.specs.Summaries.{place, row_members}
use Rattle.roots.proofs.UpdateLemmas.{is_touched-has, groups_small, column_small}
use Rattle.roots.specs.Maintained.{IsSmallRoot}

-- the totals so far are those of the rows that are done
pub record AreDone (s : Query Grouping) (all left : List RowValues) (made : Entries) : Type 0 where
  pub done : List RowValues
  pub split : all ≡ done ++ left
  pub totals : AreTotalsOf s.aggregate (row_members s done) made

joined : (done rest : List RowValues) (row : RowValues) → done ++ row ∷ rest ≡ (done ++ row ∷ []) ++ rest
joined [] rest row = refl
joined (d ∷ done) rest row = ap (λ rows. d ∷ rows) (joined done rest row)

front-all : (P : RowValues → Type 0) (xs ys : List RowValues) → All P (xs ++ ys) → All P xs
front-all P xs ys h = λ k d below. subst P (get_or_append_left xs ys d k below) (h k d (omega (arith, below, length-append xs ys)))

-- what a row that is next has, and what is done behind it
pub next-split : (s : Query Grouping) (all left rest : List RowValues) (row : RowValues) (made : Entries) → left ≡ row ∷ rest → (a : AreDone s all left made) → all ≡ (a.done ++ row ∷ []) ++ rest
next-split s all left rest row made e a = a.split ∙ ap (λ rows. a.done ++ rows) e ∙ joined a.done rest row

pub next-within : (s : Query Grouping) (all left rest : List RowValues) (row : RowValues) (made : Entries) → left ≡ row ∷ rest → length all < 2 ^ 63 → All IsSmallRow all → (a : AreDone s all left made) → AreWithin (row_members s (a.done ++ row ∷ []))
next-within s all left rest row made e short small a =
    let split : all ≡ (a.done ++ row ∷ []) ++ rest = next-split s all left rest row made e a in
    members_within (place s) s.aggregate (a.done ++ row ∷ []) (omega (arith, short, ap length split, length-append (a.done ++ row ∷ []) rest)) (front-all IsSmallRow (a.done ++ row ∷ []) rest (subst (All IsSmallRow) split small))

pub done-more : (s : Query Grouping) (all left rest : List RowValues) (row : RowValues) (made more : Entries) → left ≡ row ∷ rest → (a : AreDone s all left made) → AreTotalsOf s.aggregate (row_members s (a.done ++ row ∷ [])) more → AreDone s all rest more
done-more s all left rest row made more e a t = record { done = a.done ++ row ∷ []; split = next-split s all left rest row made e a; totals = t }

-- a key that no row has has no row
no-row-at : (key : ℕ) (v : Value) (rows : List RowValues) → has root_cmp (Of v) (group_candidates key rows) ≡ false → row_at key v rows ≡ None
no-row-at key v [] h = refl
no-row-at key v (row ∷ rows) h =
    let none : Option RowValues = None in
    let parts : (eq_by_cmp value_cmp v (value_in key row) ≡ false) × (has root_cmp (Of v) (group_candidates key rows) ≡ false) = or_parts (eq_by_cmp value_cmp v (value_in key row)) (has root_cmp (Of v) (group_candidates key rows)) h in
    case (value_cmp v (value_in key row)) parts.0 (no-row-at key v rows parts.1)
  where
    case : (c : Ordering) → is_eq c ≡ false → row_at key v rows ≡ None → by_order c None (Some row) (row_at key v rows) ≡ None
    case Less h e = refl
    case Equal h e = cc
    case Greater h e = e

dropped : (p : RowValues → Bool) (rows : List RowValues) → DropsAll p rows → filter p rows ≡ []
dropped p [] d = refl
dropped p (row ∷ rows) d = rw d.0 (dropped p rows d.1)

no-group-of : (group : ℕ) (v : Value) (restriction : Cond) (rows : List RowValues) → has root_cmp (Of v) (group_candidates group rows) ≡ false → rows_of_group group v (filtered_rows restriction rows) ≡ []
no-group-of group v restriction rows h =
    filter-filter (λ row. eq_by_cmp value_cmp v (value_in group row)) (λ row. keeps row [] restriction) rows
    ∙ dropped (λ row. keeps row [] restriction && eq_by_cmp value_cmp v (value_in group row)) rows (not_of_group group v restriction rows h)

-- a root that no row names isn't bad
unnamed-good : (layouts : List Layout) (form : Form) (state : State) (r : Root) → has root_cmp r (named_roots layouts form state) ≡ false → is_bad_root layouts form state r ≡ false
unnamed-good layouts (ByRow table c queries) state Whole h = refl
unnamed-good layouts (ByRow table c queries) state (Of v) h = ap (is_bad_row state c queries) (no-row-at (key_of table layouts) v (rows_of table state) h)
unnamed-good layouts (ByGroup table restriction group having aggregates) state Whole h = refl
unnamed-good layouts (ByGroup table restriction group having aggregates) state (Of v) h = rw (no-group-of group v restriction (rows_of table state) h) refl
unnamed-good layouts (Single c queries) state Whole h = cc
unnamed-good layouts (Single c queries) state (Of v) h = refl

-- the bad roots, where all roots that rows name were looked at
pub AreBad-named : (layouts : List Layout) (form : Form) (state : State) (bad made : List Root) → bad ≡ [] → AreUpdated layouts form state (named_roots layouts form state) bad made → AreBad layouts form state made
AreBad-named layouts form state bad made e u = record {
  in_order = u.in_order;
  exact = λ r. u.right r ∙ case r (is_touched r (named_roots layouts form state)) refl;
}
  where
    case : (r : Root) (t : Bool) → is_touched r (named_roots layouts form state) ≡ t → (if t then is_bad_root layouts form state r else is_among r bad) ≡ is_bad_root layouts form state r
    case r true h = refl
    case r false h = ap (is_among r) e ∙ sym (unnamed-good layouts form state r (sym (is_touched-has r (named_roots layouts form state)) ∙ h))

-- the named roots are within bounds
pub named-small : (layouts : List Layout) (form : Form) (state : State) → IsSmallState state → All (IsSmallRoot form) (named_roots layouts form state)
named-small layouts (ByRow table c queries) state k = λ i d h. tt
named-small layouts (ByGroup table restriction group having aggregates) state k = groups_small group (ByGroup table restriction group having aggregates) (rows_of table state) (λ row h. column_small row group h) (k.small table)
named-small layouts (Single c queries) state k = λ i d h. tt
