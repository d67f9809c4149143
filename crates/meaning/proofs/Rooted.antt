-- Assertions by rows.
use Rattle.std.proofs.Common.{◌≡◌, ℕ, suc, ◌+◌, arith, Bool, true, false, cond, Option, Some, None, Ok, List, [], ◌∷◌, map, filter, length, refl, ap, sym, ◌∙◌, append-nil, nat_eq}
use Rattle.std.specs.Prelude.{not, option_map, slice_index_or, nat_lt}
use Rattle.std.specs.List.{position_or_len}
use Rattle.std.specs.Cmp.Lexicographic.{pointwise}
use Rattle.std.proofs.lemmas.List.Elements.{filter_agree}
use Rattle.std.proofs.lemmas.Option.{same_Some}
use Rattle.value.specs.declared.values.Value.{Value}
use Rattle.value.specs.declared.values.Root.{Root}
use Rattle.value.specs.declared.values.Root.TheVariants.{Of}
use Rattle.value.specs.declared.truths.Truth.TheVariants.{True}
use Rattle.value.specs.Truths.{is_of}
use Rattle.table.specs.Rows.{RowValues, Layout, Tables, value_in, layout_of, position_of, layouts_of, names_of}
use Rattle.table.specs.declared.conds.Cond.{Cond}
use Rattle.table.specs.declared.conds.Cond.TheViews as cond_of
use Rattle.table.specs.Eval as resolved
use Rattle.assertion.specs.declared.queries.Query.{Query as Subquery}
use Rattle.assertion.specs.declared.queries.Link.{Link}
use Rattle.assertion.specs.Meaning.{State, rows_of, linked_answer, lists_row, row_roots}
use Rattle.syntax.specs.declared.trees.Condition.{Condition}
use Rattle.form_check.specs.Scopes as names
use Rattle.form_check.specs.Scopes.{own_column}
use Rattle.form_check.specs.Columns.{at_place}
use Rattle.value.specs.Results.{each}
use Rattle.form_check.specs.Leaves.{Leaves}
use Rattle.form_check.specs.Queries.{Source, source_named}
use Rattle.form_check.specs.Forms.{slot_query_of, row_where}
use Rattle.meaning.specs.Meaning.{References, Evaluation, Answer, first_value, with_rows, passes, truth, root_of}
use Rattle.meaning.specs.Laws.{reference_to}
use Rattle.form_check.proofs.Steps.{ok_pair}
use Rattle.meaning.proofs.Numbering.{leaf_value, condition_faithful, truth-And}
use Rattle.meaning.proofs.Rows.{own_means}
use Rattle.meaning.proofs.Queries.{answers_by, each_gives}
use Rattle.meaning.proofs.Links.{linked_leaf, is_plain}

-- ---- the place of a table

cond_some : (b : Bool) (n t : ℕ) → ◌≡◌ {A = Option ℕ} (cond b (Some n) None) (Some t) → n ≡ t
cond_some true n t e = same_Some n t e
cond_some false n t e = cc

at_next : (b : Bool) (first_value l : Layout) (rest : List Layout) (n : ℕ) (d : Layout) (o : Option Layout) → ◌≡◌ {A = Option Layout} (cond b (Some first_value) o) (Some l) → (o ≡ Some l → slice_index_or rest n d ≡ l) → slice_index_or (first_value ∷ rest) (cond (not b) (1 + n) 0) d ≡ l
at_next true first_value l rest n d o e more = same_Some first_value l e
at_next false first_value l rest n d o e more = let next : 1 + n ≡ suc n = omega arith in ap (λ k. slice_index_or (first_value ∷ rest) k d) next ∙ more e

at_first : (name : List ℕ) (d : Layout) (tables : Tables) (l : Layout) → layout_of name tables ≡ Some l → slice_index_or (layouts_of tables) (position_or_len (pointwise nat_eq name) (names_of tables)) d ≡ l
at_first name d [] l e = cc
at_first name d (table ∷ tables) l e = at_next (pointwise nat_eq name table.0) table.1 l (layouts_of tables) (position_or_len (pointwise nat_eq name) (names_of tables)) d (layout_of name tables) e (at_first name d tables l)

pub layout_at : (name : List ℕ) (d : Layout) (tables : Tables) (t : ℕ) (l : Layout) → position_of name tables ≡ Some t → layout_of name tables ≡ Some l → slice_index_or (layouts_of tables) t d ≡ l
layout_at name d tables t l p e =
    let n = position_or_len (pointwise nat_eq name) (names_of tables) in
    let same : n ≡ t = cond_some (nat_lt n (length (names_of tables))) n t p in
    ap (λ n. slice_index_or (layouts_of tables) n d) (sym same) ∙ at_first name d tables l e

pub sourced_parts : (name : List ℕ) (p : Option ℕ) (l : Option Layout) (source : Source) → source_named name p l ≡ Some source → (p ≡ Some source.table) × (l ≡ Some source.scope.layout)
sourced_parts name None l source e = cc
sourced_parts name (Some t) None source e = cc
sourced_parts name (Some t) (Some l) source e =
    let found : Source = record { table = t; scope = record { exposed_name = name; layout = l } } in
    let same = same_Some found source e in
    (ap (λ (s : Source). let o : Option ℕ = Some s.table in o) same, ap (λ (s : Source). let o : Option Layout = Some s.scope.layout in o) same)

-- ---- WHERE of the outer query

row_filtered : (tables : Tables) (state : State) (root : names.Scope) (keeps : Option Condition) (made : Cond) (leaves : Leaves) (queries : List (Subquery Link)) → row_where root keeps ≡ Ok (made, leaves) → each (slot_query_of tables root) leaves ≡ Ok queries → (row : RowValues)
    → passes (option_map (truth tables state) keeps) (reference_to root (row ∷ []) ∷ []) ≡ lists_row state made queries row
row_filtered tables state root None made leaves queries is are row =
    let none : Leaves = [] in
    let slots = map (linked_answer state row) queries in
    let (same, nothing) = ok_pair (cond_of.And []) made none leaves is in
    ap (λ t. is_of t True) (sym (truth-And tables state [] row slots [])) ∙ ap (resolved.keeps row slots) same
row_filtered tables state root (Some condition) made leaves queries is are row =
    let scopes : References = reference_to root (row ∷ []) ∷ [] in
    let slots = map (linked_answer state row) queries in
    let fits = each_gives (slot_query_of tables root) (leaf_value tables state scopes) (linked_answer state row) (linked_leaf tables state root row) leaves queries are ∙ sym (append-nil (map (leaf_value tables state scopes) leaves)) in
    ap (λ t. is_of t True) (condition_faithful tables state scopes row slots (at_place (own_column root)) (own_means tables state root row slots []) condition [] made leaves is ([], fits)).0

one_row : (f : List RowValues → Answer) (key : RowValues → Value) (g : Answer → Root) → ((row : RowValues) → g (f (row ∷ [])) ≡ Of (key row)) → (rows : List RowValues) → map g (map f (filter (λ rows. true) (map (λ row. row ∷ []) rows))) ≡ map (λ row. Of (key row)) rows
one_row f key g same [] = refl
one_row f key g same (row ∷ rows) = ap (λ r. r ∷ map g (map f (filter (λ rows. true) (map (λ row. row ∷ []) rows)))) (same row) ∙ ap (λ rs. Of (key row) ∷ rs) (one_row f key g same rows)

-- the rows that a query with neither gives are those that the form lists
pub row_roots_are : (tables : Tables) (state : State) (root : names.Scope) (table : ℕ) (list : Evaluation) (keeps : Option Condition) (made : Cond) (leaves : Leaves) (queries : List (Subquery Link)) → list.sets ≡ false → row_where root keeps ≡ Ok (made, leaves) → each (slot_query_of tables root) leaves ≡ Ok queries
    → map (root_of None root.layout.key) (answers_by (reference_to root (rows_of table state)) list (option_map (truth tables state) keeps) None None []) ≡ row_roots state table root.layout.key made queries
row_roots_are tables state root table list keeps made leaves queries none is are =
    let rows = rows_of table state in
    let scope = reference_to root rows in
    let f : List RowValues → Answer = λ rows. record { rows = rows; value = list.value (with_rows scope rows []) } in
    ap (map (root_of None root.layout.key)) (is_plain scope list (option_map (truth tables state) keeps) [] none)
    ∙ one_row f (value_in root.layout.key) (root_of None root.layout.key) (λ row. refl) (filter (λ row. passes (option_map (truth tables state) keeps) (with_rows scope (row ∷ []) [])) rows)
    ∙ ap (map (λ row. Of (value_in root.layout.key row))) (filter_agree (λ row. passes (option_map (truth tables state) keeps) (with_rows scope (row ∷ []) [])) (lists_row state made queries) (row_filtered tables state root keeps made leaves queries is are) rows)
