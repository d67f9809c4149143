-- Assertions by groups.
use Rattle.std.proofs.Common.{◌≡◌, ℕ, Bool, true, false, cond, Option, Some, None, Result, Ok, List, [], ◌∷◌, map, filter, refl, ap, sym, ◌∙◌, append-nil, arith}
use Rattle.std.specs.Prelude.{◌||◌, ◌&&◌, ◌==◌, option_map, if◌then◌else◌}
use Rattle.std.proofs.lemmas.List.Elements.{filter_agree}
use Rattle.std.specs.Ordering.{eq_by_cmp}
use Rattle.std.proofs.lemmas.Bool.Decides.{nat_tests}
use Rattle.std.proofs.lemmas.Option.{same_Some}
use Rattle.std.proofs.lemmas.Bool.{or_right}
use Rattle.value.specs.declared.values.Value.{Value}
use Rattle.value.specs.declared.values.Root.{Root}
use Rattle.value.specs.declared.values.Root.TheVariants.{All, Of}
use Rattle.value.specs.declared.refusals.Refusal.{Refusal}
use Rattle.value.specs.ValueOrder.{value_cmp, root_cmp}
use Rattle.value.proofs.OrderedLists.{has}
use Rattle.value.specs.declared.truths.Truth.TheVariants.{True}
use Rattle.value.specs.Truths.{is_of}
use Rattle.table.specs.Rows.{RowValues, Tables, value_in}
use Rattle.table.specs.Aggregates.{distinct, aggregate, rows_of_group}
use Rattle.table.specs.declared.aggregates.Aggregate.{Aggregate}
use Rattle.table.specs.declared.aggregates.Aggregate.TheVariants.{CountRows}
use Rattle.table.specs.declared.conds.Cond.{Cond}
use Rattle.table.specs.Eval as resolved
use Rattle.table.proofs.DistinctLemmas.{same_value, itself, has_filter, has_distinct}
use Rattle.assertion.specs.Meaning.{State, filtered_rows, lists_group, group_roots}
use Rattle.syntax.specs.declared.trees.ColumnName.{ColumnName}
use Rattle.syntax.specs.declared.trees.Condition.{Condition}
use Rattle.form_check.specs.Scopes as names
use Rattle.form_check.specs.Scopes.{own_column}
use Rattle.value.specs.Results.{each}
use Rattle.form_check.specs.Columns.{in_group, grouping_column, at_place}
use Rattle.form_check.specs.Leaves.{Leaf, Leaves, Rows, Of as SetOf, Exists, Value as Worth, numbered}
use Rattle.form_check.specs.Queries.{row_filter, of_column}
use Rattle.form_check.specs.Forms.{aggregate_of}
use Rattle.meaning.specs.Meaning as written
use Rattle.meaning.specs.Meaning.{References, Evaluation, Answer, column_values, first_value, with_rows, passes, truth, root_of}
use Rattle.meaning.specs.Laws.{reference_to}
use Rattle.form_check.proofs.Steps.{in_class_ok, ok_same}
use Rattle.meaning.proofs.Numbering.{leaf_value, condition_faithful, at_place_means}
use Rattle.meaning.proofs.Rows.{own_value, own_values, row_filter_keeps}
use Rattle.meaning.proofs.Queries.{answers_by, each_gives, set_function_of}

-- ---- lists

pub map_agree : {X Y : Type 0} (f g : X → Y) → ((x : X) → f x ≡ g x) → (xs : List X) → map f xs ≡ map g xs
map_agree f g same [] = refl
map_agree f g same (x ∷ xs) = ap (λ y. y ∷ map f xs) (same x) ∙ ap (λ ys. g x ∷ ys) (map_agree f g same xs)

pub map_twice : {X Y Z : Type 0} (f : X → Y) (g : Y → Z) (xs : List X) → map g (map f xs) ≡ map (λ x. g (f x)) xs
map_twice f g [] = refl
map_twice f g (x ∷ xs) = ap (λ zs. g (f x) ∷ zs) (map_twice f g xs)

has_of : (w : Value) (vs : List Value) → has root_cmp (Of w) (map Of vs) ≡ has value_cmp w vs
has_of w [] = refl
has_of w (v ∷ vs) = ap (λ b. eq_by_cmp value_cmp w v || b) (has_of w vs)

has_all : (vs : List Value) → has root_cmp All (map Of vs) ≡ false
has_all [] = refl
has_all (v ∷ vs) = has_all vs

-- what passes of a list's values, each once, has the roots that what passes of the list has
pub has_passing : (q : Value → Bool) (vs : List Value) (r : Root) → has root_cmp r (map Of (filter q (distinct vs))) ≡ has root_cmp r (map Of (filter q vs))
has_passing q vs All = has_all (filter q (distinct vs)) ∙ sym (has_all (filter q vs))
has_passing q vs (Of w) =
    has_of w (filter q (distinct vs)) ∙ has_filter q w (distinct vs) ∙ ap (λ b. b && q w) (has_distinct w vs) ∙ sym (has_filter q w vs) ∙ sym (has_of w (filter q vs))

-- ---- groups of rows

-- the rows of a value that some row has are of that value
value_first : (g : ℕ) (v : Value) (row : RowValues) (rows : List RowValues) → (has value_cmp v (map (value_in g) rows) ≡ true → first_value (map (value_in g) (rows_of_group g v rows)) ≡ v) → (b : Bool) → eq_by_cmp value_cmp v (value_in g row) ≡ b
    → b || has value_cmp v (map (value_in g) rows) ≡ true → first_value (map (value_in g) (cond b (row ∷ rows_of_group g v rows) (rows_of_group g v rows))) ≡ v
value_first g v row rows more true e h = sym (same_value v (value_in g row) e)
value_first g v row rows more false e h = more h

pub first_of_group : (g : ℕ) (v : Value) (rows : List RowValues) → has value_cmp v (map (value_in g) rows) ≡ true → first_value (map (value_in g) (rows_of_group g v rows)) ≡ v
first_of_group g v [] h = cc
first_of_group g v (row ∷ rows) h = value_first g v row rows (first_of_group g v rows) (eq_by_cmp value_cmp v (value_in g row)) refl h

-- groups that pass, by their values
passing : (group : Value → List RowValues) (name : List RowValues → Value) (p : List RowValues → Bool) (q : Value → Bool) (vs : List Value) → ((w : Value) → has value_cmp w vs ≡ true → (name (group w) ≡ w) × (p (group w) ≡ q w))
    → map (λ rows. Of (name rows)) (filter p (map group vs)) ≡ map Of (filter q vs)
passing group name p q [] same = refl
passing group name p q (v ∷ vs) same =
    let here = same v (ap (λ b. b || has value_cmp v vs) (itself v)) in
    let rest = passing group name p q vs (λ w h. same w (or_right (eq_by_cmp value_cmp w v) (has value_cmp w vs) h)) in
    ap (λ b. map (λ rows. Of (name rows)) (cond b (group v ∷ filter p (map group vs)) (filter p (map group vs)))) here.1
    ∙ elim (q v) as (λ b. map (λ rows. Of (name rows)) (cond b (group v ∷ filter p (map group vs)) (filter p (map group vs))) ≡ map Of (cond b (v ∷ filter q vs) (filter q vs))) [
      | true ↦ ap (λ w. Of w ∷ map (λ rows. Of (name rows)) (filter p (map group vs))) here.0 ∙ ap (λ rs. Of v ∷ rs) rest
      | false ↦ rest
    ]

-- ---- HAVING

pub aggregate_leaf : (tables : Tables) (state : State) (scope : names.Scope) (rows : List RowValues) (leaf : Leaf) (a : Aggregate) → aggregate_of scope leaf ≡ Ok a → leaf_value tables state (reference_to scope rows ∷ []) leaf ≡ aggregate a rows
aggregate_leaf tables state scope rows Rows a e = ap (λ (a : Aggregate). aggregate a rows) (ok_same CountRows a e)
aggregate_leaf tables state scope rows (SetOf f argument) a e =
    let q = argument.quantifier in
    let (c, (is, makes)) = in_class_ok (own_column scope argument.column) (λ c. let r : Result Aggregate Refusal = Ok (of_column f q c) in r) a e in
    set_function_of f q scope rows [] argument.column c is ∙ ap (λ (a : Aggregate). aggregate a rows) (ok_same (of_column f q c) a makes)
aggregate_leaf tables state scope rows (Exists query) a e = cc
aggregate_leaf tables state scope rows (Worth query) a e = cc

-- the grouping column, in the group's row
pub in_group_is : (group : ℕ) (o : Option ℕ) (c : ℕ) → in_group group o ≡ Some c → (o ≡ Some group) × (c ≡ 0)
in_group_is group None c e = cc
in_group_is group (Some column) c e =
    let case : (b : Bool) → column == group ≡ b → (if b then Some 0 else None) ≡ Some c → (◌≡◌ {A = Option ℕ} (Some column) (Some group)) × (c ≡ 0) = λ b. elim b as (λ b. column == group ≡ b → (if b then Some 0 else None) ≡ Some c → (◌≡◌ {A = Option ℕ} (Some column) (Some group)) × (c ≡ 0)) [
      | true ↦ λ t e. let same : column ≡ group = grind (arith, nat_tests) in (ap (λ (n : ℕ). let o : Option ℕ = Some n in o) same, sym (same_Some 0 c e))
      | false ↦ λ t e. cc
    ] in case (column == group) refl e

group_value : (scope : names.Scope) (group : ℕ) (v : Value) (rows : List RowValues) → first_value (map (value_in group) rows) ≡ v → (column : ColumnName) (c : ℕ) → grouping_column scope group column ≡ Some c
    → first_value (column_values column (reference_to scope rows ∷ [])) ≡ value_in c (v ∷ [])
group_value scope group v rows is column c e =
    let (own, zero) = in_group_is group (own_column scope column) c e in
    ap first_value (own_values scope rows [] column group own) ∙ is ∙ ap (λ n. value_in n (v ∷ [])) (sym zero)

-- HAVING keeps the group of a value exactly where its resolved condition does
pub having_keeps : (tables : Tables) (state : State) (scope : names.Scope) (group : ℕ) (having : Condition) (made : Cond) (leaves : Leaves) (aggregates : List Aggregate) → numbered (at_place (grouping_column scope group)) having [] ≡ Ok (made, leaves) → each (aggregate_of scope) leaves ≡ Ok aggregates
    → (rows : List RowValues) (v : Value) → first_value (map (value_in group) rows) ≡ v → truth tables state having (reference_to scope rows ∷ []) ≡ resolved.truth (v ∷ []) (map (λ a. aggregate a rows) aggregates) made
having_keeps tables state scope group having made leaves aggregates is are rows v named =
    let scopes : References = reference_to scope rows ∷ [] in
    let slots = map (λ a. aggregate a rows) aggregates in
    let fits = each_gives (aggregate_of scope) (leaf_value tables state scopes) (λ a. aggregate a rows) (aggregate_leaf tables state scope rows) leaves aggregates are ∙ sym (append-nil (map (leaf_value tables state scopes) leaves)) in
    (condition_faithful tables state scopes (v ∷ []) slots (at_place (grouping_column scope group)) (at_place_means tables state scopes (v ∷ []) slots (grouping_column scope group) (group_value scope group v rows named)) having [] made leaves is ([], fits)).0

-- ---- the roots

-- the rows of each value, by two ways to read the value
regrouped : (f g : RowValues → Value) → ((row : RowValues) → f row ≡ g row) → (p : List RowValues → Bool) (rows : List RowValues)
    → map (λ rows. Of (first_value (map f rows))) (filter p (map (λ v. filter (λ row. eq_by_cmp value_cmp v (f row)) rows) (distinct (map f rows))))
    ≡ map (λ rows. Of (first_value (map g rows))) (filter p (map (λ v. filter (λ row. eq_by_cmp value_cmp v (g row)) rows) (distinct (map g rows))))
regrouped f g same p rows =
    map_agree (λ rows. Of (first_value (map f rows))) (λ rows. Of (first_value (map g rows))) (λ rows. ap (λ vs. Of (first_value vs)) (map_agree f g same rows)) (filter p (map (λ v. filter (λ row. eq_by_cmp value_cmp v (f row)) rows) (distinct (map f rows))))
    ∙ ap (λ gs. map (λ rows. Of (first_value (map g rows))) (filter p gs)) (map_agree (λ v. filter (λ row. eq_by_cmp value_cmp v (f row)) rows) (λ v. filter (λ row. eq_by_cmp value_cmp v (g row)) rows) (λ v. filter_agree (λ row. eq_by_cmp value_cmp v (f row)) (λ row. eq_by_cmp value_cmp v (g row)) (λ row. ap (eq_by_cmp value_cmp v) (same row)) rows) (distinct (map f rows)))
    ∙ ap (λ vs. map (λ rows. Of (first_value (map g rows))) (filter p (map (λ v. filter (λ row. eq_by_cmp value_cmp v (g row)) rows) (distinct vs)))) (map_agree f g same rows)

-- the groups that a query with GROUP BY and HAVING gives are those that the form lists
pub group_roots_are : (tables : Tables) (state : State) (scope : names.Scope) (rows : List RowValues) (l : ℕ) (list : Evaluation) (keeps : Option Condition) (restriction : Cond) (column : ColumnName) (group : ℕ) (having : Condition) (made : Cond) (leaves : Leaves) (aggregates : List Aggregate)
    → row_filter scope keeps ≡ Ok restriction → own_column scope column ≡ Some group → numbered (at_place (grouping_column scope group)) having [] ≡ Ok (made, leaves) → each (aggregate_of scope) leaves ≡ Ok aggregates → (r : Root)
    → has root_cmp r (map (root_of (written.group_value (Some column) (reference_to scope rows) []) l) (answers_by (reference_to scope rows) list (option_map (truth tables state) keeps) (Some column) (Some (truth tables state having)) []))
    ≡ has root_cmp r (group_roots (filtered_rows restriction rows) group made aggregates)
group_roots_are tables state scope rows l list keeps restriction column group having made leaves aggregates filters own is are r =
    let table = reference_to scope rows in
    let f : RowValues → Value = λ row. first_value (column_values column (with_rows table (row ∷ []) [])) in
    let same : (row : RowValues) → f row ≡ value_in group row = λ row. own_value scope row [] column group own in
    let p : List RowValues → Bool = λ rows. passes (Some (truth tables state having)) (with_rows table rows []) in
    let k = filtered_rows restriction rows in
    let q = lists_group k group made aggregates in
    let groups_in : List RowValues → List (List RowValues) = λ rows. filter p (map (λ v. filter (λ row. eq_by_cmp value_cmp v (f row)) rows) (distinct (map f rows))) in
    let filtered_same = filter_agree (λ row. passes (option_map (truth tables state) keeps) (with_rows table (row ∷ []) [])) (λ row. resolved.keeps row [] restriction) (λ row. row_filter_keeps scope keeps restriction filters tables state row []) rows in
    let answer : List RowValues → Answer = λ rows. record { rows = rows; value = list.value (with_rows table rows []) } in
    ap (λ rows. has root_cmp r (map (root_of (Some f) l) (map answer (groups_in rows)))) filtered_same
    ∙ ap (has root_cmp r) (map_twice answer (root_of (Some f) l) (groups_in k) ∙ regrouped f (value_in group) same p k
    ∙ passing (λ v. rows_of_group group v k) (λ rows. first_value (map (value_in group) rows)) p q (distinct (map (value_in group) k)) (λ w h.
    let named = first_of_group group w k (sym (has_distinct w (map (value_in group) k)) ∙ h) in
    (named, ap (λ t. is_of t True) (having_keeps tables state scope group having made leaves aggregates is are (rows_of_group group w k) w named))))
    ∙ has_passing q (map (value_in group) k) r
