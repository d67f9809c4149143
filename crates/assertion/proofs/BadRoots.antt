-- The list of bad roots has exactly the roots that are bad of themselves.
use Rattle.std.proofs.Common.{◌≡◌, ℕ, Bool, true, false, cond, List, [], ◌∷◌, Option, Some, None, map, length, refl, sym, ◌∙◌, ap, arith}
use Rattle.std.specs.Prelude.{◌&&◌, filter, nat_lt, if◌then◌else◌}
use Rattle.std.specs.Ordering.{eq_by_cmp}
use Rattle.std.proofs.lemmas.Bool.Decides.{nat_tests}
use Rattle.std.specs.declared.cmp.Ordering.{Ordering}
use Rattle.std.specs.declared.cmp.Ordering.TheVariants.{Less, Equal, Greater}
use Rattle.std.proofs.Math.Bool.{and-false}
use Rattle.value.specs.declared.values.Value.{Value}
use Rattle.value.specs.declared.values.Root.{Root}
use Rattle.value.specs.declared.values.Root.TheVariants.{All, Of}
use Rattle.value.specs.ValueOrder.{value_cmp, root_cmp}
use Rattle.value.specs.Ordered as ordered
use Rattle.value.proofs.OrderedLists.{has, equal_from, AreAbove-below, AreAbove-tied}
use Rattle.value.proofs.ValueOrders.{value_cmp_total, value_exact}
use Rattle.value.specs.declared.truths.Truth.TheVariants.{False}
use Rattle.value.specs.Truths.{is_of}
use Rattle.table.specs.Rows.{RowValues, Layout, value_in, row_at, key_of}
use Rattle.table.specs.Aggregates.{rows_of_group}
use Rattle.assertion.specs.declared.forms.Form.{Form}
use Rattle.assertion.specs.declared.forms.Form.TheVariants.{ByRow, ByGroup, Single}
use Rattle.assertion.specs.Meaning.{State, rows_of, filtered_rows, lists_row, lists_group, single_truth, bad_roots}
use Rattle.assertion.specs.Roots.{is_bad_row, is_bad_root}
use Rattle.assertion.specs.Changes.{IsOrdered}

-- whether a row, if there is one, passes
abbrev pub passes : (RowValues → Bool) → Option RowValues → Bool
passes p None = false
passes p (Some row) = p row

module _ (key : ℕ) (p : RowValues → Bool) where
  abbrev pub listed : List RowValues → List Root
  listed rows = map (λ row. Of (value_in key row)) (filter p rows)

  -- no row has a key below all
  none_above : (v : Value) (rows : List RowValues) → ordered.AreAbove value_cmp (value_in key) v rows → has root_cmp (Of v) (listed rows) ≡ false
  none_above v [] a = refl
  none_above v (row ∷ rows) a = elim (p row) as (λ b. has root_cmp (Of v) (map (λ row. Of (value_in key row)) (cond b (row ∷ filter p rows) (filter p rows))) ≡ false) [
    | true ↦ rw a.0 (none_above v rows a.1)
    | false ↦ none_above v rows a.1
  ]

  -- a key is listed where its row passes
  pub has-row : (v : Value) (rows : List RowValues) → ordered.IsAscending value_cmp (value_in key) rows → has root_cmp (Of v) (listed rows) ≡ passes p (row_at key v rows)
  has-row v [] s = refl
  has-row v (row ∷ rows) s =
      let w : Value = value_in key row in
      let rest : List RowValues = filter p rows in
      let cases : (c : Ordering) → value_cmp v w ≡ c → has root_cmp (Of v) (listed (row ∷ rows)) ≡ passes p (ordered.by_order c None (Some row) (row_at key v rows))
      = λ c. elim c as (λ c. value_cmp v w ≡ c → has root_cmp (Of v) (listed (row ∷ rows)) ≡ passes p (ordered.by_order c None (Some row) (row_at key v rows))) [
        | Less ↦ λ e. none_above v (row ∷ rows) (e, AreAbove-below value_cmp_total (value_in key) v w rows e s.0)
        | Equal ↦ λ e. elim (p row) as (λ b. has root_cmp (Of v) (map (λ row. Of (value_in key row)) (cond b (row ∷ rest) rest)) ≡ b) [
          | true ↦ rw e refl
          | false ↦ none_above v rows (AreAbove-tied value_cmp_total (value_in key) w v rows e s.0)
        ]
        | Greater ↦ λ e. elim (p row) as (λ b. has root_cmp (Of v) (map (λ row. Of (value_in key row)) (cond b (row ∷ rest) rest)) ≡ passes p (row_at key v rows)) [
          | true ↦ rw e (has-row v rows s.1)
          | false ↦ has-row v rows s.1
        ]
      ]
      in cases (value_cmp v w) refl

-- the whole is no key
none_all : (f : RowValues → Value) (rows : List RowValues) → has root_cmp All (map (λ row. Of (f row)) rows) ≡ false
none_all f [] = refl
none_all f (row ∷ rows) = none_all f rows

none_all_of : (vs : List Value) → has root_cmp All (map Of vs) ≡ false
none_all_of [] = refl
none_all_of (v ∷ vs) = none_all_of vs

some_long : (row : RowValues) (rows : List RowValues) → nat_lt 0 (length (row ∷ rows)) ≡ true
some_long row rows = grind (arith, nat_tests)

-- one more row of the groups
member : (p : Value → Bool) (v w : Value) (row : RowValues) (vs : List Value) (members : List RowValues) → has root_cmp (Of v) (map Of vs) ≡ nat_lt 0 (length members) && p v → (b : Bool) → eq_by_cmp value_cmp v w ≡ b → (c : Bool) → p w ≡ c
    → has root_cmp (Of v) (map Of (cond (p w) (w ∷ vs) vs)) ≡ nat_lt 0 (length (cond (eq_by_cmp value_cmp v w) (row ∷ members) members)) && p v
member p v w row vs ms more true e true d = rw (d, e, some_long row ms, ap p (value_exact v w (equal_from (value_cmp v w) e)) ∙ d) refl
member p v w row vs ms more true e false d =
    let f : p v ≡ false = ap p (value_exact v w (equal_from (value_cmp v w) e)) ∙ d in
    rw (d, e, f) ((rw f at more) ∙ and-false (nat_lt 0 (length ms)) ∙ sym (and-false (nat_lt 0 (length (row ∷ ms)))))
member p v w row vs ms more false e true d = rw (d, e) more
member p v w row vs ms more false e false d = rw (d, e) more

-- a group is listed where it has a row and passes
pub has-group : (p : Value → Bool) (group : ℕ) (v : Value) (rows : List RowValues) → has root_cmp (Of v) (map Of (filter p (map (value_in group) rows))) ≡ nat_lt 0 (length (rows_of_group group v rows)) && p v
has-group p group v [] = refl
has-group p group v (row ∷ rows) = member p v (value_in group row) row (filter p (map (value_in group) rows)) (rows_of_group group v rows) (has-group p group v rows) (eq_by_cmp value_cmp v (value_in group row)) refl (p (value_in group row)) refl

-- the list of bad roots has the roots that are bad
pub has-bad : (layouts : List Layout) (form : Form) (state : State) → IsOrdered layouts state → (r : Root) → has root_cmp r (bad_roots layouts form state) ≡ is_bad_root layouts form state r
has-bad layouts (ByRow table c queries) state asc All = none_all (value_in (key_of table layouts)) (filter (lists_row state c queries) (rows_of table state))
has-bad layouts (ByRow table c queries) state asc (Of v) =
    has-row (key_of table layouts) (lists_row state c queries) v (rows_of table state) (asc table)
    ∙ elim (row_at (key_of table layouts) v (rows_of table state)) as (λ o. passes (lists_row state c queries) o ≡ is_bad_row state c queries o) [ None ↦ refl | Some row ↦ refl ]
has-bad layouts (ByGroup table restriction group having aggregates) state asc All = none_all_of (filter (lists_group (filtered_rows restriction (rows_of table state)) group having aggregates) (map (value_in group) (filtered_rows restriction (rows_of table state))))
has-bad layouts (ByGroup table restriction group having aggregates) state asc (Of v) = has-group (lists_group (filtered_rows restriction (rows_of table state)) group having aggregates) group v (filtered_rows restriction (rows_of table state))
has-bad layouts (Single c queries) state asc All = elim (is_of (single_truth state c queries) False) as (λ b. has root_cmp All (if b then All ∷ [] else []) ≡ b) [ true ↦ refl | false ↦ refl ]
has-bad layouts (Single c queries) state asc (Of v) = elim (is_of (single_truth state c queries) False) as (λ b. has root_cmp (Of v) (if b then All ∷ [] else []) ≡ false) [ true ↦ refl | false ↦ refl ]
