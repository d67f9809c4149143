-- What stands at a key, and a change, are the same with the keys kept beside the rows.
use Rattle.std.proofs.Common.{◌≡◌, ℕ, zero, suc, ◌+◌, ◌<◌, List, [], ◌∷◌, ◌++◌, take, drop, length, map, Option, Some, None, refl, sym, ◌∙◌, ap, arith, option_map, subst, slice_index_or}
use Rattle.std.proofs.lemmas.List.{drop_more, take_more}
use Rattle.std.specs.Prelude.{option_to_list}
use Rattle.std.specs.declared.cmp.Ordering.{Ordering}
use Rattle.std.specs.declared.cmp.Ordering.TheVariants.{Less, Equal, Greater}
use Rattle.value.specs.declared.values.Value.{Value}
use Rattle.value.specs.ValueOrder.{value_cmp}
use Rattle.value.specs.Ordered.{by_order, at, put, HasKey, IsAscending}
use Rattle.pages.specs.Reach.{key_of, value_of, entry_of}
use Rattle.table.specs.Rows.{RowValues, value_in, row_at, put_row}
use Rattle.mvrows.specs.Keyed.{rows_of, AreKeyed}
use Rattle.mvrows.proofs.LastRows.{put-last, ascending-take}
use Rattle.mvrows.proofs.Walked.{first_or}

-- the values of entries are their rows
pub rows_of-values : (entries : List (Value × RowValues)) → map value_of entries ≡ rows_of entries
rows_of-values [] = refl
rows_of-values (entry ∷ entries) = ap (λ rows. entry.1 ∷ rows) (rows_of-values entries)

pub length-rows_of : (es : List (Value × RowValues)) → length (rows_of es) ≡ length es
length-rows_of [] = refl
length-rows_of (e ∷ es) = ap suc (length-rows_of es)

pub at-rows : (column : ℕ) (k : Value) (es : List (Value × RowValues)) → AreKeyed column es → option_map value_of (at value_cmp key_of k es) ≡ row_at column k (rows_of es)
at-rows column k [] a = refl
at-rows column k (e ∷ es) a =
    let none : Option RowValues = None in
    let case : (c : Ordering) → option_map value_of (by_order c None (Some e) (at value_cmp key_of k es)) ≡ by_order c none (Some e.1) (row_at column k (rows_of es)) = λ c. elim c as (λ c. option_map value_of (by_order c None (Some e) (at value_cmp key_of k es)) ≡ by_order c none (Some e.1) (row_at column k (rows_of es))) [
      | Less ↦ refl
      | Equal ↦ refl
      | Greater ↦ at-rows column k es a.1
    ]
    in case (value_cmp k e.0) ∙ ap (λ (v : Value). by_order (value_cmp k v) none (Some e.1) (row_at column k (rows_of es))) a.0

rows_of-option : (k : Value) (new : Option RowValues) → rows_of (option_to_list (entry_of k new)) ≡ option_to_list new
rows_of-option k None = refl
rows_of-option k (Some row) = refl

rows_of-front : (k : Value) (new : Option RowValues) (es : List (Value × RowValues)) → rows_of (option_to_list (entry_of k new) ++ es) ≡ option_to_list new ++ rows_of es
rows_of-front k None es = refl
rows_of-front k (Some row) es = refl

pub put-rows : (column : ℕ) (k : Value) (new : Option RowValues) (es : List (Value × RowValues)) → AreKeyed column es → rows_of (put value_cmp key_of k (entry_of k new) es) ≡ put_row column k new (rows_of es)
put-rows column k new [] a = rows_of-option k new
put-rows column k new (e ∷ es) a =
    let case : (c : Ordering) → rows_of (by_order c (option_to_list (entry_of k new) ++ e ∷ es) (option_to_list (entry_of k new) ++ es) (e ∷ put value_cmp key_of k (entry_of k new) es)) ≡ by_order c (option_to_list new ++ e.1 ∷ rows_of es) (option_to_list new ++ rows_of es) (e.1 ∷ put_row column k new (rows_of es)) = λ c. elim c as (λ c. rows_of (by_order c (option_to_list (entry_of k new) ++ e ∷ es) (option_to_list (entry_of k new) ++ es) (e ∷ put value_cmp key_of k (entry_of k new) es)) ≡ by_order c (option_to_list new ++ e.1 ∷ rows_of es) (option_to_list new ++ rows_of es) (e.1 ∷ put_row column k new (rows_of es))) [
      | Less ↦ rows_of-front k new (e ∷ es)
      | Equal ↦ rows_of-front k new es
      | Greater ↦ ap (λ rs. e.1 ∷ rs) (put-rows column k new es a.1)
    ]
    in case (value_cmp k e.0) ∙ ap (λ (v : Value). by_order (value_cmp k v) (option_to_list new ++ e.1 ∷ rows_of es) (option_to_list new ++ rows_of es) (e.1 ∷ put_row column k new (rows_of es))) a.0

keyed-front : (column : ℕ) (k : Value) (new : Option RowValues) (es : List (Value × RowValues)) → HasKey value_cmp (value_in column) k new → AreKeyed column es → AreKeyed column (option_to_list (entry_of k new) ++ es)
keyed-front column k None es h a = a
keyed-front column k (Some row) es h a = (sym h, a)

pub keyed-put : (column : ℕ) (k : Value) (new : Option RowValues) (es : List (Value × RowValues)) → HasKey value_cmp (value_in column) k new → AreKeyed column es → AreKeyed column (put value_cmp key_of k (entry_of k new) es)
keyed-put column k None [] h a = tt
keyed-put column k (Some row) [] h a = (sym h, tt)
keyed-put column k new (e ∷ es) h a = elim (value_cmp k e.0) as (λ c. AreKeyed column (by_order c (option_to_list (entry_of k new) ++ e ∷ es) (option_to_list (entry_of k new) ++ es) (e ∷ put value_cmp key_of k (entry_of k new) es))) [
  | Less ↦ keyed-front column k new (e ∷ es) h a
  | Equal ↦ keyed-front column k new es h a.1
  | Greater ↦ (a.0, keyed-put column k new es h a.1)
]

pub rows_of-drop : (n : ℕ) (es : List (Value × RowValues)) → rows_of (drop n es) ≡ drop n (rows_of es)
rows_of-drop zero [] = refl
rows_of-drop (suc n) [] = refl
rows_of-drop zero (e ∷ es) = refl
rows_of-drop (suc n) (e ∷ es) = rows_of-drop n es

-- the first entry of what stands from a place on
pub first_row : (es : List (Value × RowValues)) (at : ℕ) (page : List (Value × RowValues)) (x : Value × RowValues) → at < length es → 0 < length page
    → page ≡ take (length page) (drop at es) → x ≡ slice_index_or page 0 x → drop at (rows_of es) ≡ x.1 ∷ drop (at + 1) (rows_of es)
first_row es at [] x h n e i = absurd (omega (arith, n))
first_row es at (y ∷ page) x h n e i =
    let head : y ≡ slice_index_or es at x = ap (first_or x) (e ∙ ap (take (length (y ∷ page))) (drop_more es at x h)) in
    let same : x ≡ slice_index_or es at x = i ∙ head in
    sym (rows_of-drop at es) ∙ ap rows_of (drop_more es at x h) ∙ ap (λ (p : Value × RowValues). p.1 ∷ rows_of (drop (at + 1) es)) (sym same) ∙ ap (λ rs. x.1 ∷ rs) (rows_of-drop (at + 1) es)

-- one row more, behind those that stand under their keys so far
pub rows_more : (column : ℕ) (k : Value) (made : List (Value × RowValues)) (row : RowValues) (at : ℕ) (rows : List RowValues) → k ≡ value_in column row → AreKeyed column made → rows_of made ≡ take at rows
    → at < length rows → drop at rows ≡ row ∷ drop (at + 1) rows → IsAscending value_cmp (value_in column) rows → rows_of (put value_cmp key_of k (entry_of k (Some row)) made) ≡ take (at + 1) rows
rows_more column k made row at rows key keyed so_far h rest s =
    let here : slice_index_or rows at row ≡ row = ap (first_or row) (sym (drop_more rows at row h) ∙ rest) in
    let more : take at rows ++ row ∷ [] ≡ take (at + 1) rows = sym (take_more rows at row h ∙ ap (λ (r : RowValues). take at rows ++ r ∷ []) here) in
    put-rows column k (Some row) made keyed ∙ ap (λ (v : Value). put_row column v (Some row) (rows_of made)) key ∙ ap (put_row column (value_in column row) (Some row)) so_far
    ∙ put-last (value_in column) (take at rows) row (subst (IsAscending value_cmp (value_in column)) (sym more) (ascending-take (value_in column) (at + 1) rows s)) ∙ more

pub keyed_more : (column : ℕ) (k : Value) (row : RowValues) (made : List (Value × RowValues)) → k ≡ value_in column row → AreKeyed column made → AreKeyed column (put value_cmp key_of k (entry_of k (Some row)) made)
keyed_more column k row made key keyed = keyed-put column k (Some row) made (sym key) keyed
