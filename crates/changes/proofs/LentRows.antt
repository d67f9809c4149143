-- What is made of each of a list, and set functions of rows that are lent, from the first on.
use Rattle.std.proofs.Common.{◌≡◌, ◌∙◌, ℕ, ◌+◌, ◌<◌, ◌^◌, true, List, [], ◌∷◌, ◌++◌, length, map, take, drop, refl, ap, sym, subst, get_or, append_assoc, arith}
use Rattle.std.specs.Prelude.{All, filter}
use Rattle.std.proofs.lemmas.List.{drop_more, length-map, length-take, get_or-map, map-append, take_more}
use Rattle.std.proofs.lemmas.List.Elements.{All-take}
use Rattle.table.specs.declared.aggregates.Aggregate.{Aggregate}
use Rattle.table.specs.Rows.{RowValues}
use Rattle.table.specs.Bounds.{IsSmallRow}
use Rattle.groups.specs.Answers.{value_for}
use Rattle.groups.specs.Totals.{IsWithin}
use Rattle.groups.proofs.RowLemmas.{filtered_within}

kept_all : (rows : List RowValues) → filter (λ (row : RowValues). true) rows ≡ rows
kept_all [] = refl
kept_all (row ∷ rows) = ap (λ (rest : List RowValues). row ∷ rest) (kept_all rows)

-- rows within bounds have values within bounds
pub within : (a : Aggregate) (rows : List RowValues) → length rows < 2 ^ 63 → All IsSmallRow rows → IsWithin (map (value_for a) rows)
within a rows short small = subst (λ (kept : List RowValues). IsWithin (map (value_for a) kept)) (kept_all rows) (filtered_within (λ row. true) a rows short small)

-- and so have the first of them
pub first_within : (a : Aggregate) (n : ℕ) (rows : List RowValues) → length rows < 2 ^ 63 → All IsSmallRow rows → IsWithin (map (value_for a) (take n rows))
first_within a n rows short small = within a (take n rows) (omega (arith, short, length-take n rows)) (All-take IsSmallRow n rows small)

-- one row more
pub one_more_taken : {X : Type 0} (f : X → RowValues) (xs : List X) (i : ℕ) (x : X) → i < length xs → x ≡ get_or xs i x → take (i + 1) (map f xs) ≡ take i (map f xs) ++ f x ∷ []
one_more_taken f xs i x h is =
    take_more (map f xs) i (f x) (subst (λ n. i < n) (sym (length-map xs f)) h)
    ∙ ap (λ row. take i (map f xs) ++ row ∷ []) (sym (ap f is ∙ sym (get_or-map f xs i x (f x) h)))

-- one value more of what is made of each of a list
pub mapped_more : {X Y R : Type 0} (value : Y → R) (f : X → R) (xs : List X) (i : ℕ) (x : X) (made more : List Y) (y : Y) → i < length xs → x ≡ get_or xs i x → more ≡ made ++ y ∷ [] → value y ≡ f x
    → map value made ++ map f (drop i xs) ≡ map f xs → map value more ++ map f (drop (i + 1) xs) ≡ map f xs
mapped_more value f xs i x made more y h is m e so_far =
    let rest = map f (drop (i + 1) xs) in
    ap (λ ys. map value ys ++ rest) m ∙ ap (λ vs. vs ++ rest) (map-append value made (y ∷ []) ∙ ap (λ v. map value made ++ v ∷ []) e)
    ∙ append_assoc (map value made) (f x ∷ []) rest
    ∙ sym (ap (λ ys. map value made ++ map f ys) (drop_more xs i x h ∙ ap (λ z. z ∷ drop (i + 1) xs) (sym is))) ∙ so_far
