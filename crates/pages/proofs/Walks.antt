-- From one page to the next.
use Rattle.std.proofs.lemmas.List.{length-drop, take-append-drop}
use Rattle.std.proofs.Common.{◌≡◌, ℕ, zero, suc, ◌+◌, ◌-◌, ◌≤◌, List, [], ◌∷◌, ◌++◌, take, drop, length, refl, sym, ◌∙◌, ap, arith}
use Rattle.pages.proofs.Orders.{take_all}

pub none_in : {X : Type 0} (xs : List X) → length xs ≡ 0 → xs ≡ []
none_in [] h = refl
none_in (x ∷ xs) h = absurd (omega (arith, h))

drop_drop_suc : {X : Type 0} (n m : ℕ) (xs : List X) → drop n (drop m xs) ≡ drop (m + n) xs
drop_drop_suc n zero xs = let e : n ≡ 0 + n = omega arith in ap (λ (i : ℕ). drop i xs) e
drop_drop_suc zero (suc m) [] = let e : suc m ≡ suc m + 0 = omega arith in ap (λ (i : ℕ). drop i []) e
drop_drop_suc (suc n) (suc m) [] = let e : suc (m + suc n) ≡ suc m + suc n = omega arith in ap (λ (i : ℕ). drop i []) e
drop_drop_suc n (suc m) (x ∷ xs) = let e : suc (m + n) ≡ suc m + n = omega arith in drop_drop_suc n m xs ∙ ap (λ (i : ℕ). drop i (x ∷ xs)) e

-- the page at a place, and what stands behind it
pub page_within : {X : Type 0} (page es : List X) (place : ℕ) → page ≡ take (length page) (drop place es) → place ≤ length es → place + length page ≤ length es
page_within page es place e h =
    let long : length page ≤ length (drop place es) = at_most (length page) (drop place es) (ap length e) in
    omega (arith, h, long, length-drop place es)
  where
    at_most : {X : Type 0} (n : ℕ) (xs : List X) → n ≡ length (take n xs) → n ≤ length xs
    at_most zero xs e = omega arith
    at_most (suc n) [] e = e_absurd n e
      where
        e_absurd : (n : ℕ) → suc n ≡ 0 → suc n ≤ 0
        e_absurd n e = absurd (omega (arith, e))
    at_most (suc n) (x ∷ xs) e = omega (arith, at_most n xs (omega (arith, e)))

pub page_left : {X : Type 0} (old page es : List X) (place : ℕ) → length old ≡ 0 → page ≡ take (length page) (drop place es)
    → page ++ drop (place + length page) es ≡ old ++ drop place es
page_left old page es place n e =
    ap (λ xs. xs ++ drop (place + length page) es) e ∙ ap (λ xs. take (length page) (drop place es) ++ xs) (sym (drop_drop_suc (length page) place es)) ∙ take-append-drop (length page) (drop place es)
    ∙ ap (λ xs. xs ++ drop place es) (sym (none_in old n))

-- what is left of a page
pub rest_of_page : {X : Type 0} (at : ℕ) (page : List X) → take (length page - at) (drop at page) ≡ take (length (take (length page - at) (drop at page))) (drop at page)
rest_of_page at page =
    let all : take (length page - at) (drop at page) ≡ drop at page = take_all (length page - at) (drop at page) (sym (length-drop at page)) in
    all ∙ sym (take_all (length (take (length page - at) (drop at page))) (drop at page) (ap length all))
