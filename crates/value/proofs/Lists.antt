-- Lists that are gone through one item after the other.
use borrow.Author.Count.{below_more}
use Rattle.std.proofs.Common.{◌≡◌, ℕ, suc, ◌<◌, ◌+◌, List, [], ◌∷◌, ◌++◌, length, get_or, drop, drop-cons, reverse, append_assoc, add-one, sym, ◌∙◌, ap, subst, arith}
use Rattle.std.proofs.lemmas.List.{get_or_append_left, reverse-append}
use Rattle.std.proofs.Math.Seq.{get_or-append_seam}

-- the items from a place on are the one there and those behind it
pub drop_item : {X : Type 0} (xs : List X) (i : ℕ) (x : X) → i < length xs → x ≡ get_or xs i x → drop i xs ≡ x ∷ drop (i + 1) xs
drop_item xs i x h is = rw (add-one, drop-cons xs i x) (ap (λ y. y ∷ drop (suc i) xs) (sym is))

-- of a list taken from its end what is left, and the last item
pub turn_step : {A : Type 0} (turned rest items : List A) (item : A) → items ≡ rest ++ item ∷ [] → (turned ++ item ∷ []) ++ reverse rest ≡ turned ++ reverse items
turn_step turned rest items item e = append_assoc turned (item ∷ []) (reverse rest) ∙ ap (λ t. turned ++ t) (sym (reverse-append rest (item ∷ [])) ∙ ap reverse (sym e))

-- what holds of the first n items of a list and those that were made of them, and of the next, holds of n + 1
pub each_more : {A B : Type 0} (P : A → B → Type 0) (all : List A) (n : ℕ) (made more : List B) (item : B) → more ≡ made ++ item ∷ [] → length made ≡ n
    → ((d : A) → P (get_or all n d) item) → ((i : ℕ) → i < n → (d : A) (x : B) → P (get_or all i d) (get_or made i x))
    → (i : ℕ) → i < n + 1 → (d : A) (x : B) → P (get_or all i d) (get_or more i x)
each_more {A = A} {B = B} P all n made more item e long here before = below_more (λ i. (d : A) (x : B) → P (get_or all i d) (get_or more i x)) n
    (λ i less d x. subst (P (get_or all i d)) (sym (ap (λ items. get_or items i x) e ∙ get_or_append_left made (item ∷ []) x i (omega (arith, less, long)))) (before i less d x))
    (λ d x. subst (P (get_or all n d)) (sym (ap (λ items. get_or items n x) e ∙ subst (λ m. get_or (made ++ item ∷ []) m x ≡ item) long (get_or-append_seam made item [] x))) (here d))
