-- Lists turned round.
use Rattle.std.proofs.Common.{◌≡◌, List, [], ◌∷◌, ◌++◌, refl, sym, ap, ◌∙◌, subst}
use Rattle.std.specs.Prelude.{Contains}
use mathlib.Core.List.{reverse, reverse-cons}
use Rattle.std.proofs.lemmas.List.{reverse-append}
use Rattle.alone.proofs.Lists.{Each, Pairs, each_left, each_right, each_append, each_at, each_from, pairs_before}

pub each_turned : {X : Type 0} (P : X → Type 0) (xs : List X) → Each P (reverse xs) → Each P xs
each_turned P [] e = tt
each_turned P (x ∷ xs) e =
    let parts : Each P (reverse xs ++ x ∷ []) = subst (Each P) (reverse-cons x xs) e in
    ((each_right P (reverse xs) (x ∷ []) parts).0, each_turned P xs (each_left P (reverse xs) (x ∷ []) parts))

pub turned_each : {X : Type 0} (P : X → Type 0) (xs : List X) → Each P xs → Each P (reverse xs)
turned_each P [] e = tt
turned_each P (x ∷ xs) e = subst (Each P) (sym (reverse-cons x xs)) (each_append P (reverse xs) (x ∷ []) (turned_each P xs e.1) (e.0, tt))

pub turned_twice : {X : Type 0} (xs : List X) → reverse (reverse xs) ≡ xs
turned_twice [] = refl
turned_twice (x ∷ xs) =
    ap reverse (reverse-cons x xs) ∙ reverse-append (reverse xs) (x ∷ []) ∙ ap (λ o. x ∷ o) (turned_twice xs)

pub in_turned : {X : Type 0} (xs : List X) (y : X) → Contains xs y → Contains (reverse xs) y
in_turned xs = each_at (Contains (reverse xs)) xs (each_turned (Contains (reverse xs)) xs (each_from (Contains (reverse xs)) (reverse xs) (λ y m. m)))

pub from_turned : {X : Type 0} (xs : List X) (y : X) → Contains (reverse xs) y → Contains xs y
from_turned xs = each_at (Contains xs) (reverse xs) (turned_each (Contains xs) xs (each_from (Contains xs) xs (λ y m. m)))

pub pairs_left : {X : Type 0} (R : X → X → Type 0) (xs ys : List X) → Pairs R (xs ++ ys) → Pairs R xs
pairs_left R [] ys p = tt
pairs_left R (x ∷ xs) ys p = (each_left (R x) xs ys p.0, pairs_left R xs ys p.1)

pub pairs_right : {X : Type 0} (R : X → X → Type 0) (xs ys : List X) → Pairs R (xs ++ ys) → Pairs R ys
pairs_right R [] ys p = p
pairs_right R (x ∷ xs) ys p = pairs_right R xs ys p.1

pub pairs_turned : {X : Type 0} (R : X → X → Type 0) (xs : List X) → Pairs R (reverse xs) → Pairs (λ a b. R b a) xs
pairs_turned R [] p = tt
pairs_turned R (x ∷ xs) p =
    let parts : Pairs R (reverse xs ++ x ∷ []) = subst (Pairs R) (reverse-cons x xs) p in
    (each_turned (λ w. R w x) xs (pairs_before R (reverse xs) x [] parts), pairs_turned R xs (pairs_left R (reverse xs) (x ∷ []) parts))
