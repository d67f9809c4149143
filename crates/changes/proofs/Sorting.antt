-- A stable sort gives the items in order.
use Rattle.std.proofs.Common.{◌≡◌, ◌∙◌, suc, Bool, true, false, cond, List, [], ◌∷◌, refl, ap, sym, get_or, arith, add-one}
use Rattle.std.specs.Prelude.{not, ◌&&◌, filter}
use Rattle.std.specs.Ordering.{is_lt}
use Rattle.std.specs.declared.cmp.Ordering.{Ordering}
use Rattle.std.specs.Cmp.{IsStrictWeakOrder}
use Rattle.std.specs.List.Sorted.{IsSorted, IsStable, ties}
use Rattle.alone.specs.Groups.{in_order, put_in_order}

both_not : (a b : Bool) → (not a && not b) ≡ true → (a ≡ false) × (b ≡ false)
both_not false false e = (refl, refl)
both_not false true e = cc
both_not true b e = cc

abbrev first : {X : Type 0} → X → List X → X
first d [] = d
first d (x ∷ xs) = x

abbrev others : {X : Type 0} → List X → List X
others [] = []
others (x ∷ xs) = xs

module _ {X : Type 0} (R : X → X → Ordering) (o : IsStrictWeakOrder (λ x y. is_lt (R x y))) where
  abbrev before : X → X → Bool
  before x y = is_lt (R x y)

  -- none of some items comes before x
  abbrev NoneBefore : X → List X → Type 0
  NoneBefore x [] = Unit {0}
  NoneBefore x (y ∷ ys) = (before y x ≡ false) × NoneBefore x ys

  -- none comes before one that stands before it
  abbrev Rises : List X → Type 0
  Rises [] = Unit {0}
  Rises (x ∷ xs) = NoneBefore x xs × Rises xs

  none_before_first : (x y : X) → before y x ≡ false → (ys : List X) → NoneBefore y ys → NoneBefore x ys
  none_before_first x y h [] n = tt
  none_before_first x y h (z ∷ zs) n = (o.chain z y x n.0 h, none_before_first x y h zs n.1)

  sorted_rises : (xs : List X) → IsSorted R xs → Rises xs
  sorted_rises [] s = tt
  sorted_rises (x ∷ []) s = (tt, tt)
  sorted_rises (x ∷ y ∷ ys) s =
      let tail : Rises (y ∷ ys) = sorted_rises (y ∷ ys) (λ k d low high. ap (λ n. before (get_or (x ∷ y ∷ ys) n d) (get_or (y ∷ ys) k d)) (ap suc (add-one k) ∙ sym (add-one (suc k))) ∙ s (suc k) d (omega (arith)) (omega (arith, high))) in
      let next : before y x ≡ false = s 0 x (omega (arith)) (omega (arith)) in
      ((next, none_before_first x y next ys tail.0), tail)

  none_put : (y x : X) (ys : List X) → before x y ≡ false → NoneBefore y ys → NoneBefore y (put_in_order R x ys)
  none_put y x [] h n = (h, tt)
  none_put y x (z ∷ zs) h n = by (before z x) (none_put y x zs h n.1)
    where
      by : (b : Bool) → NoneBefore y (put_in_order R x zs) → NoneBefore y (cond b (z ∷ put_in_order R x zs) (x ∷ z ∷ zs))
      by true behind = (n.0, behind)
      by false behind = (h, n)

  rises_put : (x : X) (ys : List X) → Rises ys → Rises (put_in_order R x ys)
  rises_put x [] r = (tt, tt)
  rises_put x (y ∷ ys) r = by (before y x) refl (rises_put x ys r.1)
    where
      by : (b : Bool) → before y x ≡ b → Rises (put_in_order R x ys) → Rises (cond b (y ∷ put_in_order R x ys) (x ∷ y ∷ ys))
      by true e behind = (none_put y x ys (o.one_way y x e) r.0, behind)
      by false e behind = ((e, none_before_first x y e ys r.0), r)

  rises_in_order : (xs : List X) → Rises (in_order R xs)
  rises_in_order [] = tt
  rises_in_order (x ∷ xs) = rises_put x (in_order R xs) (rises_in_order xs)

  -- the items that are alike to one
  abbrev alike : X → List X → List X
  alike z xs = filter (ties before z) xs

  apart : (z x : X) → ties before z x ≡ true → (before z x ≡ false) × (before x z ≡ false)
  apart z x e = both_not (before z x) (before x z) e

  itself : (x : X) → before x x ≡ false
  itself x = by (before x x) refl
    where
      by : (b : Bool) → before x x ≡ b → b ≡ false
      by true e = sym e ∙ o.one_way x x e
      by false e = refl

  tied_itself : (x : X) → ties before x x ≡ true
  tied_itself x = ap (λ b. not b && not b) (itself x)

  put_alike : (z x : X) (ys : List X) → alike z (put_in_order R x ys) ≡ alike z (x ∷ ys)
  put_alike z x [] = refl
  put_alike z x (y ∷ ys) = by (before y x) refl (put_alike z x ys)
    where
      swapped : before y x ≡ true → (p q : Bool) → ties before z x ≡ p → ties before z y ≡ q
          → cond q (y ∷ cond p (x ∷ alike z ys) (alike z ys)) (cond p (x ∷ alike z ys) (alike z ys)) ≡ cond p (x ∷ cond q (y ∷ alike z ys) (alike z ys)) (cond q (y ∷ alike z ys) (alike z ys))
      swapped e true true a b =
          let no : true ≡ false = sym e ∙ o.chain y z x (apart z y b).1 (apart z x a).0 in
          cc
      swapped e true false a b = refl
      swapped e false q a b = refl

      by : (b : Bool) → before y x ≡ b → alike z (put_in_order R x ys) ≡ alike z (x ∷ ys) → alike z (cond b (y ∷ put_in_order R x ys) (x ∷ y ∷ ys)) ≡ alike z (x ∷ y ∷ ys)
      by false e behind = refl
      by true e behind = ap (λ l. cond (ties before z y) (y ∷ l) l) behind ∙ swapped e (ties before z x) (ties before z y) refl refl

  alike_in_order : (z : X) (xs : List X) → alike z (in_order R xs) ≡ alike z xs
  alike_in_order z [] = refl
  alike_in_order z (x ∷ xs) = put_alike z x (in_order R xs) ∙ ap (λ l. cond (ties before z x) (x ∷ l) l) (alike_in_order z xs)

  no_alike : (b a : X) (ys : List X) → before b a ≡ true → NoneBefore a ys → alike b ys ≡ []
  no_alike b a [] h n = refl
  no_alike b a (y ∷ ys) h n = by (ties before b y) refl (no_alike b a ys h n.1)
    where
      by : (t : Bool) → ties before b y ≡ t → alike b ys ≡ [] → cond t (y ∷ alike b ys) (alike b ys) ≡ []
      by true e none =
          let no : true ≡ false = sym h ∙ o.chain b y a (apart b y e).0 n.0 in
          cc
      by false e none = none

  -- the first of one list does not come after the first of the other
  not_later : (a b : X) (ys zs : List X) → NoneBefore a ys → alike b (a ∷ ys) ≡ alike b (b ∷ zs) → before b a ≡ false
  not_later a b ys zs n e = by (before b a) refl
    where
      by : (t : Bool) → before b a ≡ t → t ≡ false
      by true h =
          let none : alike b (a ∷ ys) ≡ [] = ap (λ t. cond (not t && not (before a b)) (a ∷ alike b ys) (alike b ys)) h ∙ no_alike b a ys h n in
          let one : alike b (b ∷ zs) ≡ b ∷ alike b zs = ap (λ t. cond t (b ∷ alike b zs) (alike b zs)) (tied_itself b) in
          let no : [] ≡ b ∷ alike b zs = sym none ∙ e ∙ one in
          cc
      by false h = refl

  -- two lists that rise are one where the items alike to each are the same
  same : (ys zs : List X) → Rises ys → Rises zs → ((z : X) → alike z ys ≡ alike z zs) → ys ≡ zs
  same [] [] r s e = refl
  same [] (b ∷ zs) r s e =
      let no : [] ≡ b ∷ alike b zs = e b ∙ ap (λ t. cond t (b ∷ alike b zs) (alike b zs)) (tied_itself b) in
      cc
  same (a ∷ ys) [] r s e =
      let no : [] ≡ a ∷ alike a ys = sym (e a) ∙ ap (λ t. cond t (a ∷ alike a ys) (alike a ys)) (tied_itself a) in
      cc
  same (a ∷ ys) (b ∷ zs) r s e =
      let ba : before b a ≡ false = not_later a b ys zs r.0 (e b) in
      let ab : before a b ≡ false = not_later b a zs ys s.0 (sym (e a)) in
      let tied : ties before a b ≡ true = ap (λ t. not t && not (before b a)) ab ∙ ap (λ t. not t) ba in
      let one : a ∷ alike a ys ≡ b ∷ alike a zs = ap (λ t. cond t (a ∷ alike a ys) (alike a ys)) (sym (tied_itself a)) ∙ e a ∙ ap (λ t. cond t (b ∷ alike a zs) (alike a zs)) tied in
      let is : a ≡ b = ap (first a) one in
      ap (λ l. a ∷ l) (same ys zs r.1 s.1 (λ z. rest z is (ties before z a) refl (e z))) ∙ ap (λ x. x ∷ zs) is
    where
      rest : (z : X) → a ≡ b → (t : Bool) → ties before z a ≡ t → alike z (a ∷ ys) ≡ alike z (b ∷ zs) → alike z ys ≡ alike z zs
      rest z is true h e =
          ap others (ap (λ t. cond t (a ∷ alike z ys) (alike z ys)) (sym h) ∙ e ∙ ap (λ t. cond t (b ∷ alike z zs) (alike z zs)) (ap (ties before z) (sym is) ∙ h))
      rest z is false h e =
          ap (λ t. cond t (a ∷ alike z ys) (alike z ys)) (sym h) ∙ e ∙ ap (λ t. cond t (b ∷ alike z zs) (alike z zs)) (ap (ties before z) (sym is) ∙ h)

  -- what a stable sort makes of a list
  pub sorted_is_in_order : (xs ys : List X) → IsSorted R ys → IsStable R xs ys → ys ≡ in_order R xs
  sorted_is_in_order xs ys s t = same ys (in_order R xs) (sorted_rises ys s) (rises_in_order xs) (λ z. t z ∙ sym (alike_in_order z xs))
