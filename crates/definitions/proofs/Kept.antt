-- What a filter keeps, by the places of what it is taken from.
use Rattle.std.proofs.Common.{◌≡◌, ℕ, ◌≤◌, zero, suc, Bool, true, false, cond, List, [], ◌∷◌, ◌⊎◌, Some, length, filter, map, refl, sym, ◌∙◌, ap, subst, arith, inl, inr, ⊎_elim}
use Rattle.std.specs.Prelude.{◌&&◌, ◌||◌, slice_get, Contains}
use Rattle.std.specs.Ordering.{eq_by_cmp}
use Rattle.std.proofs.lemmas.Bool.{false≢true, or_cases, or_right}
use Rattle.std.proofs.lemmas.Option.{same_Some, slice_get-get_or, slice_get_within, get_or_from_slice_get}
use Rattle.value.specs.declared.values.Value.{Value}
use Rattle.value.specs.ValueOrder.{value_cmp}
use Rattle.value.proofs.OrderedLists.{has}
use Rattle.table.proofs.DistinctLemmas.{same_value, itself}

-- an item at its place, which passes a test
pub record Found {X : Type 0} (p : X → Bool) (xs : List X) : Type 0 where
  pub at : ℕ
  pub item : X
  pub is : slice_get xs at ≡ Some item
  pub passes : p item ≡ true

pub place_of : {X : Type 0} (xs : List X) (x : X) → Contains xs x → (k : ℕ) × (slice_get xs k ≡ Some x)
place_of xs x c = (c.0, slice_get-get_or xs c.0 x c.1 ∙ ap (λ y. Some y) c.2)

pub at_place : {X : Type 0} (xs : List X) (k : ℕ) (x : X) → slice_get xs k ≡ Some x → Contains xs x
at_place xs k x e = (k, slice_get_within xs k x e, get_or_from_slice_get xs k x x e)

-- nothing passes, and nothing is kept
pub none_kept : {X : Type 0} (p : X → Bool) (xs : List X) → ((j : ℕ) (x : X) → slice_get xs j ≡ Some x → p x ≡ false) → filter p xs ≡ []
none_kept p [] h = refl
none_kept p (x ∷ xs) h = ap (λ b. cond b (x ∷ filter p xs) (filter p xs)) (h 0 x refl) ∙ none_kept p xs (λ j y e. h (suc j) y e)

left_out : {X : Type 0} (p : X → Bool) (y : X) (ys : List X) (x : X) (b : Bool) → p y ≡ b → cond b (y ∷ filter p ys) (filter p ys) ≡ [] → ((j : ℕ) → filter p ys ≡ [] → slice_get ys j ≡ Some x → p x ≡ false)
    → (j : ℕ) → slice_get (y ∷ ys) j ≡ Some x → p x ≡ false
left_out p y ys x true is e more j at = cc
left_out p y ys x false is e more zero at = ap p (sym (same_Some y x at)) ∙ is
left_out p y ys x false is e more (suc j) at = more j e at

pub kept_none : {X : Type 0} (p : X → Bool) (xs : List X) (x : X) → filter p xs ≡ [] → (j : ℕ) → slice_get xs j ≡ Some x → p x ≡ false
kept_none p [] x e j at = cc
kept_none p (y ∷ ys) x e j at = left_out p y ys x (p y) refl e (λ k n f. kept_none p ys x n k f) j at

found_more : {X : Type 0} (p : X → Bool) (x : X) (xs : List X) (b : Bool) → p x ≡ b → (filter p xs ≡ []) ⊎ Found p xs → (cond b (x ∷ filter p xs) (filter p xs) ≡ []) ⊎ Found p (x ∷ xs)
found_more p x xs true is rest = inr (record { at = 0; item = x; is = refl; passes = is })
found_more p x xs false is rest = ⊎_elim (λ e. inl e) (λ f. inr (record { at = suc f.at; item = f.item; is = f.is; passes = f.passes })) rest

-- nothing is kept, or something passes
pub kept_or_none : {X : Type 0} (p : X → Bool) (xs : List X) → (filter p xs ≡ []) ⊎ Found p xs
kept_or_none p [] = inl refl
kept_or_none p (x ∷ xs) = found_more p x xs (p x) refl (kept_or_none p xs)

-- ---- at most one

none_more : {X : Type 0} (x : X) (xs : List X) → length (x ∷ xs) ≤ 1 → xs ≡ []
none_more x [] h = refl
none_more x (y ∷ ys) h = absurd (omega arith)

first_alone : {X : Type 0} (p : X → Bool) (z : X) (zs : List X) → p z ≡ true → length (filter p (z ∷ zs)) ≤ 1 → filter p zs ≡ []
first_alone p z zs is h = none_more z (filter p zs) (subst (λ b. length (cond b (z ∷ filter p zs) (filter p zs)) ≤ 1) is h)

shorter : {X : Type 0} (p : X → Bool) (z : X) (zs : List X) (b : Bool) → length (cond b (z ∷ filter p zs) (filter p zs)) ≤ 1 → length (filter p zs) ≤ 1
shorter p z zs true h = omega arith
shorter p z zs false h = h

-- where at most one is kept, two that pass stand at one place
pub one_place : {X : Type 0} (p : X → Bool) (xs : List X) → length (filter p xs) ≤ 1 → (i j : ℕ) (x y : X) → slice_get xs i ≡ Some x → slice_get xs j ≡ Some y → p x ≡ true → p y ≡ true → i ≡ j
one_place p [] h i j x y a b s t = cc
one_place p (z ∷ zs) h zero zero x y a b s t = refl
one_place p (z ∷ zs) h zero (suc j) x y a b s t = absurd (false≢true (sym (kept_none p zs y (first_alone p z zs (ap p (same_Some z x a) ∙ s) h) j b) ∙ t))
one_place p (z ∷ zs) h (suc i) zero x y a b s t = absurd (false≢true (sym (kept_none p zs x (first_alone p z zs (ap p (same_Some z y b) ∙ t) h) i a) ∙ s))
one_place p (z ∷ zs) h (suc i) (suc j) x y a b s t = ap (λ n. suc n) (one_place p zs (shorter p z zs (p z) h) i j x y a b s t)

-- two that pass stand at one place
abbrev pub AtOnePlace : {X : Type 0} → (X → Bool) → List X → Type 0
AtOnePlace {X} p xs = (i j : ℕ) (x y : X) → slice_get xs i ≡ Some x → slice_get xs j ≡ Some y → p x ≡ true → p y ≡ true → i ≡ j

not_here : {X : Type 0} (p : X → Bool) (y : X) (b : Bool) → p y ≡ b → (p y ≡ true → ⊥) → p y ≡ false
not_here p y true is never = absurd (never is)
not_here p y false is never = is

one_first : {X : Type 0} (p : X → Bool) (z : X) (zs : List X) (b : Bool) → p z ≡ b → AtOnePlace p (z ∷ zs) → length (filter p zs) ≤ 1 → length (cond b (z ∷ filter p zs) (filter p zs)) ≤ 1
one_first p z zs true is h rest =
    let none = none_kept p zs (λ j y at. not_here p y (p y) refl (λ t. let e = h 0 (suc j) z y refl at is t in absurd (omega arith))) in
    subst (λ ys. length (z ∷ ys) ≤ 1) (sym none) (omega arith)
one_first p z zs false is h rest = rest

pub at_most_one : {X : Type 0} (p : X → Bool) (xs : List X) → AtOnePlace p xs → length (filter p xs) ≤ 1
at_most_one p [] h = omega arith
at_most_one p (z ∷ zs) h = one_first p z zs (p z) refl h (at_most_one p zs (λ i j x y a b s t. let e = h (suc i) (suc j) x y a b s t in omega arith))

-- ---- two filters, and maps

twice_more : {X : Type 0} (p q : X → Bool) (x : X) (xs : List X) (b : Bool) → filter q (filter p xs) ≡ filter (λ y. p y && q y) xs
    → filter q (cond b (x ∷ filter p xs) (filter p xs)) ≡ cond (b && q x) (x ∷ filter (λ y. p y && q y) xs) (filter (λ y. p y && q y) xs)
twice_more p q x xs true rest = ap (λ ys. cond (q x) (x ∷ ys) ys) rest
twice_more p q x xs false rest = rest

pub filter_twice : {X : Type 0} (p q : X → Bool) (xs : List X) → filter q (filter p xs) ≡ filter (λ y. p y && q y) xs
filter_twice p q [] = refl
filter_twice p q (x ∷ xs) = twice_more p q x xs (p x) (filter_twice p q xs)

pub no_more : {X Y : Type 0} (f : X → Y) (xs : List X) → map f xs ≡ [] → xs ≡ []
no_more f [] e = refl
no_more f (x ∷ xs) e = cc

-- ---- groups, by the values that they are of

pub no_group : {G : Type 0} (g : Value → G) (h : G → Bool) (vs : List Value) → ((v : Value) → h (g v) ≡ false) → filter h (map g vs) ≡ []
no_group g h [] none = refl
no_group g h (v ∷ vs) none = ap (λ b. cond b (g v ∷ filter h (map g vs)) (filter h (map g vs))) (none v) ∙ no_group g h vs none

group_out : {G : Type 0} (g : Value → G) (h : G → Bool) (w : Value) (ws : List Value) (v : Value) (b : Bool) → h (g w) ≡ b → cond b (g w ∷ filter h (map g ws)) (filter h (map g ws)) ≡ []
    → (filter h (map g ws) ≡ [] → has value_cmp v ws ≡ true → h (g v) ≡ false) → (v ≡ w) ⊎ (has value_cmp v ws ≡ true) → h (g v) ≡ false
group_out g h w ws v true is e more m = cc
group_out g h w ws v false is e more m = ⊎_elim (λ same. ap (λ u. h (g u)) same ∙ is) (λ t. more e t) m

-- where no group passes, that of no value among those that they are of does
pub each_group : {G : Type 0} (g : Value → G) (h : G → Bool) (vs : List Value) (v : Value) → filter h (map g vs) ≡ [] → has value_cmp v vs ≡ true → h (g v) ≡ false
each_group g h [] v e m = cc
each_group g h (w ∷ ws) v e m =
    group_out g h w ws v (h (g w)) refl e (λ n t. each_group g h ws v n t)
    (⊎_elim (λ s. inl (same_value v w s)) (λ t. inr t) (or_cases (eq_by_cmp value_cmp v w) (has value_cmp v ws) m))

kept_more : {X : Type 0} (f : X → Value) (p : X → Bool) (y : X) (ys : List X) (v : Value) (b : Bool) → has value_cmp v (map f (filter p ys)) ≡ true → has value_cmp v (map f (cond b (y ∷ filter p ys) (filter p ys))) ≡ true
kept_more f p y ys v true h = or_right (eq_by_cmp value_cmp v (f y)) (has value_cmp v (map f (filter p ys))) h
kept_more f p y ys v false h = h

-- the value of an item that is kept is among the values of those that are
pub has_kept : {X : Type 0} (f : X → Value) (p : X → Bool) (xs : List X) (i : ℕ) (x : X) → slice_get xs i ≡ Some x → p x ≡ true → has value_cmp (f x) (map f (filter p xs)) ≡ true
has_kept f p [] i x e h = cc
has_kept f p (y ∷ ys) zero x e h =
    ap (λ b. has value_cmp (f x) (map f (cond b (y ∷ filter p ys) (filter p ys)))) (ap p (same_Some y x e) ∙ h)
    ∙ ap (λ z. eq_by_cmp value_cmp (f x) (f z) || has value_cmp (f x) (map f (filter p ys))) (same_Some y x e) ∙ ap (λ b. b || has value_cmp (f x) (map f (filter p ys))) (itself (f x))
has_kept f p (y ∷ ys) (suc i) x e h = kept_more f p y ys (f x) (p y) (has_kept f p ys i x e h)
