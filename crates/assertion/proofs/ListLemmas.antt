-- What a filter keeps through a change at a key, and membership in lists.
use Rattle.std.proofs.Common.{◌≡◌, ◌<◌, ℕ, zero, suc, Bool, true, false, cond, List, [], ◌∷◌, ◌++◌, Option, Some, None, refl, sym, ◌∙◌, ap, subst, ⊎_elim, arith}
use Rattle.std.specs.Prelude.{option_to_list, ◌||◌, ◌&&◌, filter, length, slice_index_or, Contains}
use Rattle.std.proofs.lemmas.List.Elements.{filter-append}
use Rattle.std.proofs.lemmas.Cmp.{tied_itself}
use Rattle.std.proofs.lemmas.Map.Lookups.{CmpEqualImpliesEq}
use Rattle.std.specs.Cmp.{IsTotalOrder}
use Rattle.std.specs.Ordering.{eq_by_cmp}
use Rattle.std.specs.declared.cmp.Ordering.{Ordering}
use Rattle.std.specs.declared.cmp.Ordering.TheVariants.{Less, Equal, Greater}
use Rattle.std.proofs.lemmas.Bool.{or_cases, or_parts, or_right}
use Rattle.value.specs.Ordered.{by_order, at, put, HoldsOf}
use Rattle.value.proofs.OrderedLists.{has, equal_from}

-- membership in two lists joined
pub has-append : {K : Type 0} (R : K → K → Ordering) (k : K) (xs ys : List K) → has R k (xs ++ ys) ≡ has R k xs || has R k ys
has-append R k [] ys = refl
has-append R k (x ∷ xs) ys = elim (eq_by_cmp R k x) as (λ b. b || has R k (xs ++ ys) ≡ (b || has R k xs) || has R k ys) [ true ↦ refl | false ↦ has-append R k xs ys ]

-- in neither of two lists joined
pub has-neither : {K : Type 0} (R : K → K → Ordering) (k : K) (xs ys : List K) → has R k (xs ++ ys) ≡ false → (has R k xs ≡ false) × (has R k ys ≡ false)
has-neither R k xs ys h = or_parts (has R k xs) (has R k ys) (sym (has-append R k xs ys) ∙ h)

module _ {K : Type 0} {R : K → K → Ordering} where
  at_place : IsTotalOrder R → (xs : List K) (x : K) (i : ℕ) → i < length xs → slice_index_or xs i x ≡ x → has R x xs ≡ true
  at_place o [] x i h e = absurd (omega arith)
  at_place o (y ∷ ys) x zero h e = rw (ap (R x) e ∙ tied_itself o x) refl
  at_place o (y ∷ ys) x (suc i) h e = or_right (eq_by_cmp R x y) (has R x ys) (at_place o ys x i (omega arith) e)

  -- an element of a list compares alike to one of it
  pub has-contains : IsTotalOrder R → (xs : List K) (x : K) → Contains xs x → has R x xs ≡ true
  has-contains o xs x c = at_place o xs x c.0 c.1 c.2

  -- where the order tells all apart, what compares alike to one of a list is an element
  pub contains-has : CmpEqualImpliesEq R → (xs : List K) (x : K) → has R x xs ≡ true → Contains xs x
  contains-has exact [] x h = cc
  contains-has exact (y ∷ ys) x h =
      ⊎_elim (λ e. (0, omega arith, sym (exact x y (equal_from (R x y) e))))
      (λ e. let c : Contains ys x = contains-has exact ys x e in (suc c.0, omega arith, c.2))
      (or_cases (eq_by_cmp R x y) (has R x ys) h)

  -- what is no element compares alike to none
  pub has-missing : CmpEqualImpliesEq R → (xs : List K) (x : K) → (¬ Contains xs x) → has R x xs ≡ false
  has-missing exact xs x h =
      let case : (b : Bool) → has R x xs ≡ b → b ≡ false = λ b. elim b as (λ b. has R x xs ≡ b → b ≡ false) [
        | true ↦ λ e. absurd (h (contains-has exact xs x e))
        | false ↦ λ e. refl
      ]
      in case (has R x xs) refl

-- a filter of a filter
pub filter-filter : {X : Type 0} (p q : X → Bool) (xs : List X) → filter p (filter q xs) ≡ filter (λ x. q x && p x) xs
filter-filter p q [] = refl
filter-filter p q (x ∷ xs) = elim (q x) as (λ b. filter p (cond b (x ∷ filter q xs) (filter q xs)) ≡ cond (b && p x) (x ∷ filter (λ x. q x && p x) xs) (filter (λ x. q x && p x) xs)) [
  | true ↦ ap (λ ys. cond (p x) (x ∷ ys) ys) (filter-filter p q xs)
  | false ↦ filter-filter p q xs
]

-- a filter drops the item, if there is one
abbrev pub Drops : {X : Type 0} → (X → Bool) → Option X → Type 0
Drops p o = HoldsOf (λ x. p x ≡ false) o

-- a filter drops each item
abbrev pub DropsAll : {X : Type 0} → (X → Bool) → List X → Type 0
DropsAll p [] = Unit {0}
DropsAll p (x ∷ xs) = (p x ≡ false) × DropsAll p xs

-- a filter that drops all items of two has dropped each of the two
pub DropsAll-two : {X : Type 0} (p : X → Bool) (a b : Option X) → DropsAll p (option_to_list a ++ option_to_list b) → Drops p a × Drops p b
DropsAll-two p None None d = (tt, tt)
DropsAll-two p None (Some y) d = (tt, d.0)
DropsAll-two p (Some x) None d = (d.0, tt)
DropsAll-two p (Some x) (Some y) d = (d.0, d.1.0)

pub Drops-filter : {X : Type 0} (p : X → Bool) (o : Option X) → Drops p o → filter p (option_to_list o) ≡ []
Drops-filter p None d = refl
Drops-filter p (Some x) d = rw d refl

module _ {X K : Type 0} (R : K → K → Ordering) (key : X → K) (p : X → Bool) where
  -- a change from and to items that a filter drops leaves what it keeps
  pub filter-put : (k : K) (new : Option X) (xs : List X) → Drops p (at R key k xs) → Drops p new → filter p (put R key k new xs) ≡ filter p xs
  filter-put k new [] d n = Drops-filter p new n
  filter-put k new (x ∷ xs) d n =
      let cases : (c : Ordering) → Drops p (by_order c None (Some x) (at R key k xs)) → filter p (by_order c (option_to_list new ++ x ∷ xs) (option_to_list new ++ xs) (x ∷ put R key k new xs)) ≡ filter p (x ∷ xs)
      = λ c. elim c as (λ c. Drops p (by_order c None (Some x) (at R key k xs)) → filter p (by_order c (option_to_list new ++ x ∷ xs) (option_to_list new ++ xs) (x ∷ put R key k new xs)) ≡ filter p (x ∷ xs)) [
        | Less ↦ λ d. filter-append p (option_to_list new) (x ∷ xs) ∙ ap (λ ys. ys ++ filter p (x ∷ xs)) (Drops-filter p new n)
        | Equal ↦ λ d. filter-append p (option_to_list new) xs ∙ ap (λ ys. ys ++ filter p xs) (Drops-filter p new n) ∙ sym (ap (λ b. cond b (x ∷ filter p xs) (filter p xs)) d)
        | Greater ↦ λ d. ap (λ ys. cond (p x) (x ∷ ys) ys) (filter-put k new xs d n)
      ]
      in cases (R k (key x)) d

module _ {X K : Type 0} (R : K → K → Ordering) (key : X → K) where
  -- what stands at a key has that key
  pub at-key : (k : K) (xs : List X) (x : X) → at R key k xs ≡ Some x → R k (key x) ≡ Equal
  at-key k [] x h = cc
  at-key k (y ∷ ys) x h = go (λ e. at-key k ys x e) (R k (key y)) refl
    where
      go : (at R key k ys ≡ Some x → R k (key x) ≡ Equal) → (c : Ordering) → R k (key y) ≡ c → R k (key x) ≡ Equal
      go more Less c = let e : None ≡ Some x = sym (ap (λ d. by_order d None (Some y) (at R key k ys)) c) ∙ h in cc
      go more Equal c =
          let some : Some y ≡ Some x = sym (ap (λ d. by_order d None (Some y) (at R key k ys)) c) ∙ h in
          let e : y ≡ x = cc in
          subst (λ z. R k (key z) ≡ Equal) e c
      go more Greater c = more (sym (ap (λ d. by_order d None (Some y) (at R key k ys)) c) ∙ h)
