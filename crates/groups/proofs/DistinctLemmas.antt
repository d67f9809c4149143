-- Each value of a list once: what one value more in the list adds to them.
use Rattle.std.proofs.Common.{◌≡◌, ℕ, ◌+◌, ◌≤◌, ◌^◌, Bool, true, false, cond, List, [], ◌∷◌, ◌++◌, length, refl, sym, ◌∙◌, ap, subst, arith}
use Rattle.std.specs.Prelude.{◌==◌, ◌&&◌, ◌||◌, not, pos, ◌+ℤ◌, filter, count_by}
use Rattle.std.proofs.lemmas.Bool.{or_parts, or_right}
use Rattle.std.proofs.lemmas.Bool.Decides.{nat_tests}
use Rattle.std.proofs.lemmas.Cmp.{tied_itself}
use Rattle.std.proofs.lemmas.Int.{ints}
use Rattle.std.proofs.lemmas.List.Elements.{filter-append, All-cons, All-head, All-tail, All-filter}
use Rattle.std.proofs.lemmas.List.Sums.{sum_by-cons, length-filter, count_by-le-length}
use Rattle.std.specs.Ordering.{eq_by_cmp, is_eq, ordering_reverse}
use Rattle.std.specs.declared.cmp.Ordering.{Ordering}
use Rattle.std.specs.declared.cmp.Ordering.TheVariants.{Less, Equal, Greater}
use Rattle.value.specs.declared.values.Value.{Value}
use Rattle.value.specs.declared.values.Value.TheVariants.{Null, Int, Text}
use Rattle.value.specs.ValueOrder.{value_cmp}
use Rattle.value.proofs.ValueOrders.{value_cmp_total}
use Rattle.value.proofs.OrderedLists.{has, has-itself}
use Rattle.table.specs.Aggregates.{is_there, distinct, number_of, sum_of}
use Rattle.table.specs.Slots.{magnitude}
use Rattle.table.proofs.DistinctLemmas.{same_value}
use Rattle.groups.specs.Totals.{IsOneMore, AreSmall, IsWithin}
use Rattle.groups.proofs.MemberLemmas.{counted, summed}

-- ---- filters

-- a value that a filter keeps is kept again
filter-twice : (p : Value → Bool) (vs : List Value) → filter p (filter p vs) ≡ filter p vs
filter-twice p [] = refl
filter-twice p (v ∷ vs) = case (filter-twice p vs) (p v) refl
  where
    case : filter p (filter p vs) ≡ filter p vs → (b : Bool) → p v ≡ b → filter p (filter p (v ∷ vs)) ≡ filter p (v ∷ vs)
    case more true e = simp e (ap (λ ws. v ∷ ws) more)
    case more false e = simp e more

-- two filters give the same in either order
filter-swap : (p q : Value → Bool) (vs : List Value) → filter p (filter q vs) ≡ filter q (filter p vs)
filter-swap p q [] = refl
filter-swap p q (v ∷ vs) = case (filter-swap p q vs) (p v) (q v) refl refl
  where
    case : filter p (filter q vs) ≡ filter q (filter p vs) → (a b : Bool) → p v ≡ a → q v ≡ b → filter p (filter q (v ∷ vs)) ≡ filter q (filter p (v ∷ vs))
    case more true true e f = simp (e, f) (ap (λ ws. v ∷ ws) more)
    case more true false e f = simp (e, f) more
    case more false true e f = simp (e, f) more
    case more false false e f = simp (e, f) more

-- ---- the distinct values beside one

abbrev is_other : Value → Value → Bool
is_other x w = not (eq_by_cmp value_cmp x w)

abbrev pub others : Value → List Value → List Value
others x vs = filter (is_other x) (distinct vs)

-- what is another, is so the other way round
other_back : (x v : Value) → eq_by_cmp value_cmp x v ≡ false → is_other v x ≡ true
other_back x v e = ap not (back (value_cmp v x) (value_cmp x v) (value_cmp_total.antisymm v x) ∙ e)
  where
    back : (c d : Ordering) → c ≡ ordering_reverse d → is_eq c ≡ is_eq d
    back c Less e = rw e refl
    back c Equal e = rw e refl
    back c Greater e = rw e refl

others-same : (v : Value) (vs : List Value) → others v (v ∷ vs) ≡ others v vs
others-same v vs = rw (tied_itself value_cmp_total v) (filter-twice (is_other v) (distinct vs))

others-apart : (x v : Value) (vs : List Value) → eq_by_cmp value_cmp x v ≡ false → others x (v ∷ vs) ≡ v ∷ filter (is_other v) (others x vs)
others-apart x v vs e = rw e (ap (λ ws. v ∷ ws) (filter-swap (is_other x) (is_other v) (distinct vs)))

others-cons : (x v : Value) (us vs : List Value) → others x us ≡ others x vs → others x (v ∷ us) ≡ others x (v ∷ vs)
others-cons x v us vs more = case (eq_by_cmp value_cmp x v) refl
  where
    case : (b : Bool) → eq_by_cmp value_cmp x v ≡ b → others x (v ∷ us) ≡ others x (v ∷ vs)
    case true e = subst (λ w. others x (w ∷ us) ≡ others x (w ∷ vs)) (same_value x v e) (others-same x us ∙ more ∙ sym (others-same x vs))
    case false e = others-apart x v us e ∙ ap (λ ws. v ∷ filter (is_other v) ws) more ∙ sym (others-apart x v vs e)

-- beside a value the distinct ones are the same, whether it stands once more or not
others-more : (x : Value) (front back : List Value) → others x (front ++ x ∷ back) ≡ others x (front ++ back)
others-more x [] back = others-same x back
others-more x (f ∷ fs) back = others-cons x f (fs ++ x ∷ back) (fs ++ back) (others-more x fs back)

-- a value that stands in the list is one more beside the others
pub distinct-has : (x : Value) (vs : List Value) → has value_cmp x vs ≡ true → IsOneMore x (others x vs) (distinct vs)
distinct-has x [] h = cc
distinct-has x (v ∷ vs) h = case (λ h. distinct-has x vs h) (eq_by_cmp value_cmp x v) refl h
  where
    case : (has value_cmp x vs ≡ true → IsOneMore x (others x vs) (distinct vs)) → (b : Bool) → eq_by_cmp value_cmp x v ≡ b → (b || has value_cmp x vs) ≡ true → IsOneMore x (others x (v ∷ vs)) (distinct (v ∷ vs))
    case more true e h = let same : x ≡ v = same_value x v e in record {
      front = [];
      back = others v vs;
      without = ap (λ w. others w (v ∷ vs)) same ∙ others-same v vs;
      with_it = ap (λ w. w ∷ others v vs) (sym same);
    }
    case more false e h = let m : IsOneMore x (others x vs) (distinct vs) = more h in record {
      front = v ∷ filter (is_other v) m.front;
      back = filter (is_other v) m.back;
      without = others-apart x v vs e ∙ ap (λ ws. v ∷ filter (is_other v) ws) m.without ∙ ap (λ ws. v ∷ ws) (filter-append (is_other v) m.front m.back);
      with_it =
          ap (λ ws. v ∷ filter (is_other v) ws) m.with_it
          ∙ ap (λ ws. v ∷ ws) (filter-append (is_other v) m.front (x ∷ m.back))
          ∙ ap (λ b. v ∷ (filter (is_other v) m.front ++ cond b (x ∷ filter (is_other v) m.back) (filter (is_other v) m.back))) (other_back x v e);
    }

-- and where it stands nowhere the others are all
pub distinct-new : (x : Value) (vs : List Value) → has value_cmp x vs ≡ false → others x vs ≡ distinct vs
distinct-new x [] h = refl
distinct-new x (v ∷ vs) h =
    let apart = or_parts (eq_by_cmp value_cmp x v) (has value_cmp x vs) h in
    others-apart x v vs apart.0 ∙ ap (λ ws. v ∷ filter (is_other v) ws) (distinct-new x vs apart.1)

has-it : (x : Value) (front back : List Value) → has value_cmp x (front ++ x ∷ back) ≡ true
has-it x [] back = has-itself value_cmp_total x back
has-it x (f ∷ fs) back = or_right (eq_by_cmp value_cmp x f) (has value_cmp x (fs ++ x ∷ back)) (has-it x fs back)

-- of a list with a value more
pub distinct-more : (x : Value) (vs ws : List Value) → IsOneMore x vs ws → IsOneMore x (others x vs) (distinct ws)
distinct-more x vs ws m =
    subst (λ us. IsOneMore x us (distinct ws))
    (ap (others x) m.with_it ∙ others-more x m.front m.back ∙ ap (others x) (sym m.without))
    (distinct-has x ws (ap (has value_cmp x) m.with_it ∙ has-it x m.front m.back))

-- ---- what a value more adds to the distinct ones: nothing where it stands already

pub distinct-counted : (p : Value → Bool) (x : Value) (vs ws : List Value) → IsOneMore x vs ws → count_by p (distinct ws) ≡ count_by p (distinct vs) + cond (has value_cmp x vs) 0 (cond (p x) 1 0)
distinct-counted p x vs ws m = case (has value_cmp x vs) refl
  where
    beside : count_by p (distinct ws) ≡ count_by p (others x vs) + cond (p x) 1 0
    beside = counted p x (others x vs) (distinct ws) (distinct-more x vs ws m)

    case : (b : Bool) → has value_cmp x vs ≡ b → count_by p (distinct ws) ≡ count_by p (distinct vs) + cond b 0 (cond (p x) 1 0)
    case true h = omega (arith, beside, counted p x (others x vs) (distinct vs) (distinct-has x vs h))
    case false h = beside ∙ ap (λ us. count_by p us + cond (p x) 1 0) (distinct-new x vs h)

pub distinct-summed : (x : Value) (vs ws : List Value) → IsOneMore x vs ws → sum_of (distinct ws) ≡ cond (has value_cmp x vs) (pos 0) (number_of x) +ℤ sum_of (distinct vs)
distinct-summed x vs ws m = case (has value_cmp x vs) refl
  where
    beside : sum_of (distinct ws) ≡ number_of x +ℤ sum_of (others x vs)
    beside = summed x (others x vs) (distinct ws) (distinct-more x vs ws m)

    case : (b : Bool) → has value_cmp x vs ≡ b → sum_of (distinct ws) ≡ cond b (pos 0) (number_of x) +ℤ sum_of (distinct vs)
    case true h = omega (arith, ints, beside, summed x (others x vs) (distinct vs) (distinct-has x vs h))
    case false h = beside ∙ ap (λ us. number_of x +ℤ sum_of us) (distinct-new x vs h)

-- ---- whether a value stands in a list, by how often it is counted there

abbrev pub alike : Value → Value → Bool
alike v w = is_there w && eq_by_cmp value_cmp v w

-- of a value that is there NULLs need not be told apart
pub alike-there : (x w : Value) → is_there x ≡ true → alike x w ≡ eq_by_cmp value_cmp x w
alike-there x w t = case (eq_by_cmp value_cmp x w) refl
  where
    case : (b : Bool) → eq_by_cmp value_cmp x w ≡ b → is_there w && b ≡ b
    case true e = ap (λ v. is_there v && true) (sym (same_value x w e)) ∙ ap (λ b. b && true) t
    case false e = elim (is_there w) as (λ b. b && false ≡ false) [ true ↦ refl | false ↦ refl ]

pub has-counted : (x : Value) (vs : List Value) → is_there x ≡ true → (count_by (alike x) vs == 0) ≡ not (has value_cmp x vs)
has-counted x [] t = refl
has-counted x (v ∷ vs) t =
    rw (sum_by-cons (λ (w : Value). cond (alike x w) 1 0) v vs, alike-there x v t)
    (elim (eq_by_cmp value_cmp x v) as (λ b. (cond b 1 0 + count_by (alike x) vs == 0) ≡ not (b || has value_cmp x vs)) [
      | true ↦ some_more (count_by (alike x) vs)
      | false ↦ none_more (count_by (alike x) vs) ∙ has-counted x vs t
    ])
  where
    some_more : (n : ℕ) → (1 + n == 0) ≡ false
    some_more n = grind (arith, nat_tests)

    none_more : (n : ℕ) → (0 + n == 0) ≡ (n == 0)
    none_more n = ap (λ m. m == 0) (omega arith)

-- ---- the distinct values that are there, and their bounds

no_null : (vs : List Value) → has value_cmp Null (filter is_there vs) ≡ false
no_null [] = refl
no_null (Null ∷ vs) = no_null vs
no_null (Int n ∷ vs) = no_null vs
no_null (Text t ∷ vs) = no_null vs

there-others : (v : Value) (vs : List Value) → filter is_there (distinct vs) ≡ distinct (filter is_there vs) → filter is_there (others v vs) ≡ others v (filter is_there vs)
there-others v vs more = filter-swap is_there (is_other v) (distinct vs) ∙ ap (filter (is_other v)) more

-- NULL is left out before or after the duplicates are
pub there-distinct : (vs : List Value) → filter is_there (distinct vs) ≡ distinct (filter is_there vs)
there-distinct [] = refl
there-distinct (Null ∷ vs) = there-others Null vs (there-distinct vs) ∙ distinct-new Null (filter is_there vs) (no_null vs)
there-distinct (Int n ∷ vs) = ap (λ ws. Int n ∷ ws) (there-others (Int n) vs (there-distinct vs))
there-distinct (Text t ∷ vs) = ap (λ ws. Text t ∷ ws) (there-others (Text t) vs (there-distinct vs))

distinct-length : (vs : List Value) → length (distinct vs) ≤ length vs
distinct-length [] = omega arith
distinct-length (v ∷ vs) = omega (arith, length-filter (is_other v) (distinct vs), count_by-le-length (is_other v) (distinct vs), distinct-length vs)

abbrev IsSmall : Value → Type 0
IsSmall v = magnitude v ≤ 10 ^ 15

distinct-small : (vs : List Value) → AreSmall vs → AreSmall (distinct vs)
distinct-small [] h = h
distinct-small (v ∷ vs) h =
    All-cons IsSmall v (filter (is_other v) (distinct vs)) (All-head IsSmall v vs h)
    (All-filter (is_other v) IsSmall (distinct vs) (distinct-small vs (All-tail IsSmall v vs h)))

-- the distinct values of a list within bounds are so
pub distinct-within : (vs : List Value) → IsWithin vs → IsWithin (distinct vs)
distinct-within vs w = record { short = omega (arith, w.short, distinct-length vs); small = distinct-small vs w.small }
