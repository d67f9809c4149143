-- A list with one value more, and groups with one row more.
use Rattle.std.proofs.Common.{◌≡◌, ℕ, ◌+◌, ◌*◌, ◌≤◌, ◌^◌, suc, Bool, true, false, cond, List, [], ◌∷◌, ◌++◌, Option, Some, None, length, refl, sym, subst, arith}
use Rattle.std.specs.Prelude.{ℤ, ◌+ℤ◌, unsigned_abs, count_by, if◌then◌else◌}
use Rattle.std.proofs.lemmas.Int.{ints}
use Rattle.std.proofs.lemmas.List.{length-append}
use Rattle.std.proofs.lemmas.List.Elements.{All-cons, All-head, All-tail}
use Rattle.std.proofs.lemmas.List.Sums.{sum_by-cons}
use Rattle.std.specs.Ordering.{eq_by_cmp}
use Rattle.value.specs.declared.values.Value.{Value}
use Rattle.value.specs.declared.values.Value.TheVariants.{Null, Int, Text}
use Rattle.value.specs.ValueOrder.{value_cmp}
use Rattle.value.proofs.ValueOrders.{value_exact}
use Rattle.value.proofs.OrderedLists.{count_by-append, equal_from}
use Rattle.table.specs.Aggregates.{number_of, sum_of}
use Rattle.table.specs.Slots.{magnitude}
use Rattle.groups.specs.declared.members.Member.{Member}
use Rattle.groups.specs.Totals.{Members, IsOneMore, HaveOneMore, AreSmall, IsWithin, AreWithin}

abbrev IsSmall : Value → Type 0
IsSmall v = magnitude v ≤ 10 ^ 15

number-magnitude : (v : Value) → unsigned_abs (number_of v) ≤ magnitude v
number-magnitude Null = omega arith
number-magnitude (Int n) = omega arith
number-magnitude (Text t) = omega arith

sum_of-append : (xs ys : List Value) → sum_of (xs ++ ys) ≡ sum_of xs +ℤ sum_of ys
sum_of-append [] ys = omega (arith, ints)
sum_of-append (x ∷ xs) ys = omega (arith, ints, sum_of-append xs ys)

-- a sum of small numbers
pub sum_small : (vs : List Value) → AreSmall vs → unsigned_abs (sum_of vs) ≤ length vs * 2 ^ 50
sum_small [] h = omega arith
sum_small (v ∷ vs) h =
    let low : magnitude v ≤ 10 ^ 15 = All-head IsSmall v vs h in
    let here : unsigned_abs (number_of v) ≤ 2 ^ 50 = omega (arith, number-magnitude v, low) in
    step (number_of v) (sum_of vs) (length vs) here (sum_small vs (All-tail IsSmall v vs h))
  where
    step : (a b : ℤ) (n : ℕ) → unsigned_abs a ≤ 2 ^ 50 → unsigned_abs b ≤ n * 2 ^ 50 → unsigned_abs (a +ℤ b) ≤ suc n * 2 ^ 50
    step a b n h k = omega (arith, ints)

-- a sum of the numbers of rows within bounds
pub sum_within : (vs : List Value) → IsWithin vs → unsigned_abs (sum_of vs) ≤ 2 ^ 113
sum_within vs w = omega (arith, w.short, sum_small vs w.small)

-- a list with one value more, by its length, its counts and its sum
pub longer : (x : Value) (vs ws : List Value) → IsOneMore x vs ws → length ws ≡ length vs + 1
longer x vs ws m = rw (m.without, m.with_it) (omega (arith, length-append m.front m.back, length-append m.front (x ∷ m.back)))

pub counted : (p : Value → Bool) (x : Value) (vs ws : List Value) → IsOneMore x vs ws → count_by p ws ≡ count_by p vs + (if p x then 1 else 0)
counted p x vs ws m = rw (m.without, m.with_it) (omega (arith, count_by-append p m.front m.back, count_by-append p m.front (x ∷ m.back), sum_by-cons (λ (w : Value). cond (p w) 1 0) x m.back))

pub summed : (x : Value) (vs ws : List Value) → IsOneMore x vs ws → sum_of ws ≡ number_of x +ℤ sum_of vs
summed x vs ws m = rw (m.without, m.with_it) (omega (arith, ints, sum_of-append m.front m.back, sum_of-append m.front (x ∷ m.back)))

small_fewer : (front : List Value) (x : Value) (back : List Value) → AreSmall (front ++ x ∷ back) → AreSmall (front ++ back)
small_fewer [] x back h = All-tail IsSmall x back h
small_fewer (f ∷ fs) x back h = All-cons IsSmall f (fs ++ back) (All-head IsSmall f (fs ++ x ∷ back) h) (small_fewer fs x back (All-tail IsSmall f (fs ++ x ∷ back) h))

-- a list within bounds is so with one value less
pub within_one_fewer : (x : Value) (vs ws : List Value) → IsOneMore x vs ws → IsWithin ws → IsWithin vs
within_one_fewer x vs ws m w = record {
  short = omega (arith, w.short, longer x vs ws m);
  small = subst AreSmall (sym m.without) (small_fewer m.front x m.back (subst AreSmall m.with_it w.small));
}

-- groups within bounds are so with one row less
pub within_fewer : (o : Option Member) (fewer more : Members) → HaveOneMore o fewer more → AreWithin more → AreWithin fewer
within_fewer None fewer more h w = λ v. subst IsWithin (h v) (w v)
within_fewer (Some m) fewer more h w = λ v.
    let case : (b : Bool) → eq_by_cmp value_cmp v m.group ≡ b → IsWithin (fewer v) = λ b. elim b as (λ b. eq_by_cmp value_cmp v m.group ≡ b → IsWithin (fewer v)) [
      | true ↦ λ e. subst (λ u. IsWithin (fewer u)) (sym (value_exact v m.group (equal_from (value_cmp v m.group) e))) (within_one_fewer m.value (fewer m.group) (more m.group) h.here (w m.group))
      | false ↦ λ e. subst IsWithin (h.elsewhere v e) (w v)
    ]
    in case (eq_by_cmp value_cmp v m.group) refl
