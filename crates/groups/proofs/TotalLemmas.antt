-- A total stays that of its rows as one comes or goes.
use Rattle.std.proofs.Common.{◌≡◌, ℕ, ◌+◌, ◌-◌, ◌<◌, ◌≤◌, ◌^◌, Bool, true, false, cond, List, [], refl, sym, ◌∙◌, ap, arith}
use Rattle.std.specs.Prelude.{◌==◌, not, ℤ, pos, negsuc, ◌+ℤ◌, ◌-ℤ◌, unsigned_abs, count_by, if◌then◌else◌}
use Rattle.std.specs.Int.{w128, saturate_signed}
use Rattle.std.proofs.Math.Nat.{min-eq_left}
use Rattle.std.proofs.lemmas.Bool.{or_right}
use Rattle.std.proofs.lemmas.Cmp.{tied_itself}
use Rattle.std.proofs.lemmas.Int.{ints}
use Rattle.std.proofs.lemmas.List.Elements.{All-nil}
use Rattle.std.proofs.lemmas.List.Sums.{count_by-le-length}
use Rattle.value.specs.declared.values.Value.{Value}
use Rattle.value.specs.declared.values.Value.TheVariants.{Null, Int, Text}
use Rattle.value.specs.ValueOrder.{value_cmp}
use Rattle.value.proofs.ValueOrders.{value_cmp_total}
use Rattle.value.proofs.OrderedLists.{has}
use Rattle.table.specs.declared.aggregates.Aggregate.{Aggregate}
use Rattle.table.specs.Aggregates.{is_there, distinct, number_of, sum_of}
use Rattle.groups.specs.Counts.{Count, count_at, count_of, counts_with, one_up}
use Rattle.groups.specs.Figures.{Figures}
use Rattle.groups.specs.Steps.{no_figures, there_of, there_if, number_if, stands, is_taken, one_more, one_less}
use Rattle.groups.specs.Totals.{AreCountsIf, AreCountsOf, is_extreme, is_distinct, taken, keeps_values, IsTotalOf, IsOneMore, IsWithin}
use Rattle.groups.proofs.CountLemmas.{one_up-small, count_of-there, counts_more, counts_less, counts_more-at, counts_less-at, counts_more-ordered, counts_less-ordered, counts_more-positive, counts_less-positive}
use Rattle.groups.proofs.DistinctLemmas.{alike, alike-there, has-counted, distinct-more, distinct-counted, distinct-summed, distinct-within, others}
use Rattle.groups.proofs.MemberLemmas.{longer, counted, summed, sum_within}

-- a number of few bits is the nearest to itself
saturated : (z : ℤ) → unsigned_abs z ≤ 2 ^ 113 → saturate_signed w128 z ≡ z
saturated (pos n) h = ap pos (min-eq_left (omega (arith, h)))
saturated (negsuc n) h = ap negsuc (min-eq_left (omega (arith, h)))

there_is : (x : Value) → there_of x ≡ if is_there x then 1 else 0
there_is Null = refl
there_is (Int n) = refl
there_is (Text t) = refl

-- the count of a value, by whether it is the one that comes or goes
up : (b : Bool) (n m k : ℕ) → n ≡ m → k ≡ m + (if b then 1 else 0) → k < 2 ^ 63 → cond b (one_up n) n ≡ k
up true n m k e f h = one_up-small n (omega (arith, e, f, h)) ∙ omega (arith, e, f)
up false n m k e f h = omega (arith, e, f)

down : (b : Bool) (n m k : ℕ) → n ≡ k → k ≡ m + (if b then 1 else 0) → cond b (n - 1) n ≡ m
down true n m k e f = omega (arith, e, f)
down false n m k e f = omega (arith, e, f)

-- the counts with a value once more, and once less
AreCountsOf-more : (x : Value) (vs ws : List Value) (cs : List Count) → IsOneMore x vs ws → AreCountsOf vs cs → IsWithin ws → AreCountsOf ws (counts_more x cs)
AreCountsOf-more x vs ws cs m k w = record {
  in_order = counts_more-ordered x cs k.in_order;
  positive = counts_more-positive x cs k.positive;
  right = λ v.
      counts_more-at x cs k.in_order v
      ∙ up (alike v x) (count_at v cs) (count_by (alike v) vs) (count_by (alike v) ws) (k.right v) (counted (alike v) x vs ws m) (omega (arith, w.short, count_by-le-length (alike v) ws));
}

AreCountsOf-less : (x : Value) (vs ws : List Value) (cs : List Count) → IsOneMore x vs ws → AreCountsOf ws cs → AreCountsOf vs (counts_less x cs)
AreCountsOf-less x vs ws cs m k = record {
  in_order = counts_less-ordered x cs k.in_order;
  positive = counts_less-positive x cs k.positive;
  right = λ v.
      counts_less-at x cs k.in_order v
      ∙ down (alike v x) (count_at v cs) (count_by (alike v) vs) (count_by (alike v) ws) (k.right v) (counted (alike v) x vs ws m);
}

AreCountsIf-more : (b : Bool) (x : Value) (vs ws : List Value) (cs : List Count) → IsOneMore x vs ws → AreCountsIf b vs cs → IsWithin ws → AreCountsIf b ws (if b then counts_with x (one_up (if b then count_of x cs else 0)) cs else cs)
AreCountsIf-more true x vs ws cs m k w = AreCountsOf-more x vs ws cs m k w
AreCountsIf-more false x vs ws cs m k w = tt

AreCountsIf-less : (b : Bool) (x : Value) (vs ws : List Value) (cs : List Count) → IsOneMore x vs ws → AreCountsIf b ws cs → AreCountsIf b vs (if b then counts_with x ((if b then count_of x cs else 0) - 1) cs else cs)
AreCountsIf-less true x vs ws cs m k = AreCountsOf-less x vs ws cs m k
AreCountsIf-less false x vs ws cs m k = tt

-- ---- what a set function takes of a list with one value more

abbrev taken_if : Bool → List Value → List Value
taken_if once vs = if once then distinct vs else vs

abbrev takes_if : Bool → ℕ → Bool
takes_if once n = if once then n == 0 else true

-- one of two, by a test or by its opposite, where they differ only if the value is there
either : {A : Type 0} (there b c : Bool) (x y : A) → (there ≡ true → b ≡ not c) → (there ≡ false → x ≡ y) → cond c y x ≡ cond b x y
either true b true x y e f = rw (e refl) refl
either true b false x y e f = rw (e refl) refl
either false true true x y e f = sym (f refl)
either false true false x y e f = refl
either false false true x y e f = refl
either false false false x y e f = f refl

no_there : (x : Value) → is_there x ≡ false → there_of x ≡ 0
no_there Null t = refl
no_there (Int n) t = cc
no_there (Text s) t = cc

no_number : (x : Value) → is_there x ≡ false → number_of x ≡ pos 0
no_number Null t = refl
no_number (Int n) t = cc
no_number (Text s) t = cc

-- the value is taken where no other row has it
new_value : (x : Value) (vs : List Value) (n : ℕ) → (is_there x ≡ true → n ≡ count_by (alike x) vs) → is_there x ≡ true → (n == 0) ≡ not (has value_cmp x vs)
new_value x vs n e t = ap (λ m. m == 0) (e t) ∙ has-counted x vs t

taken-there : (once : Bool) (x : Value) (vs ws : List Value) (n : ℕ) → IsOneMore x vs ws → (once ≡ true → is_there x ≡ true → n ≡ count_by (alike x) vs) → count_by is_there (taken_if once ws) ≡ count_by is_there (taken_if once vs) + there_if (takes_if once n) x
taken-there false x vs ws n m e = omega (arith, counted is_there x vs ws m, there_is x)
taken-there true x vs ws n m e =
    distinct-counted is_there x vs ws m
    ∙ ap (λ k. count_by is_there (distinct vs) + k)
    (ap (λ k. cond (has value_cmp x vs) 0 k) (sym (there_is x)) ∙ either (is_there x) (n == 0) (has value_cmp x vs) (there_of x) 0 (new_value x vs n (e refl)) (no_there x))

taken-sum : (once : Bool) (x : Value) (vs ws : List Value) (n : ℕ) → IsOneMore x vs ws → (once ≡ true → is_there x ≡ true → n ≡ count_by (alike x) vs) → sum_of (taken_if once ws) ≡ number_if (takes_if once n) x +ℤ sum_of (taken_if once vs)
taken-sum false x vs ws n m e = summed x vs ws m
taken-sum true x vs ws n m e =
    distinct-summed x vs ws m
    ∙ ap (λ z. z +ℤ sum_of (distinct vs)) (either (is_there x) (n == 0) (has value_cmp x vs) (number_of x) (pos 0) (new_value x vs n (e refl)) (no_number x))

-- and where one value goes and the same comes
same-there : (once : Bool) (x : Value) (us vs ws : List Value) → IsOneMore x us vs → IsOneMore x us ws → count_by is_there (taken_if once vs) ≡ count_by is_there (taken_if once ws)
same-there false x us vs ws m n = counted is_there x us vs m ∙ sym (counted is_there x us ws n)
same-there true x us vs ws m n = counted is_there x (others x us) (distinct vs) (distinct-more x us vs m) ∙ sym (counted is_there x (others x us) (distinct ws) (distinct-more x us ws n))

same-sum : (once : Bool) (x : Value) (us vs ws : List Value) → IsOneMore x us vs → IsOneMore x us ws → sum_of (taken_if once vs) ≡ sum_of (taken_if once ws)
same-sum false x us vs ws m n = summed x us vs m ∙ sym (summed x us ws n)
same-sum true x us vs ws m n = summed x (others x us) (distinct vs) (distinct-more x us vs m) ∙ sym (summed x (others x us) (distinct ws) (distinct-more x us ws n))

taken-within : (once : Bool) (vs : List Value) → IsWithin vs → IsWithin (taken_if once vs)
taken-within true vs w = distinct-within vs w
taken-within false vs w = w

-- ---- how often the value stands in the other rows, where that matters

stood : (b : Bool) (x : Value) (vs : List Value) (cs : List Count) → b ≡ true → is_there x ≡ true → AreCountsIf b vs cs → (if b then count_of x cs else 0) ≡ count_by (alike x) vs
stood true x vs cs e t k = count_of-there x cs t ∙ k.right x
stood false x vs cs e t k = cc

stands-right : (a : Aggregate) (x : Value) (vs : List Value) (cs : List Count) → AreCountsIf (keeps_values a) vs cs → is_distinct a ≡ true → is_there x ≡ true → stands a x cs ≡ count_by (alike x) vs
stands-right a x vs cs k once t = stood (keeps_values a) x vs cs (or_right (is_extreme a) (is_distinct a) once) t k

alike-itself : (x : Value) → is_there x ≡ true → alike x x ≡ true
alike-itself x t = alike-there x x t ∙ (rw (tied_itself value_cmp_total x) refl)

stands-beside : (a : Aggregate) (x : Value) (vs ws : List Value) (cs : List Count) → IsOneMore x vs ws → AreCountsIf (keeps_values a) ws cs → is_distinct a ≡ true → is_there x ≡ true → stands a x cs - 1 ≡ count_by (alike x) vs
stands-beside a x vs ws cs m k once t =
    let more : count_by (alike x) ws ≡ count_by (alike x) vs + 1 = counted (alike x) x vs ws m ∙ ap (λ b. count_by (alike x) vs + (if b then 1 else 0)) (alike-itself x t) in
    omega (arith, stands-right a x ws cs k once t, more)

-- ---- totals

-- a total with one row more
pub IsTotalOf-more : (a : Aggregate) (x : Value) (vs ws : List Value) (t : Figures) → IsOneMore x vs ws → IsTotalOf a vs t → IsWithin ws → IsTotalOf a ws (one_more a x t)
IsTotalOf-more a x vs ws t m k w =
    let n : ℕ = stands a x t.values in
    let beside : is_distinct a ≡ true → is_there x ≡ true → n ≡ count_by (alike x) vs = stands-right a x vs t.values k.values in
    let there : count_by is_there (taken a ws) ≡ count_by is_there (taken a vs) + there_if (is_taken a n) x = taken-there (is_distinct a) x vs ws n m beside in
    let sum : sum_of (taken a ws) ≡ number_if (is_taken a n) x +ℤ sum_of (taken a vs) = taken-sum (is_distinct a) x vs ws n m beside in
    let within : IsWithin (taken a ws) = taken-within (is_distinct a) ws w in
    record {
      rows = one_up-small t.rows (omega (arith, w.short, longer x vs ws m, k.rows)) ∙ omega (arith, longer x vs ws m, k.rows);
      there = min-eq_left (omega (arith, within.short, there, count_by-le-length is_there (taken a ws), k.there)) ∙ omega (arith, there, k.there);
      sum = ap (saturate_signed w128) (added t.sum (number_if (is_taken a n) x) (sum_of (taken a vs)) (sum_of (taken a ws)) k.sum sum) ∙ saturated (sum_of (taken a ws)) (sum_within (taken a ws) within);
      values = AreCountsIf-more (keeps_values a) x vs ws t.values m k.values w;
    }
  where
    added : (s n a b : ℤ) → s ≡ a → b ≡ n +ℤ a → s +ℤ n ≡ b
    added s n a b e f = omega (arith, ints, e, f)

-- a total with one row less
pub IsTotalOf-less : (a : Aggregate) (x : Value) (vs ws : List Value) (t : Figures) → IsOneMore x vs ws → IsTotalOf a ws t → IsWithin vs → IsTotalOf a vs (one_less a x t)
IsTotalOf-less a x vs ws t m k w =
    let n : ℕ = stands a x t.values - 1 in
    let beside : is_distinct a ≡ true → is_there x ≡ true → n ≡ count_by (alike x) vs = stands-beside a x vs ws t.values m k.values in
    let there : count_by is_there (taken a ws) ≡ count_by is_there (taken a vs) + there_if (is_taken a n) x = taken-there (is_distinct a) x vs ws n m beside in
    let sum : sum_of (taken a ws) ≡ number_if (is_taken a n) x +ℤ sum_of (taken a vs) = taken-sum (is_distinct a) x vs ws n m beside in
    let within : IsWithin (taken a vs) = taken-within (is_distinct a) vs w in
    record {
      rows = omega (arith, longer x vs ws m, k.rows);
      there = omega (arith, there, k.there);
      sum = ap (saturate_signed w128) (left t.sum (number_if (is_taken a n) x) (sum_of (taken a vs)) (sum_of (taken a ws)) k.sum sum) ∙ saturated (sum_of (taken a vs)) (sum_within (taken a vs) within);
      values = AreCountsIf-less (keeps_values a) x vs ws t.values m k.values;
    }
  where
    left : (s n a b : ℤ) → s ≡ b → b ≡ n +ℤ a → s -ℤ n ≡ a
    left s n a b e f = omega (arith, ints, e, f)

-- the counts, and a total, stay where one value goes and the same comes
AreCountsIf-same : (b : Bool) (x : Value) (us vs ws : List Value) (cs : List Count) → IsOneMore x us vs → IsOneMore x us ws → AreCountsIf b vs cs → AreCountsIf b ws cs
AreCountsIf-same false x us vs ws cs m n k = tt
AreCountsIf-same true x us vs ws cs m n k = record {
  in_order = k.in_order;
  positive = k.positive;
  right = λ v. k.right v ∙ counted (alike v) x us vs m ∙ sym (counted (alike v) x us ws n);
}

pub IsTotalOf-same : (a : Aggregate) (x : Value) (us vs ws : List Value) (t : Figures) → IsOneMore x us vs → IsOneMore x us ws → IsTotalOf a vs t → IsTotalOf a ws t
IsTotalOf-same a x us vs ws t m n k = record {
  rows = k.rows ∙ longer x us vs m ∙ sym (longer x us ws n);
  there = k.there ∙ same-there (is_distinct a) x us vs ws m n;
  sum = k.sum ∙ same-sum (is_distinct a) x us vs ws m n;
  values = AreCountsIf-same (keeps_values a) x us vs ws t.values m n k.values;
}

-- the total of no rows
pub IsTotalOf-none : (a : Aggregate) → IsTotalOf a [] no_figures
IsTotalOf-none a = record {
  rows = refl;
  there = ap (count_by is_there) (sym (nothing (is_distinct a)));
  sum = ap sum_of (sym (nothing (is_distinct a)));
  values = none (keeps_values a);
}
  where
    nothing : (once : Bool) → taken_if once [] ≡ []
    nothing true = refl
    nothing false = refl

    none : (b : Bool) → AreCountsIf b [] []
    none true = record { in_order = tt; positive = All-nil (λ (c : Count). 0 < c.count); right = λ v. refl }
    none false = tt
