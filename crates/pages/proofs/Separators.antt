-- Separators that go up: where a key belongs among them, and what a cut or a removal leaves.
use Rattle.std.proofs.lemmas.List.{take-append-drop, drop_more, take_more}
use Rattle.std.proofs.Common.{◌≡◌, ℕ, zero, suc, ◌+◌, ◌<◌, ◌≤◌, true, false, List, [], ◌∷◌, ◌++◌, take, drop, length, refl, sym, ◌∙◌, ap, arith, slice_index_or, subst}
use Rattle.std.specs.List.{insert, remove}
use Rattle.std.specs.Ordering.{is_lt, is_gt, ordering_reverse}
use Rattle.std.specs.declared.cmp.Ordering.{Ordering}
use Rattle.std.specs.declared.cmp.Ordering.TheVariants.{Less, Equal, Greater}
use Rattle.value.specs.declared.values.Value.{Value}
use Rattle.value.specs.ValueOrder.{value_cmp}
use Rattle.value.specs.Ordered.{AreAbove}
use Rattle.value.proofs.ValueOrders.{value_cmp_total}
use Rattle.value.proofs.OrderedLists.{AreAbove-below}
use Rattle.pages.specs.Parts.{own, AreRising, Leads}
use Rattle.pages.proofs.Parting.{greater_from}

-- no separator is above the key
abbrev pub NoneAbove : Value → List Value → Type 0
NoneAbove k [] = Unit {0}
NoneAbove k (s ∷ seps) = (is_lt (value_cmp k s) ≡ false) × NoneAbove k seps

above_front : (k : Value) (xs ys : List Value) → AreAbove value_cmp own k (xs ++ ys) → AreAbove value_cmp own k xs
above_front k [] ys a = tt
above_front k (x ∷ xs) ys a = (a.0, above_front k xs ys a.1)

above_back : (k : Value) (xs ys : List Value) → AreAbove value_cmp own k (xs ++ ys) → AreAbove value_cmp own k ys
above_back k [] ys a = a
above_back k (x ∷ xs) ys a = above_back k xs ys a.1

rising_front : (xs ys : List Value) → AreRising (xs ++ ys) → AreRising xs
rising_front [] ys s = tt
rising_front (x ∷ xs) ys s = (above_front x xs ys s.0, rising_front xs ys s.1)

rising_back : (xs ys : List Value) → AreRising (xs ++ ys) → AreRising ys
rising_back [] ys s = s
rising_back (x ∷ xs) ys s = rising_back xs ys s.1

pub rising_take : (n : ℕ) (seps : List Value) → AreRising seps → AreRising (take n seps)
rising_take n seps s = rising_front (take n seps) (drop n seps) (subst AreRising (sym (take-append-drop n seps)) s)

pub rising_drop : (n : ℕ) (seps : List Value) → AreRising seps → AreRising (drop n seps)
rising_drop n seps s = rising_back (take n seps) (drop n seps) (subst AreRising (sym (take-append-drop n seps)) s)

above_remove : (k : Value) (r : ℕ) (seps : List Value) → AreAbove value_cmp own k seps → AreAbove value_cmp own k (remove seps r)
above_remove k zero [] a = tt
above_remove k (suc r) [] a = tt
above_remove k zero (s ∷ seps) a = a.1
above_remove k (suc r) (s ∷ seps) a = (a.0, above_remove k r seps a.1)

pub rising_remove : (r : ℕ) (seps : List Value) → AreRising seps → AreRising (remove seps r)
rising_remove zero [] s = tt
rising_remove (suc r) [] s = tt
rising_remove zero (z ∷ seps) s = s.1
rising_remove (suc r) (z ∷ seps) s = (above_remove z r seps s.0, rising_remove r seps s.1)

pub above_insert : (k : Value) (r : ℕ) (seps : List Value) (key : Value) → value_cmp k key ≡ Less → AreAbove value_cmp own k seps → AreAbove value_cmp own k (insert seps r key)
above_insert k zero [] key h a = (h, tt)
above_insert k (suc r) [] key h a = (h, tt)
above_insert k zero (s ∷ seps) key h a = (h, a)
above_insert k (suc r) (s ∷ seps) key h a = (a.0, above_insert k r seps key h a.1)

-- at the key, or below it, where the next is above
pub less_past : (k x y : Value) → is_gt (value_cmp k x) ≡ false → value_cmp x y ≡ Less → value_cmp k y ≡ Less
less_past k x y g h =
    let case : (c : Ordering) → value_cmp k x ≡ c → is_gt c ≡ false → value_cmp k y ≡ Less = λ c. elim c as (λ c. value_cmp k x ≡ c → is_gt c ≡ false → value_cmp k y ≡ Less) [
      | Less ↦ λ e n. value_cmp_total.trans k x y e h
      | Equal ↦ λ e n. value_cmp_total.congr k x y e ∙ h
      | Greater ↦ λ e n. cc
    ]
    in case (value_cmp k x) refl g

pub rising_first : (key z : Value) (seps : List Value) → value_cmp key z ≡ Less → AreRising (z ∷ seps) → AreRising (key ∷ z ∷ seps)
rising_first key z seps h s = ((h, AreAbove-below value_cmp_total own key z seps h s.0), s)

-- a place up to which no separator is above the key, and from which on each is
pub leads_between : (k : Value) (seps : List Value) (i : ℕ) → i ≤ length seps → NoneAbove k (take i seps) → AreAbove value_cmp own k (drop i seps) → Leads k seps i
leads_between k [] zero h n a = refl
leads_between k [] (suc i) h n a = absurd (omega (arith, h))
leads_between k (s ∷ seps) zero h n a = a.0
leads_between k (s ∷ seps) (suc i) h n a = (n.0, leads_between k seps i (omega (arith, h)) n.1 a)

none_before : (k : Value) (xs : List Value) (s : Value) → is_lt (value_cmp k s) ≡ false → AreRising (xs ++ s ∷ []) → NoneAbove k (xs ++ s ∷ [])
none_before k [] s h r = (h, tt)
none_before k (x ∷ xs) s h r =
    let low : value_cmp x s ≡ Less = (above_back x xs (s ∷ []) r.0).0 in
    let back : value_cmp s x ≡ Greater = value_cmp_total.antisymm s x ∙ ap ordering_reverse low in
    (ap is_lt (greater_from k s x h back), none_before k xs s h r.1)

-- a separator that isn't above the key, and all before it; one above it, and all behind it
pub none_to : (k : Value) (seps : List Value) (i : ℕ) (s : Value) → i < length seps → s ≡ slice_index_or seps i s → AreRising seps → is_lt (value_cmp k s) ≡ false → NoneAbove k (take (i + 1) seps)
none_to k seps i s h e r n =
    let whole : take (i + 1) seps ≡ take i seps ++ s ∷ [] = take_more seps i s h ∙ ap (λ z. take i seps ++ z ∷ []) (sym e) in
    subst (NoneAbove k) (sym whole) (none_before k (take i seps) s n (subst AreRising whole (rising_take (i + 1) seps r)))

lt_less : (c : Ordering) → is_lt c ≡ true → c ≡ Less
lt_less Less h = refl
lt_less Equal h = cc
lt_less Greater h = cc

pub above_from : (k : Value) (seps : List Value) (i : ℕ) (s : Value) → i < length seps → s ≡ slice_index_or seps i s → AreRising seps → is_lt (value_cmp k s) ≡ true → AreAbove value_cmp own k (drop i seps)
above_from k seps i s h e r n =
    let less : value_cmp k s ≡ Less = lt_less (value_cmp k s) n in
    let rest : drop i seps ≡ s ∷ drop (i + 1) seps = drop_more seps i s h ∙ ap (λ z. z ∷ drop (i + 1) seps) (sym e) in
    let order : AreRising (s ∷ drop (i + 1) seps) = subst AreRising rest (rising_drop i seps r) in
    subst (AreAbove value_cmp own k) (sym rest) (less, AreAbove-below value_cmp_total own k s (drop (i + 1) seps) less order.0)

-- where a key belongs once a separator stands at its place
pub led_before : (k : Value) (seps : List Value) (r : ℕ) (key : Value) → is_lt (value_cmp k key) ≡ true → Leads k seps r → Leads k (insert seps r key) r
led_before k [] zero key h l = lt_less (value_cmp k key) h
led_before k [] (suc r) key h l = absurd (omega (arith, l))
led_before k (s ∷ seps) zero key h l = lt_less (value_cmp k key) h
led_before k (s ∷ seps) (suc r) key h l = (l.0, led_before k seps r key h l.1)

pub led_behind : (k : Value) (seps : List Value) (r : ℕ) (key : Value) → is_lt (value_cmp k key) ≡ false → Leads k seps r → Leads k (insert seps r key) (suc r)
led_behind k [] zero key h l = (h, refl)
led_behind k [] (suc r) key h l = absurd (omega (arith, l))
led_behind k (s ∷ seps) zero key h l = (h, l)
led_behind k (s ∷ seps) (suc r) key h l = (l.0, led_behind k seps r key h l.1)
