-- The multiset as a value comes or goes.
use Rattle.std.proofs.Common.{◌≡◌, ℕ, ◌+◌, ◌-◌, ◌<◌, ◌^◌, Bool, true, false, cond, List, Option, Some, None, refl, sym, ◌∙◌, ap, arith}
use Rattle.std.specs.Prelude.{◌==◌, ◌&&◌, All, map, if◌then◌else◌, unwrap_or}
use Rattle.std.specs.Option.{option_map}
use Rattle.std.proofs.Math.Nat.{min-eq_left}
use Rattle.std.proofs.lemmas.Bool.Decides.{nat_tests}
use Rattle.std.specs.Ordering.{eq_by_cmp}
use Rattle.value.specs.declared.values.Value.{Value}
use Rattle.value.specs.declared.values.Value.TheVariants.{Null, Int, Text}
use Rattle.value.specs.ValueOrder.{value_cmp}
use Rattle.value.specs.Ordered.{IsAscending, at, put, HasKey, HoldsOf}
use Rattle.value.proofs.ValueOrders.{value_cmp_total, value_exact}
use Rattle.value.proofs.OrderedLists.{at-put, IsAscending-put, All-put, equal_from}
use Rattle.table.specs.Aggregates.{is_there}
use Rattle.pages.specs.Reach.{key_of, value_of as number_of, entry_of}
use Rattle.groups.proofs.Carried.{at-made, put-made}
use Rattle.groups.specs.Counts.{Count, count_from, value_of, count_in, count_at, count_of, count_entry, put_count, one_up, counts_with}

entry-key : (v : Value) (n : ℕ) → HasKey value_cmp value_of v (count_entry v n)
entry-key v n = elim (n == 0) as (λ b. HasKey value_cmp value_of v (if b then None else Some (record { value = v; count = n }))) [ true ↦ tt | false ↦ refl ]

zero_from : (n : ℕ) → (n == 0) ≡ true → 0 ≡ n
zero_from n e = grind (arith, nat_tests)

some_from : (n : ℕ) → (n == 0) ≡ false → 0 < n
some_from n e = grind (arith, nat_tests)

entry-count : (v : Value) (n : ℕ) → count_in (count_entry v n) ≡ n
entry-count v n =
    let none : Option Count = None in
    let case : (b : Bool) → (n == 0) ≡ b → count_in (if b then none else Some (record { value = v; count = n })) ≡ n = λ b. elim b as (λ b. (n == 0) ≡ b → count_in (if b then none else Some (record { value = v; count = n })) ≡ n) [ true ↦ λ e. zero_from n e | false ↦ λ e. refl ]
    in case (n == 0) refl

entry-positive : (v : Value) (n : ℕ) → HoldsOf (λ (c : Count). 0 < c.count) (count_entry v n)
entry-positive v n =
    let case : (b : Bool) → (n == 0) ≡ b → HoldsOf (λ (c : Count). 0 < c.count) (if b then None else Some (record { value = v; count = n })) = λ b. elim b as (λ b. (n == 0) ≡ b → HoldsOf (λ (c : Count). 0 < c.count) (if b then None else Some (record { value = v; count = n }))) [ true ↦ λ e. tt | false ↦ λ e. some_from n e ]
    in case (n == 0) refl

-- the counts after one is set
pub count_at-put : (v : Value) (n : ℕ) (cs : List Count) → IsAscending value_cmp value_of cs → (w : Value) → count_at w (put_count v n cs) ≡ cond (eq_by_cmp value_cmp w v) n (count_at w cs)
count_at-put v n cs s w =
    ap count_in (at-put value_cmp_total value_of v (count_entry v n) cs (entry-key v n) s w)
    ∙ elim (eq_by_cmp value_cmp w v) as (λ b. count_in (cond b (count_entry v n) (at value_cmp value_of w cs)) ≡ cond b n (count_at w cs)) [ true ↦ entry-count v n | false ↦ refl ]

put_count-ordered : (v : Value) (n : ℕ) (cs : List Count) → IsAscending value_cmp value_of cs → IsAscending value_cmp value_of (put_count v n cs)
put_count-ordered v n cs s = IsAscending-put value_cmp_total value_of v (count_entry v n) cs (entry-key v n) s

put_count-positive : (v : Value) (n : ℕ) (cs : List Count) → All (λ (c : Count). 0 < c.count) cs → All (λ (c : Count). 0 < c.count) (put_count v n cs)
put_count-positive v n cs h = All-put value_cmp value_of (λ (c : Count). 0 < c.count) v (count_entry v n) cs (entry-positive v n) h

-- the count at a value after it is set from what it was
set_count : (f : ℕ → ℕ) (v : Value) (cs : List Count) → IsAscending value_cmp value_of cs → (w : Value) → count_at w (put_count v (f (count_at v cs)) cs) ≡ cond (eq_by_cmp value_cmp w v) (f (count_at w cs)) (count_at w cs)
set_count f v cs s w =
    let case : (b : Bool) → eq_by_cmp value_cmp w v ≡ b → cond b (f (count_at v cs)) (count_at w cs) ≡ cond b (f (count_at w cs)) (count_at w cs) = λ b. elim b as (λ b. eq_by_cmp value_cmp w v ≡ b → cond b (f (count_at v cs)) (count_at w cs) ≡ cond b (f (count_at w cs)) (count_at w cs)) [
      | true ↦ λ h. ap (λ u. f (count_at u cs)) (sym (value_exact w v (equal_from (value_cmp w v) h)))
      | false ↦ λ h. refl
    ]
    in count_at-put v (f (count_at v cs)) cs s w ∙ case (eq_by_cmp value_cmp w v) refl

-- one more is so below the largest number
pub one_up-small : (n : ℕ) → n < 2 ^ 63 → one_up n ≡ n + 1
one_up-small n h = min-eq_left (omega (arith, h))

-- the number of a value that is there
pub count_of-there : (x : Value) (cs : List Count) → is_there x ≡ true → count_of x cs ≡ count_at x cs
count_of-there Null cs t = cc
count_of-there (Int n) cs t = refl
count_of-there (Text s) cs t = refl

-- the counts with a value once more, or once less
abbrev pub counts_more : Value → List Count → List Count
counts_more v cs = counts_with v (one_up (count_of v cs)) cs

abbrev pub counts_less : Value → List Count → List Count
counts_less v cs = counts_with v (count_of v cs - 1) cs

pub counts_more-at : (x : Value) (cs : List Count) → IsAscending value_cmp value_of cs → (v : Value) → count_at v (counts_more x cs) ≡ cond (is_there x && eq_by_cmp value_cmp v x) (one_up (count_at v cs)) (count_at v cs)
counts_more-at Null cs s v = refl
counts_more-at (Int n) cs s v = set_count one_up (Int n) cs s v
counts_more-at (Text t) cs s v = set_count one_up (Text t) cs s v

pub counts_less-at : (x : Value) (cs : List Count) → IsAscending value_cmp value_of cs → (v : Value) → count_at v (counts_less x cs) ≡ cond (is_there x && eq_by_cmp value_cmp v x) (count_at v cs - 1) (count_at v cs)
counts_less-at Null cs s v = refl
counts_less-at (Int n) cs s v = set_count (λ m. m - 1) (Int n) cs s v
counts_less-at (Text t) cs s v = set_count (λ m. m - 1) (Text t) cs s v

pub counts_more-ordered : (x : Value) (cs : List Count) → IsAscending value_cmp value_of cs → IsAscending value_cmp value_of (counts_more x cs)
counts_more-ordered Null cs s = s
counts_more-ordered (Int n) cs s = put_count-ordered (Int n) (one_up (count_at (Int n) cs)) cs s
counts_more-ordered (Text t) cs s = put_count-ordered (Text t) (one_up (count_at (Text t) cs)) cs s

pub counts_less-ordered : (x : Value) (cs : List Count) → IsAscending value_cmp value_of cs → IsAscending value_cmp value_of (counts_less x cs)
counts_less-ordered Null cs s = s
counts_less-ordered (Int n) cs s = put_count-ordered (Int n) (count_at (Int n) cs - 1) cs s
counts_less-ordered (Text t) cs s = put_count-ordered (Text t) (count_at (Text t) cs - 1) cs s

pub counts_more-positive : (x : Value) (cs : List Count) → All (λ (c : Count). 0 < c.count) cs → All (λ (c : Count). 0 < c.count) (counts_more x cs)
counts_more-positive Null cs h = h
counts_more-positive (Int n) cs h = put_count-positive (Int n) (one_up (count_at (Int n) cs)) cs h
counts_more-positive (Text t) cs h = put_count-positive (Text t) (one_up (count_at (Text t) cs)) cs h

pub counts_less-positive : (x : Value) (cs : List Count) → All (λ (c : Count). 0 < c.count) cs → All (λ (c : Count). 0 < c.count) (counts_less x cs)
counts_less-positive Null cs h = h
counts_less-positive (Int n) cs h = put_count-positive (Int n) (count_at (Int n) cs - 1) cs h
counts_less-positive (Text t) cs h = put_count-positive (Text t) (count_at (Text t) cs - 1) cs h

-- the number of a value, and the counts after one is put
pub count_at-entry : (v : Value) (es : List (Value × ℕ)) → unwrap_or (option_map number_of (at value_cmp key_of v es)) 0 ≡ count_at v (map count_from es)
count_at-entry v es = alike (at value_cmp key_of v es) ∙ ap count_in (at-made count_from value_of (λ e. refl) v es)
  where
    alike : (o : Option (Value × ℕ)) → unwrap_or (option_map number_of o) 0 ≡ count_in (option_map count_from o)
    alike None = refl
    alike (Some e) = refl

pub put_count-entry : (v : Value) (n : ℕ) (es : List (Value × ℕ)) → map count_from (put value_cmp key_of v (entry_of v (if n == 0 then None else Some n)) es) ≡ put_count v n (map count_from es)
put_count-entry v n es = put-made count_from value_of (λ e. refl) v (if n == 0 then None else Some n) es ∙ ap (λ o. put value_cmp value_of v o (map count_from es)) (alike (n == 0))
  where
    alike : (b : Bool) → option_map (λ m. count_from (v, m)) (if b then None else Some n) ≡ (if b then None else Some (record { value = v; count = n }))
    alike true = refl
    alike false = refl
