-- How many pairs of a key and a reader there are.
use Rattle.std.proofs.Common.{◌≡◌, ◌≢◌, ℕ, ◌+◌, Bool, true, false, cond, List, [], ◌∷◌, ◌++◌, Some, length, map, refl, sym, ap, ◌∙◌, subst, arith, inl, inr}
use Rattle.std.specs.Prelude.{unwrap_or, Contains, ◌&&◌, ◌==◌}
use Rattle.std.specs.List.{IsDistinct, AllByRecursion}
use Rattle.std.specs.Map.{lookup, keys_of, values_of}
use Rattle.std.proofs.lemmas.Bool.{and_right, both_ways, cases_Bool}
use Rattle.std.proofs.lemmas.List.{map-append}
use Rattle.std.proofs.lemmas.List.Elements.{Contains-append_left, Contains-append_right}
use Rattle.value.specs.declared.values.Value.{Value}
use Rattle.siread.specs.declared.keys.Family.{Family}
use Rattle.siread.specs.declared.keys.Family.TheVariants.{Rows, Column, Table}
use Rattle.siread.specs.declared.keys.LockKey.{LockKey}
use Rattle.siread.specs.declared.keys.LockKey.TheVariants.{Row as OneRow, Column as InColumn, Table as WholeTable}
use Rattle.siread.specs.Keys.{same_key, same_value}
use Rattle.siread.specs.Families.{HasEachOnce, ValueReaders, family_of, readers_in, readers_of, same_family, total, value_of}
use Rattle.siread.specs.Locks.{Locks, readers_at}
use Rattle.siread.proofs.KeyOrder.{same_family-true, same_family-refl, same_parts, same_value-true, same_value-refl}
use Rattle.siread.proofs.Greatest.{in_first, in_others}
use Rattle.siread.proofs.Members.{in_head, in_tail, in_map}

-- a test that tells all apart is the same from both sides
turned : {X : Type 0} (same : X → X → Bool) → ((a b : X) → same a b ≡ true → a ≡ b) → ((a : X) → same a a ≡ true) → (a b : X) → same a b ≡ same b a
turned same exact itself a b = elim (cases_Bool (same a b)) [
  | inl here ↦ here ∙ sym (subst (λ x. same x a ≡ true) (exact a b here) (itself a))
  | inr apart ↦ elim (cases_Bool (same b a)) [
    | inl there ↦ absurd (both_ways (same a b) apart (subst (λ x. same x b ≡ true) (exact b a there) (itself b)))
    | inr also ↦ apart ∙ sym also
  ]
]

value_turned : (v w : Value) → same_value v w ≡ same_value w v
value_turned v w = turned same_value same_value-true same_value-refl v w

family_turned : (f g : Family) → same_family f g ≡ same_family g f
family_turned f g = turned same_family same_family-true same_family-refl f g

-- an entry before changes nothing at other values
others : (e : Value × List ℕ) (es : ValueReaders) (vs : List Value) → AllByRecursion (λ v. same_value e.0 v ≡ false) vs
    → map (λ v. length (readers_of (e ∷ es) v)) vs ≡ map (λ v. length (readers_of es v)) vs
others e es [] h = refl
others e es (v ∷ vs) h =
    let there = ap (λ b. length (unwrap_or (cond b (Some e.1) (lookup (same_value v) es)) [])) (value_turned v e.0 ∙ h.0) in
    let rest = others e es vs h.1 in
    λ i. there i ∷ rest i

counted : (es : ValueReaders) → IsDistinct same_value (keys_of es) → total (map (λ v. length (readers_of es v)) (keys_of es)) ≡ total (map length (values_of es))
unfolding IsDistinct
counted [] d = refl
counted (e ∷ es) d =
    let here = ap (λ b. length (unwrap_or (cond b (Some e.1) (lookup (same_value e.0) es)) [])) (same_value-refl e.0) in
    let rest = ap total (others e es (keys_of es) d.0) ∙ counted es d.1 in
    λ i. here i + rest i

value_listed : (es : ValueReaders) (v : Value) → readers_of es v ≢ [] → Contains (keys_of es) v
value_listed [] v some = absurd (some refl)
value_listed (e ∷ es) v some = elim (cases_Bool (same_value v e.0)) [
  | inl same ↦ subst (λ u. Contains (u ∷ keys_of es) v) (same_value-true v e.0 same) (in_head v (keys_of es))
  | inr apart ↦
      let passed = ap (λ b. unwrap_or (cond b (Some e.1) (lookup (same_value v) es)) []) apart in
      in_tail e.0 (keys_of es) v (value_listed es v (λ none. some (passed ∙ none)))
]

-- the keys of a family, and of all
abbrev row_key : (table : ℕ) → Value → LockKey
row_key table v = OneRow (record { table = table; key = v })

abbrev keys_under : Family → ValueReaders → List LockKey
keys_under (Rows table) readers = map (row_key table) (keys_of readers)
keys_under (Column table column) readers = map (InColumn table column) (keys_of readers)
keys_under (Table table) readers = WholeTable table ∷ []

abbrev pub keys_in : Locks → List LockKey
keys_in [] = []
keys_in (e ∷ es) = keys_under e.0 e.1 ++ keys_in es

abbrev pub counted_in : Locks → ℕ
counted_in [] = 0
counted_in (e ∷ es) = readers_in e.0 e.1 + counted_in es

-- each family has its keys once
abbrev pub AreOnce : Locks → Type 0
AreOnce es = AllByRecursion (λ (e : Family × ValueReaders). HasEachOnce e.0 e.1) es

-- lists in general
all_map : {X Y : Type 0} (P : Y → Type 0) (f : X → Y) → ((x : X) → P (f x)) → (xs : List X) → AllByRecursion P (map f xs)
all_map P f h [] = tt
all_map P f h (x ∷ xs) = (h x, all_map P f h xs)

all_both : {X : Type 0} (P : X → Type 0) (xs ys : List X) → AllByRecursion P xs → AllByRecursion P ys → AllByRecursion P (xs ++ ys)
all_both P [] ys a b = b
all_both P (x ∷ xs) ys a b = (a.0, all_both P xs ys a.1 b)

all_weaker : {X : Type 0} (P Q : X → Type 0) → ((x : X) → P x → Q x) → (xs : List X) → AllByRecursion P xs → AllByRecursion Q xs
all_weaker P Q h [] a = tt
all_weaker P Q h (x ∷ xs) a = (h x a.0, all_weaker P Q h xs a.1)

map_same : {X Y : Type 0} (f g : X → Y) (xs : List X) → AllByRecursion (λ x. f x ≡ g x) xs → map f xs ≡ map g xs
map_same f g [] a = refl
map_same f g (x ∷ xs) a = let here = a.0 in let rest = map_same f g xs a.1 in λ i. here i ∷ rest i

map_map : {X Y Z : Type 0} (f : Y → Z) (g : X → Y) (xs : List X) → map f (map g xs) ≡ map (λ x. f (g x)) xs
map_map f g [] = refl
map_map f g (x ∷ xs) = ap (λ rest. f (g x) ∷ rest) (map_map f g xs)

total_both : (xs ys : List ℕ) → total (xs ++ ys) ≡ total xs + total ys
total_both [] ys = omega arith
total_both (x ∷ xs) ys = let rest = total_both xs ys in omega (arith, rest)

apart_map : {X Y : Type 0} (eq : X → X → Bool) (eq' : Y → Y → Bool) (f : X → Y) → ((a b : X) → eq a b ≡ false → eq' (f a) (f b) ≡ false)
    → (x : X) (xs : List X) → AllByRecursion (λ y. eq x y ≡ false) xs → AllByRecursion (λ z. eq' (f x) z ≡ false) (map f xs)
apart_map eq eq' f h x [] a = tt
apart_map eq eq' f h x (y ∷ xs) a = (h x y a.0, apart_map eq eq' f h x xs a.1)

distinct_map : {X Y : Type 0} (eq : X → X → Bool) (eq' : Y → Y → Bool) (f : X → Y) → ((a b : X) → eq a b ≡ false → eq' (f a) (f b) ≡ false)
    → (xs : List X) → IsDistinct eq xs → IsDistinct eq' (map f xs)
unfolding IsDistinct
distinct_map eq eq' f h [] d = tt
distinct_map eq eq' f h (x ∷ xs) d = (apart_map eq eq' f h x xs d.0, distinct_map eq eq' f h xs d.1)

distinct_both : {X : Type 0} (eq : X → X → Bool) (xs ys : List X) → IsDistinct eq xs → IsDistinct eq ys → AllByRecursion (λ x. AllByRecursion (λ y. eq x y ≡ false) ys) xs → IsDistinct eq (xs ++ ys)
unfolding IsDistinct
distinct_both eq [] ys d e apart = e
distinct_both eq (x ∷ xs) ys d e apart = (all_both (λ y. eq x y ≡ false) xs ys d.0 apart.0, distinct_both eq xs ys d.1 e apart.1)

-- one family
of_family : (family : Family) (readers : ValueReaders) → AllByRecursion (λ key. family_of key ≡ family) (keys_under family readers)
of_family (Rows table) readers = all_map (λ key. family_of key ≡ Rows table) (row_key table) (λ v. refl) (keys_of readers)
of_family (Column table column) readers = all_map (λ key. family_of key ≡ Column table column) (InColumn table column) (λ v. refl) (keys_of readers)
of_family (Table table) readers = (refl, tt)

once_under : (family : Family) (readers : ValueReaders) → HasEachOnce family readers → IsDistinct same_key (keys_under family readers)
unfolding IsDistinct
once_under (Rows table) readers d = distinct_map same_value same_key (row_key table) (λ a b h. and_right (table == table) (same_value a b) h) (keys_of readers) d
once_under (Column table column) readers d =
    distinct_map same_value same_key (InColumn table column)
    (λ a b h. and_right (table == table) ((column == column) && same_value a b) (and_right (column == column) (same_value a b) h)) (keys_of readers) d
once_under (Table table) readers d = (tt, tt)

counted_under : (family : Family) (readers : ValueReaders) → HasEachOnce family readers
    → total (map (λ key. length (readers_of readers (value_of key))) (keys_under family readers)) ≡ readers_in family readers
counted_under (Rows table) readers d = ap total (map_map (λ key. length (readers_of readers (value_of key))) (row_key table) (keys_of readers)) ∙ counted readers d
counted_under (Column table column) readers d = ap total (map_map (λ key. length (readers_of readers (value_of key))) (InColumn table column) (keys_of readers)) ∙ counted readers d
counted_under (Table table) readers d = omega arith

listed_under : (key : LockKey) (readers : ValueReaders) → readers_of readers (value_of key) ≢ [] → Contains (keys_under (family_of key) readers) key
listed_under (OneRow place) readers some = in_map (row_key place.table) (keys_of readers) place.key (value_listed readers place.key some)
listed_under (InColumn table column value) readers some = in_map (InColumn table column) (keys_of readers) value (value_listed readers value some)
listed_under (WholeTable table) readers some = in_head (WholeTable table) []

-- one family more
families_apart : (family : Family) (es : Locks) → AllByRecursion (λ other. same_family family other ≡ false) (keys_of es)
    → AllByRecursion (λ key. same_family family (family_of key) ≡ false) (keys_in es)
families_apart family [] a = tt
families_apart family (e ∷ es) a =
    all_both (λ key. same_family family (family_of key) ≡ false) (keys_under e.0 e.1) (keys_in es)
    (all_weaker (λ key. family_of key ≡ e.0) (λ key. same_family family (family_of key) ≡ false) (λ key is. ap (same_family family) is ∙ a.0) (keys_under e.0 e.1) (of_family e.0 e.1))
    (families_apart family es a.1)

pub once_in : (es : Locks) → IsDistinct same_family (keys_of es) → AreOnce es → IsDistinct same_key (keys_in es)
unfolding IsDistinct
once_in [] d once = tt
once_in (e ∷ es) d once =
    distinct_both same_key (keys_under e.0 e.1) (keys_in es) (once_under e.0 e.1 once.0) (once_in es d.1 once.1)
    (all_weaker (λ key. family_of key ≡ e.0) (λ key. AllByRecursion (λ other. same_key key other ≡ false) (keys_in es))
    (λ key is. all_weaker (λ other. same_family e.0 (family_of other) ≡ false) (λ other. same_key key other ≡ false)
    (λ other apart. same_parts key other ∙ ap (λ b. b && same_value (value_of key) (value_of other)) (ap (λ f. same_family f (family_of other)) is ∙ apart))
    (keys_in es) (families_apart e.0 es d.0))
    (keys_under e.0 e.1) (of_family e.0 e.1))

pub all_listed : (es : Locks) (key : LockKey) → readers_at es key ≢ [] → Contains (keys_in es) key
all_listed [] key some = absurd (some refl)
all_listed (e ∷ es) key some = elim (cases_Bool (same_family (family_of key) e.0)) [
  | inl same ↦ Contains-append_left (keys_under e.0 e.1) (keys_in es) key
      (subst (λ family. Contains (keys_under family e.1) key) (same_family-true (family_of key) e.0 same)
      (listed_under key e.1 (λ none. some (ap (λ readers. readers_of readers (value_of key)) (in_first e es (family_of key) same) ∙ none))))
  | inr apart ↦ Contains-append_right (keys_under e.0 e.1) (keys_in es) key
      (all_listed es key (λ none. some (ap (λ readers. readers_of readers (value_of key)) (in_others e es (family_of key) apart) ∙ none)))
]

pub all_counted : (es : Locks) → IsDistinct same_family (keys_of es) → AreOnce es → total (map (λ key. length (readers_at es key)) (keys_in es)) ≡ counted_in es
unfolding IsDistinct
all_counted [] d once = refl
all_counted (e ∷ es) d once =
    let size : LockKey → ℕ = λ key. length (readers_at (e ∷ es) key) in
    let inside = map_same size (λ key. length (readers_of e.1 (value_of key))) (keys_under e.0 e.1)
    (all_weaker (λ key. family_of key ≡ e.0) (λ key. size key ≡ length (readers_of e.1 (value_of key)))
    (λ key is. ap (λ readers. length (readers_of readers (value_of key))) (in_first e es (family_of key) (subst (λ f. same_family f e.0 ≡ true) (sym is) (same_family-refl e.0))))
    (keys_under e.0 e.1) (of_family e.0 e.1)) in
    let beside = map_same size (λ key. length (readers_at es key)) (keys_in es)
    (all_weaker (λ key. same_family e.0 (family_of key) ≡ false) (λ key. size key ≡ length (readers_at es key))
    (λ key apart. ap (λ readers. length (readers_of readers (value_of key))) (in_others e es (family_of key) (family_turned (family_of key) e.0 ∙ apart)))
    (keys_in es) (families_apart e.0 es d.0)) in
    ap total (map-append size (keys_under e.0 e.1) (keys_in es))
    ∙ total_both (map size (keys_under e.0 e.1)) (map size (keys_in es))
    ∙ (λ i. total (inside i) + total (beside i))
    ∙ (let first = counted_under e.0 e.1 once.0 in let rest = all_counted es d.1 once.1 in λ i. first i + rest i)
