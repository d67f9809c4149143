-- The order of keys tells all keys apart, and says that two are equal where `same_key` does.
use Rattle.std.proofs.Common.{◌≡◌, ℕ, true, refl, sym, ap, ◌∙◌, subst, inl, inr, eqb-true, eq-eqb}
use Rattle.std.specs.Prelude.{◌&&◌, ◌==◌}
use Rattle.std.specs.Ordering.{is_eq, nat_cmp, ordering_then}
use Rattle.std.specs.declared.cmp.Ordering.{Ordering}
use Rattle.std.specs.declared.cmp.Ordering.TheVariants.{Less, Equal, Greater}
use Rattle.std.specs.Cmp.{unsigned_tied}
use Rattle.std.proofs.lemmas.Bool.{and_parts, and_from, cases_Bool, both_ways}
use Rattle.std.proofs.lemmas.Cmp.{tied_itself}
use Rattle.std.proofs.Math.Bool.{and_assoc, and-true}
use Rattle.value.specs.declared.values.Value.{Value}
use Rattle.value.specs.ValueOrder.{value_cmp}
use Rattle.value.specs.contracts.values.ValueOrd.TheImpl.{cmp-value as value_order}
use Rattle.value.proofs.OrderedLists.{equal_from}
use Rattle.value.proofs.ValueOrders.{derived-value_cmp, value_exact, value_cmp_total}
use Rattle.siread.specs.declared.keys.Place.{Place}
use Rattle.siread.specs.declared.keys.LockKey.{LockKey}
use Rattle.siread.specs.declared.keys.LockKey.TheVariants.{Row as OneRow, Column as InColumn, Table as WholeTable}
use Rattle.siread.specs.declared.keys.Family.{Family}
use Rattle.siread.specs.declared.keys.Family.TheVariants.{Rows, Column, Table}
use Rattle.siread.specs.Keys.{same_value, same_place, same_key}
use Rattle.siread.specs.Families.{family_of, same_family, value_of}
use Rattle.siread.specs.contracts.keys.FamilyOrd.TheImpl.{cmp-value as family_order}

is_eq-then : (a b : Ordering) → is_eq (ordering_then a b) ≡ (is_eq a && is_eq b)
is_eq-then Less b = refl
is_eq-then Equal b = refl
is_eq-then Greater b = refl

is_eq-nat : (a b : ℕ) → is_eq (nat_cmp a b) ≡ (a == b)
is_eq-nat a b = unsigned_tied a b

pub is_eq-value : (v w : Value) → is_eq (value_order.it v w) ≡ same_value v w
is_eq-value v w = ap is_eq (derived-value_cmp v w)

pub is_eq-family : (a b : Family) → is_eq (family_order.it a b) ≡ same_family a b
is_eq-family (Rows t) (Rows u) = is_eq-nat t u
is_eq-family (Rows t) (Column u d) = refl
is_eq-family (Rows t) (Table u) = refl
is_eq-family (Column t c) (Rows u) = refl
is_eq-family (Column t c) (Column u d) = is_eq-then (nat_cmp t u) (nat_cmp c d) ∙ (λ i. is_eq-nat t u i && is_eq-nat c d i)
is_eq-family (Column t c) (Table u) = refl
is_eq-family (Table t) (Rows u) = refl
is_eq-family (Table t) (Column u d) = refl
is_eq-family (Table t) (Table u) = is_eq-nat t u

-- two values, places or keys are the same exactly where they are one
pub same_value-true : (v w : Value) → same_value v w ≡ true → v ≡ w
same_value-true v w h = value_exact v w (equal_from (value_cmp v w) h)

pub same_value-refl : (v : Value) → same_value v v ≡ true
same_value-refl v = ap is_eq (tied_itself value_cmp_total v)

pub same_place-true : (a b : Place) → same_place a b ≡ true → a ≡ b
same_place-true a b h =
    let p = and_parts (a.table == b.table) (same_value a.key b.key) h in
    let table = eqb-true a.table b.table p.0 in
    let key = same_value-true a.key b.key p.1 in
    λ i. record { table = table i; key = key i }

pub same_place-refl : (a : Place) → same_place a a ≡ true
same_place-refl a = and_from (a.table == a.table) (same_value a.key a.key) (eq-eqb a.table a.table refl) (same_value-refl a.key)

pub same_key-true : (a b : LockKey) → same_key a b ≡ true → a ≡ b
same_key-true (OneRow a) (OneRow b) h = ap OneRow (same_place-true a b h)
same_key-true (OneRow a) (InColumn u d w) h = cc
same_key-true (OneRow a) (WholeTable u) h = cc
same_key-true (InColumn t c v) (OneRow b) h = cc
same_key-true (InColumn t c v) (InColumn u d w) h =
    let p = and_parts (t == u) ((c == d) && same_value v w) h in
    let q = and_parts (c == d) (same_value v w) p.1 in
    let et = eqb-true t u p.0 in
    let ec = eqb-true c d q.0 in
    let ev = same_value-true v w q.1 in
    λ i. InColumn (et i) (ec i) (ev i)
same_key-true (InColumn t c v) (WholeTable u) h = cc
same_key-true (WholeTable t) (OneRow b) h = cc
same_key-true (WholeTable t) (InColumn u d w) h = cc
same_key-true (WholeTable t) (WholeTable u) h = ap WholeTable (eqb-true t u h)

pub same_key-refl : (a : LockKey) → same_key a a ≡ true
same_key-refl (OneRow a) = same_place-refl a
same_key-refl (InColumn t c v) = and_from (t == t) ((c == c) && same_value v v) (eq-eqb t t refl) (and_from (c == c) (same_value v v) (eq-eqb c c refl) (same_value-refl v))
same_key-refl (WholeTable t) = eq-eqb t t refl

pub same_key-turned : (a b : LockKey) → same_key a b ≡ same_key b a
same_key-turned a b = elim (cases_Bool (same_key a b)) [
  | inl same ↦ same ∙ sym (subst (λ k. same_key k a ≡ true) (same_key-true a b same) (same_key-refl a))
  | inr apart ↦ elim (cases_Bool (same_key b a)) [
    | inl turned ↦ absurd (both_ways (same_key a b) apart (subst (λ k. same_key k b ≡ true) (same_key-true b a turned) (same_key-refl b)))
    | inr also ↦ apart ∙ sym also
  ]
]

pub same_family-true : (a b : Family) → same_family a b ≡ true → a ≡ b
same_family-true (Rows t) (Rows u) h = ap Rows (eqb-true t u h)
same_family-true (Rows t) (Column u d) h = cc
same_family-true (Rows t) (Table u) h = cc
same_family-true (Column t c) (Rows u) h = cc
same_family-true (Column t c) (Column u d) h =
    let p = and_parts (t == u) (c == d) h in
    let et = eqb-true t u p.0 in
    let ec = eqb-true c d p.1 in
    λ i. Column (et i) (ec i)
same_family-true (Column t c) (Table u) h = cc
same_family-true (Table t) (Rows u) h = cc
same_family-true (Table t) (Column u d) h = cc
same_family-true (Table t) (Table u) h = ap Table (eqb-true t u h)

pub same_family-refl : (a : Family) → same_family a a ≡ true
same_family-refl (Rows t) = eq-eqb t t refl
same_family-refl (Column t c) = and_from (t == t) (c == c) (eq-eqb t t refl) (eq-eqb c c refl)
same_family-refl (Table t) = eq-eqb t t refl

-- two keys are the same where they are of one family, under one value
pub same_parts : (a b : LockKey) → same_key a b ≡ (same_family (family_of a) (family_of b) && same_value (value_of a) (value_of b))
same_parts (OneRow a) (OneRow b) = refl
same_parts (OneRow a) (InColumn u d w) = refl
same_parts (OneRow a) (WholeTable u) = refl
same_parts (InColumn t c v) (OneRow b) = refl
same_parts (InColumn t c v) (InColumn u d w) = sym (and_assoc (t == u) (c == d) (same_value v w))
same_parts (InColumn t c v) (WholeTable u) = refl
same_parts (WholeTable t) (OneRow b) = refl
same_parts (WholeTable t) (InColumn u d w) = refl
same_parts (WholeTable t) (WholeTable u) = sym (and-true (t == u))
