-- The test finds a transaction that is open.
use Rattle.std.proofs.Common.{◌≡◌, ℕ, suc, Bool, true, false, ◌==◌, List, [], ◌∷◌, arith, refl, inl, inr}
use Rattle.std.specs.Prelude.{◌&&◌, Contains}
use Rattle.std.specs.Bool.{beq}
use Rattle.std.specs.List.{list_any}
use Rattle.std.proofs.lemmas.Bool.{and_parts, eqb-true, or_cases}
use Rattle.conflict.specs.declared.open_snapshots.LiveSnapshot.{LiveSnapshot}
use Rattle.conflict.specs.Held.{is_held, is_one}

same_one : (begin_number snapshot : ℕ) (read_only : Bool) (one : LiveSnapshot) → is_one begin_number snapshot read_only one ≡ true
    → one ≡ record { begin_number = begin_number; snapshot = snapshot; read_only = read_only }
same_one begin_number snapshot read_only one h =
    let parts = and_parts (one.begin_number == begin_number) ((one.snapshot == snapshot) && beq one.read_only read_only) h in
    let more = and_parts (one.snapshot == snapshot) (beq one.read_only read_only) parts.1 in
    let t : one.begin_number ≡ begin_number = eqb-true one.begin_number begin_number parts.0 in
    let s : one.snapshot ≡ snapshot = eqb-true one.snapshot snapshot more.0 in
    let r : one.read_only ≡ read_only = same_bool one.read_only read_only more.1 in
    λ i. record { begin_number = t i; snapshot = s i; read_only = r i }
  where
    same_bool : (a b : Bool) → beq a b ≡ true → a ≡ b
    same_bool true true e = refl
    same_bool true false e = let no : ⊥ = cc in absurd no
    same_bool false true e = let no : ⊥ = cc in absurd no
    same_bool false false e = refl

pub held_facts : (begin_number snapshot : ℕ) (read_only : Bool) (xs : List LiveSnapshot) → is_held begin_number snapshot read_only xs ≡ true
    → Contains xs (record { begin_number = begin_number; snapshot = snapshot; read_only = read_only })
held_facts begin_number snapshot read_only [] h = let no : ⊥ = cc in absurd no
held_facts begin_number snapshot read_only (x ∷ xs) h = elim (or_cases (is_one begin_number snapshot read_only x) (list_any (is_one begin_number snapshot read_only) xs) h) [
  | inl one ↦ (0, omega arith, same_one begin_number snapshot read_only x one)
  | inr there ↦ let m = held_facts begin_number snapshot read_only xs there in (suc m.0, omega (arith, m.1), m.2)
]
