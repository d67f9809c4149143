-- What the tests of a row find out.
use Rattle.std.proofs.Common.{◌≡◌, ◌≤◌, ℕ, Bool, true, false, List, [], ◌∷◌, length, Option, Some, None, refl, arith}
use Rattle.std.proofs.lemmas.Bool.Decides.{nat_tests}
use Rattle.std.specs.Prelude.{◌^◌, nat_le, unsigned_abs, if◌then◌else◌}
use Rattle.std.proofs.lemmas.Bool.{and_parts}
use Rattle.std.specs.Option.{option_or}
use Rattle.value.specs.declared.values.Value.{Value}
use Rattle.value.specs.declared.values.Value.TheVariants.{Null, Int, Text}
use Rattle.value.specs.declared.values.ColType.{ColType}
use Rattle.value.specs.declared.values.ColType.TheVariants.{Integer, Varchar}
use Rattle.value.specs.declared.refusals.Refusal.{Refusal}
use Rattle.value.specs.Texts.{character_count}
use Rattle.table.specs.declared.schemas.Column.{Column}
use Rattle.table.specs.Rows.{RowValues, FitsText, FitsColumn, FitsColumns}
use Rattle.table.specs.Faults.{is_typed, are_typed, text_fault, fault_in, row_fault}

-- values of another number are none of the types
pub are_typed-length : (cs : List Column) (vs : RowValues) → are_typed cs vs ≡ true → length vs ≡ length cs
are_typed-length [] [] h = refl
are_typed-length [] (v ∷ vs) h = cc
are_typed-length (c ∷ cs) [] h = cc
are_typed-length (c ∷ cs) (v ∷ vs) h = omega (arith, are_typed-length cs vs (and_parts (is_typed c.kind v) (are_typed cs vs) h).1)

-- no fault where a test has failed
no_fault : (b : Bool) (refusal : Refusal) → (if b then None else Some refusal) ≡ None → b ≡ true
no_fault true r h = refl
no_fault false r h = cc

-- a first of two faults that is none is none of both
option_or-none : (a b : Option Refusal) → option_or a b ≡ None → (a ≡ None) × (b ≡ None)
option_or-none None b h = (refl, h)
option_or-none (Some r) b h = cc

le_from : (m n : ℕ) → nat_le m n ≡ true → m ≤ n
le_from m n h = grind (arith, nat_tests)

text_fits : (name : List ℕ) (kind : ColType) (bytes : List ℕ) → is_typed kind (Text bytes) ≡ true → text_fault name kind bytes ≡ None → FitsText kind bytes
text_fits name Integer bytes t h = cc
text_fits name (Varchar most) bytes t h = (le_from (character_count bytes) most (no_fault (nat_le (character_count bytes) most) _ h), t)

-- a value of the column's type, without fault, fits the column
value_fits : (c : Column) (v : Value) → is_typed c.kind v ≡ true → fault_in c v ≡ None → FitsColumn c v
value_fits c Null t h = no_fault c.nullable _ h
value_fits c (Int n) t h = (number_kind c.kind t, le_from (unsigned_abs n) (10 ^ 15) (no_fault (nat_le (unsigned_abs n) (10 ^ 15)) _ h))
  where
    number_kind : (kind : ColType) → is_typed kind (Int n) ≡ true → kind ≡ Integer
    number_kind Integer t = refl
    number_kind (Varchar most) t = cc
value_fits c (Text bytes) t h = text_fits c.name c.kind bytes t h

-- values of the types, without fault, fit the columns
pub FitsColumns-of : (cs : List Column) (vs : RowValues) → are_typed cs vs ≡ true → row_fault cs vs ≡ None → FitsColumns cs vs
FitsColumns-of [] [] t h = tt
FitsColumns-of [] (v ∷ vs) t h = cc
FitsColumns-of (c ∷ cs) [] t h = cc
FitsColumns-of (c ∷ cs) (v ∷ vs) t h =
    let typed = and_parts (is_typed c.kind v) (are_typed cs vs) t in
    let faultless = option_or-none (fault_in c v) (row_fault cs vs) h in
    (value_fits c v typed.0 faultless.0, FitsColumns-of cs vs typed.1 faultless.1)
