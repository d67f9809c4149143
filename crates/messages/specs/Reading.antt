-- What stands in front of bytes: a field and the bytes behind it, or nothing where they are too few or of no kind.
use Rattle.std.specs.Prelude.{◌≡◌, ℕ, zero, suc, ℤ, pos, negsuc, ◌-◌, List, [], ◌∷◌, length, take, drop, Option, Some, None, Result, Ok, Err, nat_lt, ◌==◌, if◌then◌else◌}
use Rattle.std.specs.Int.{w64, from_le_bytes}
use Rattle.std.specs.Str.Parse.{signed_digits_value}
use Rattle.value.specs.declared.values.Value.{Value}
use Rattle.value.specs.declared.values.Value.TheVariants.{Null, Int, Text}
use Rattle.messages.specs.declared.faults.FieldFault.{FieldFault}
use Rattle.messages.specs.declared.faults.FieldFault.TheVariants.{NoMemory, Malformed}

infixl 10 ◌>>=◌
-- one field behind another, if the first is there
abbrev pub ◌>>=◌ : {A B : Type 0} → Option A → (A → Option B) → Option B
(Some x) >>= f = f x
None >>= f = None

-- What a function returned, seen by view, is what is read, unless memory ran out.
abbrev pub Fails : {Y : Type 0} → FieldFault → Option Y → Type 0
Fails NoMemory read = Unit {0}
Fails Malformed read = read ≡ None

-- what a function returned is what is read: the value as `view` sees it, or a fault
abbrev pub Gives : {X Y : Type 0} → (X → Y) → Result X FieldFault → Option Y → Type 0
Gives view (Ok x) read = read ≡ Some (view x)
Gives view (Err fault) read = Fails fault read

-- a number, in eight bytes, the lowest first
abbrev pub number_at : List ℕ → Option (ℕ × List ℕ)
number_at bytes = if nat_lt (length bytes) 8 then None else Some (from_le_bytes w64 (take 8 bytes), drop 8 bytes)

-- a text: how many bytes, and these
unfoldable pub text_at : List ℕ → Option (List ℕ × List ℕ)
text_at bytes = do
  n ← number_at bytes
  if nat_lt (length n.1) n.0 then None else Some (take n.0 n.1, drop n.0 n.1)

-- in two's complement
abbrev pub signed_number : ℕ → ℤ
signed_number bits = if nat_lt 9223372036854775807 bits then negsuc (18446744073709551615 - bits) else pos bits

-- by the byte of its kind
unfoldable pub value_at : List ℕ → Option (Value × List ℕ)
value_at [] = None
value_at (zero ∷ rest) = Some (Null, rest)
value_at (suc zero ∷ rest) = do
  n ← number_at rest
  Some (Int (signed_number n.0), n.1)
value_at (suc (suc zero) ∷ rest) = do
  t ← text_at rest
  Some (Text t.0, t.1)
value_at (suc (suc (suc b)) ∷ rest) = None

-- a number past 64 bits, by its decimal digits
unfoldable pub large_number_at : List ℕ → Option (Value × List ℕ)
large_number_at bytes = do
  digits ← text_at bytes
  Some (Int (signed_digits_value 10 digits.0), digits.1)

-- a value of a listed row, by the byte of its kind
unfoldable pub listed_value_at : List ℕ → Option (Value × List ℕ)
listed_value_at [] = None
listed_value_at (b ∷ rest) = if b == 5 then large_number_at rest else value_at (b ∷ rest)

-- so many fields of a kind, one behind the other
unfoldable pub many_in : {A : Type 0} → (List ℕ → Option (A × List ℕ)) → ℕ → List ℕ → Option (List A × List ℕ)
many_in field_at zero bytes = Some ([], bytes)
many_in field_at (suc n) bytes = do
  first ← field_at bytes
  others ← many_in field_at n first.1
  Some (first.0 ∷ others.0, others.1)

-- so many values
abbrev pub values_in : ℕ → List ℕ → Option (List Value × List ℕ)
values_in = many_in value_at

-- how many, and then all of the bytes
unfoldable pub values_at : List ℕ → Option (List Value)
values_at bytes = do
  n ← number_at bytes
  vs ← values_in n.0 n.1
  if length vs.1 == 0 then Some vs.0 else None
