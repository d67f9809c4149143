-- What stands in front of bytes: a field and the bytes behind it, or nothing.
use Rattle.std.specs.Prelude.{◌≡◌, ℕ, zero, suc, pos, negsuc, ◌+◌, ◌-◌, ◌*◌, ◌^◌, ◌&&◌, ◌||◌, List, [], ◌∷◌, length, take, Option, Some, None, Result, Ok, Err, nat_lt, ◌==◌, if◌then◌else◌}
use Rattle.value.specs.declared.values.Value.{Value}
use Rattle.value.specs.declared.values.Value.TheVariants.{Null, Int, Text}
use Rattle.table.specs.Rows.{RowValues}
use Rattle.table.specs.declared.rows.Change.{Change}
use Rattle.journal.specs.declared.entries.Entry.{Entry}
use Rattle.journal.specs.declared.faults.EntryFault.{EntryFault}
use Rattle.journal.specs.declared.faults.EntryFault.TheVariants.{NoMemory, Malformed}
use Rattle.journal.specs.Spelling.{sum}

infixl 10 ◌>>=◌
-- one field behind another, if the first is there
abbrev pub ◌>>=◌ : {A B : Type 0} → Option A → (A → Option B) → Option B
(Some x) >>= f = f x
None >>= f = None

-- what a function returned, seen by view, is what is read, unless memory ran out
abbrev pub Fails : {Y : Type 0} → EntryFault → Option Y → Type 0
Fails NoMemory read = Unit {0}
Fails Malformed read = read ≡ None

abbrev pub Gives : {X Y : Type 0} → (X → Y) → Result X EntryFault → Option Y → Type 0
Gives view (Ok x) read = read ≡ Some (view x)
Gives view (Err fault) read = Fails fault read

-- a number with one digit more
unfoldable pub with_digit : ℕ → ℕ → Option ℕ
with_digit n b =
    if nat_lt b 48 || nat_lt 57 b then None
    else if nat_lt (n * 10 + (b - 48)) (2 ^ 64) then Some (n * 10 + (b - 48)) else None

-- the digits up to a tab
abbrev pub number_from : ℕ → List ℕ → Option (ℕ × List ℕ)
number_from n [] = None
number_from n (b ∷ bs) = if b == 9 then Some (n, bs) else (with_digit n b >>= λ m. number_from m bs)

-- the bytes up to an ending, before a zero comes
abbrev pub piece_at : (ending : ℕ) → List ℕ → Option (List ℕ × List ℕ)
piece_at ending [] = None
piece_at ending (b ∷ bs) =
    if b == 0 then None else if b == ending then Some ([], bs) else (piece_at ending bs >>= λ x. Some (b ∷ x.0, x.1))

-- a line between two line feeds
abbrev pub line_at : List ℕ → Option (List ℕ × List ℕ)
line_at [] = None
line_at (b ∷ bs) = if b == 10 then piece_at 10 bs else None

-- the number below zero of a size, and the one from zero on, where there is room for it
unfoldable pub negative : ℕ → Option Value
negative n = if (n == 0) || nat_lt 9223372036854775808 n then None else Some (Int (negsuc (n - 1)))

unfoldable pub positive : ℕ → Option Value
positive n = if nat_lt 9223372036854775807 n then None else Some (Int (pos n))

abbrev pub negative_at : List ℕ → Option (Value × List ℕ)
negative_at bytes = number_from 0 bytes >>= λ x. negative x.0 >>= λ v. Some (v, x.1)

abbrev pub positive_at : List ℕ → Option (Value × List ℕ)
positive_at bytes = number_from 0 bytes >>= λ x. positive x.0 >>= λ v. Some (v, x.1)

unfoldable pub int_at : List ℕ → Option (Value × List ℕ)
int_at [] = None
int_at (b ∷ bs) = if b == 45 then negative_at bs else positive_at (b ∷ bs)

abbrev pub text_at : List ℕ → Option (Value × List ℕ)
text_at bytes = piece_at 9 bytes >>= λ x. Some (Text x.0, x.1)

-- the tab behind NULL
abbrev pub null_at : List ℕ → Option (Value × List ℕ)
null_at [] = None
null_at (b ∷ bs) = if b == 9 then Some (Null, bs) else None

unfoldable pub value_at : List ℕ → Option (Value × List ℕ)
value_at [] = None
value_at (b ∷ bs) = if b == 78 then null_at bs else if b == 39 then text_at bs else int_at (b ∷ bs)

-- so many items, each read in this way
abbrev pub items_in : {A : Type 0} → (List ℕ → Option (A × List ℕ)) → ℕ → List ℕ → Option (List A × List ℕ)
items_in at zero bytes = Some ([], bytes)
items_in at (suc n) bytes =
    at bytes >>= λ first. items_in at n first.1 >>= λ others. Some (first.0 ∷ others.0, others.1)

unfoldable pub row_at : List ℕ → Option (Option RowValues × List ℕ)
row_at bytes = do
  n ← number_from 0 bytes
  if n.0 == 0 then Some (None, n.1) else (items_in value_at n.0 n.1 >>= λ vs. Some (Some vs.0, vs.1))

unfoldable pub change_at : List ℕ → Option (Change × List ℕ)
change_at bytes = do
  table ← number_from 0 bytes
  key ← value_at table.1
  old ← row_at key.1
  new ← row_at old.1
  Some (record { table = table.0; key = key.0; old = old.0; new = new.0 }, new.1)

unfoldable pub body_at : List ℕ → Option (Entry × List ℕ)
body_at bytes = do
  number ← number_from 0 bytes
  durable ← number_from 0 number.1
  count ← number_from 0 durable.1
  changes ← items_in change_at count.0 count.1
  Some (record { number = number.0; durable = durable.0; changes = changes.0 }, changes.1)

-- the commit that a line says, where its sum is that of its bytes, and nothing stands behind
unfoldable pub entry_of : List ℕ → Option Entry
entry_of line = do
  read ← body_at line
  told ← number_from 0 read.1
  if (length told.1 == 0) && (told.0 == sum (take (length line - length read.1) line)) then Some read.0 else None
