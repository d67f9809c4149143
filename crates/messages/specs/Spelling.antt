-- How numbers, texts, values and rows are spelled in bytes.
use Rattle.std.specs.Prelude.{◌<◌, ◌^◌, ℕ, ℤ, pos, negsuc, ◌-◌, Bool, nat_lt, List, [], ◌∷◌, ◌++◌, length, ⊤, if◌then◌else◌}
use Rattle.std.specs.Fmt.{signed_decimal}
use Rattle.std.specs.Int.{w64, to_le_bytes}
use Rattle.value.specs.declared.values.Value.{Value}
use Rattle.value.specs.declared.values.Value.TheVariants.{Null, Int, Text}
use Rattle.value.specs.declared.values.Root.{Root}
use Rattle.value.specs.declared.values.Root.TheVariants.{All, Of}
use Rattle.value.specs.declared.truths.Truth.{Truth}
use Rattle.value.specs.declared.truths.Truth.TheVariants.{False, True, Unknown}
use Rattle.table.specs.declared.schemas.Column.{Column}
use Rattle.table.specs.Rows.{RowValues}

-- eight bytes, the lowest first
unfoldable pub number : ℕ → List ℕ
number n = to_le_bytes w64 n

-- in two's complement
abbrev pub bits_of : ℤ → ℕ
bits_of (pos n) = n
bits_of (negsuc n) = 18446744073709551615 - n

-- how many bytes, and these
abbrev pub text : List ℕ → List ℕ
text bytes = number (length bytes) ++ bytes

-- its kind, and what it holds
abbrev pub value : Value → List ℕ
value Null = 0 ∷ []
value (Int n) = 1 ∷ number (bits_of n)
value (Text bytes) = 2 ∷ text bytes

-- a value that these bytes can hold: a number of 64 bits with its sign, a text whose length is one of 64 bits
abbrev pub IsSpelled : Value → Type 0
IsSpelled Null = ⊤
IsSpelled (Int (pos n)) = n < 2 ^ 63
IsSpelled (Int (negsuc n)) = n < 2 ^ 63
IsSpelled (Text bytes) = length bytes < 2 ^ 64

-- whether a number is one of 64 bits with its sign
abbrev pub is_of_64_bits : ℤ → Bool
is_of_64_bits (pos n) = nat_lt n 9223372036854775808
is_of_64_bits (negsuc n) = nat_lt n 9223372036854775808

-- a number that a SELECT lists: one that passes 64 bits is of a kind of its own, by its decimal digits
abbrev pub listed_number : ℤ → List ℕ
listed_number n = if is_of_64_bits n then value (Int n) else 5 ∷ text (signed_decimal n)

-- a value that a SELECT lists
abbrev pub listed_value : Value → List ℕ
listed_value Null = value Null
listed_value (Int n) = listed_number n
listed_value (Text bytes) = value (Text bytes)

-- a value that these bytes can hold: a number of 128 bits with its sign, a text whose length is one of 64 bits
abbrev pub IsListed : Value → Type 0
IsListed Null = ⊤
IsListed (Int (pos n)) = n < 2 ^ 127
IsListed (Int (negsuc n)) = n < 2 ^ 127
IsListed (Text bytes) = length bytes < 2 ^ 64

-- a root: the value of a row's key or of a group, or the whole
abbrev pub root : Root → List ℕ
root All = 3 ∷ []
root (Of v) = value v

-- a truth, as a number
abbrev pub truth : Truth → List ℕ
truth False = number 0
truth True = number 1
truth Unknown = number 2

-- the values of a row, with no count in front
abbrev pub row : RowValues → List ℕ
row [] = []
row (v ∷ vs) = listed_value v ++ row vs

-- the rows, one behind the other
abbrev pub each_row : List RowValues → List ℕ
each_row [] = []
each_row (r ∷ rs) = row r ++ each_row rs

-- how many rows, and each
abbrev pub rows : List RowValues → List ℕ
rows rs = number (length rs) ++ each_row rs

-- the names, one behind the other
abbrev pub each_name : List (List ℕ) → List ℕ
each_name [] = []
each_name (name ∷ names) = text name ++ each_name names

-- how many names, and each
abbrev pub names : List (List ℕ) → List ℕ
names ns = number (length ns) ++ each_name ns

-- the name of each column, one behind the other
abbrev pub each_column : List Column → List ℕ
each_column [] = []
each_column (c ∷ cs) = text c.name ++ each_column cs

-- how many columns, and the name of each
abbrev pub columns : List Column → List ℕ
columns cs = number (length cs) ++ each_column cs
