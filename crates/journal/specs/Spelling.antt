-- How a commit is spelled as a line: fields, each with a tab behind it, and a line feed at the end.
use Rattle.std.specs.Prelude.{ℕ, ◌+◌, ◌*◌, ◌%◌, ◌^◌, List, [], ◌∷◌, ◌++◌, length, decimal, Option, Some, None}
use Rattle.std.specs.Fmt.{signed_decimal}
use Rattle.value.specs.declared.values.Value.{Value}
use Rattle.value.specs.declared.values.Value.TheVariants.{Null, Int, Text}
use Rattle.table.specs.Rows.{RowValues}
use Rattle.table.specs.declared.rows.Change.{Change}
use Rattle.journal.specs.declared.entries.Entry.{Entry}

-- in decimal
abbrev pub number : ℕ → List ℕ
number n = decimal n ++ 9 ∷ []

-- N, a number, or a quote and the bytes of a text
abbrev pub value : Value → List ℕ
value Null = 78 ∷ 9 ∷ []
value (Int n) = signed_decimal n ++ 9 ∷ []
value (Text bytes) = 39 ∷ bytes ++ 9 ∷ []

-- one behind the other
abbrev pub each : {A : Type 0} → (A → List ℕ) → List A → List ℕ
each spell [] = []
each spell (x ∷ xs) = spell x ++ each spell xs

abbrev pub values : List Value → List ℕ
values vs = each value vs

-- how many values, and these; 0 where there is no row
abbrev pub row : Option RowValues → List ℕ
row None = number 0
row (Some r) = number (length r) ++ values r

abbrev pub change : Change → List ℕ
change c = number c.table ++ (value c.key ++ (row c.old ++ row c.new))

abbrev pub changes : List Change → List ℕ
changes cs = each change cs

-- one byte more
unfoldable pub with_byte : ℕ → ℕ → ℕ
with_byte s b = (s * 1099511628211 + b) % 2 ^ 64

-- a polynomial in the bytes
abbrev pub sum_from : ℕ → List ℕ → ℕ
sum_from s [] = s
sum_from s (b ∷ bs) = sum_from (with_byte s b) bs

abbrev pub sum : List ℕ → ℕ
sum bytes = sum_from 0 bytes

-- the fields of a commit
abbrev pub body : Entry → List ℕ
body e = number e.number ++ (number e.durable ++ (number (length e.changes) ++ changes e.changes))

-- and their sum
abbrev pub line : Entry → List ℕ
line e = body e ++ number (sum (body e))

-- lines, each between two line feeds
abbrev pub lines : List Entry → List ℕ
lines [] = []
lines (e ∷ es) = 10 ∷ (line e ++ 10 ∷ lines es)
