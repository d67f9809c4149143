-- The texts that columns hold, and how many characters they have.
use Rattle.std.specs.Prelude.{ℕ, Bool, ◌&&◌, not, nat_le, nat_eq, List, length, IsTrue}
use Rattle.std.specs.List.{list_all}
use Rattle.std.specs.Str.{chars, is_utf8}

-- whether a byte is no control character of ASCII: neither 0x00 to 0x1F nor 0x7F
abbrev pub is_plain_byte : ℕ → Bool
is_plain_byte b = nat_le 32 b && not (nat_eq b 127)

-- whether a text is well-formed UTF-8 (Unicode, D92) without control characters of ASCII
abbrev pub is_plain : List ℕ → Bool
is_plain bytes = list_all is_plain_byte bytes && is_utf8 bytes

-- a text of this kind
abbrev pub IsPlain : List ℕ → Type 0
IsPlain bytes = IsTrue (is_plain bytes)

-- the length of a text: the number of its characters (SQL-92, 4.2), whatever their bytes
abbrev pub character_count : List ℕ → ℕ
character_count bytes = length (chars bytes)
