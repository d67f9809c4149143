-- The bytes of calls on a file that wait for whoever can make them.
use Rattle.std.specs.Prelude.{ℕ, List, ◌++◌, length}
use Rattle.std.specs.Int.{w64, to_le_bytes}

-- eight bytes, the lowest first
unfoldable pub number : ℕ → List ℕ
number n = to_le_bytes w64 n

-- these bytes are to be written at a place of the whole file
abbrev pub write : (at : ℕ) → List ℕ → List ℕ
write at bytes = number 1 ++ (number at ++ (number (length bytes) ++ bytes))

-- so many zeros are
abbrev pub zeros : (at count : ℕ) → List ℕ
zeros at count = number 2 ++ (number at ++ number count)

-- all that was written is to be on the disk before anything else is done
abbrev pub sync : List ℕ
sync = number 3
