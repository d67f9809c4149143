-- The first line of a journal's file: what it is, after which commit its first rows stood, and of which definitions.
use Rattle.std.specs.Prelude.{ℕ, ◌-◌, List, [], ◌∷◌, ◌++◌, length, take, Option, Some, None, ◌==◌, if◌then◌else◌, codes}
use Rattle.journal.specs.declared.headers.Header.{Header}
use Rattle.journal.specs.Spelling.{number, sum}
use Rattle.journal.specs.Reading.{◌>>=◌, number_from}

-- what it begins with
abbrev pub title : List ℕ
title = codes "skewguard journal 1\t"

-- and its two numbers
abbrev pub header_fields : Header → List ℕ
header_fields h = title ++ (number h.first ++ number h.declared)

-- and their sum
abbrev pub header_line : Header → List ℕ
header_line h = header_fields h ++ (number (sum (header_fields h)) ++ codes "\n")

-- the bytes behind these, if they stand in front
abbrev pub behind : (front bytes : List ℕ) → Option (List ℕ)
behind [] bytes = Some bytes
behind (f ∷ front) [] = None
behind (f ∷ front) (b ∷ bytes) = if b == f then behind front bytes else None

-- the header that stands in front, where its sum is that of its bytes, and what stands behind it
unfoldable pub header_at : List ℕ → Option (Header × List ℕ)
header_at bytes = do
  rest ← behind title bytes
  first ← number_from 0 rest
  declared ← number_from 0 first.1
  told ← number_from 0 declared.1
  body ← behind (codes "\n") told.1
  if told.0 == sum (take (length bytes - length declared.1) bytes)
      then Some (record { first = first.0; declared = declared.0 }, body) else None
