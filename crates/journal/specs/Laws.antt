-- What the sum of a line shows, and that a header is read as it was written.
use Rattle.std.specs.Prelude.{◌≡◌, ◌<◌, ◌^◌, ℕ, List, ◌∷◌, ◌++◌, Some}
use Rattle.journal.specs.Spelling.{sum}
use Rattle.journal.specs.declared.headers.Header.{Header}
use Rattle.journal.specs.Headers.{header_at, header_line}

-- bytes that differ in one place have two sums
abbrev pub OneByteShows : Type 0
OneByteShows = (front behind : List ℕ) (a b : ℕ) → a < 256 → b < 256
    → sum (front ++ a ∷ behind) ≡ sum (front ++ b ∷ behind) → a ≡ b

-- a header that was written is read, whatever stands behind it
abbrev pub HeaderIsRead : Type 0
HeaderIsRead = (h : Header) (bytes : List ℕ) → h.first < 2 ^ 64 → h.declared < 2 ^ 64
    → header_at (header_line h ++ bytes) ≡ Some (h, bytes)
