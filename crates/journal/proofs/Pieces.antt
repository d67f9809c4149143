-- Pieces of bytes, as a loop reads them.
use Rattle.std.proofs.Common.{ℕ, ◌++◌, List, Option, Some}
use Rattle.journal.specs.Reading.{◌>>=◌}

-- what was passed over, and what is read behind it
abbrev pub with_front : List ℕ → Option (List ℕ × List ℕ) → Option (List ℕ × List ℕ)
with_front front read = read >>= λ x. Some (front ++ x.0, x.1)
