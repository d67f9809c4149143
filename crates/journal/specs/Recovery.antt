-- What a file says, whatever a crash made of it.
use Rattle.std.specs.Prelude.{ℕ, Bool, true, ◌+◌, ◌==◌, ◌&&◌, ◌||◌, nat_lt, if◌then◌else◌, List, [], ◌∷◌, length, Option, Some, None}
use Rattle.journal.specs.declared.entries.Entry.{Entry}
use Rattle.journal.specs.Reading.{◌>>=◌, entry_of, line_at}
use Rattle.journal.specs.Tails.{lines_of, tail_of}

-- the commit of a line, if it has this number
unfoldable pub entry_at : ℕ → List ℕ → Option Entry
entry_at number line = entry_of line >>= λ e. if e.number == number then Some e else None

-- the commits that lines say, the first of which has this number; nothing where a line says none, or another
abbrev pub entries_from : ℕ → List (List ℕ) → Option (List Entry)
entries_from number [] = Some []
entries_from number (line ∷ lines) =
    entry_at number line >>= λ e. entries_from (number + 1) lines >>= λ es. Some (e ∷ es)

-- the commits of a file: its whole lines, up to its first zero
abbrev pub recovered : ℕ → List ℕ → Option (List Entry)
recovered first file = entries_from first (lines_of file)

-- no commit, or one that was written before commit `number` was known to be on the disk
abbrev pub is_before : ℕ → Option Entry → Bool
is_before number None = true
is_before number (Some e) = nat_lt e.durable number

-- no whole line in front says that this commit was on the disk
unfoldable pub is_silent_at : ℕ → List ℕ → Bool
is_silent_at number bytes = is_before number (line_at bytes >>= λ x. entry_of x.0)

-- nor does one that begins anywhere behind
abbrev pub is_silent : ℕ → List ℕ → Bool
is_silent number [] = true
is_silent number (b ∷ bs) = is_silent_at number (b ∷ bs) && is_silent number bs

-- a zero stands in front, or the line feed of a line; or nothing is left
abbrev pub begins_torn : List ℕ → Bool
begins_torn [] = true
begins_torn (b ∷ bs) = (b == 0) || (b == 10)

-- a crash may have left it where commit `number` would stand
abbrev pub is_torn : ℕ → List ℕ → Bool
is_torn number tail = begins_torn tail && is_silent number tail

-- WHAT A FILE SAYS: the commits of its whole lines, if what stands behind them may be a crash's; nothing where it is
-- damaged
abbrev pub said : ℕ → List ℕ → Option (List Entry)
said first file = recovered first file >>= λ es. if is_torn (first + length es) (tail_of file) then Some es else None
