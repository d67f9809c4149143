-- The serial order.
use Rattle.std.specs.Prelude.{◌≡◌, false, ◌<◌, ◌≤◌, ◌+◌, ◌*◌, ◌⊎◌, ℕ, true, ◌&&◌, ◌==◌, if◌then◌else◌, nat_lt, min, not, filter, List, [], ◌∷◌, Contains}
use Rattle.alone.specs.declared.records.Record.{Record}
use Rattle.alone.specs.Commits.{conflicts_to, share_row}

-- the least of the earlier commits to which a commit conflicts, or its own number where there is none
abbrev pub least_out : List Record → Record → ℕ
least_out [] commit = commit.number
least_out (other ∷ log) commit =
    if nat_lt other.number commit.number && conflicts_to commit other
    then min other.number (least_out log commit)
    else least_out log commit

-- where a commit stands whose least conflict out is this, as a number: 3 n just before the number n, 3 n + 1 at it, and
-- 3 n + 2 behind it, where those stand that are read only and have the snapshot n
abbrev pub rank_at : ℕ → Record → ℕ
rank_at place commit =
    if commit.read_only
    then 3 * commit.snapshot + 2
    else (if place == commit.number then 3 * commit.number + 1 else 3 * place)

-- where a commit stands in the serial order, as a number
abbrev pub rank : List Record → Record → ℕ
rank log commit = rank_at (least_out log commit) commit

-- by rank, and those of one rank as they come, the oldest first
abbrev pub put_by : (Record → ℕ) → Record → List Record → List Record
put_by key commit [] = commit ∷ []
put_by key commit (other ∷ rest) =
    if nat_lt (key commit) (key other) then commit ∷ other ∷ rest else other ∷ put_by key commit rest

-- commits in the order of a number, those of one number as they came, the oldest first
abbrev pub sort_by : (Record → ℕ) → List Record → List Record
sort_by key [] = []
sort_by key (commit ∷ earlier) = put_by key commit (sort_by key earlier)

-- the serial order: each at its number or, where it conflicts to earlier commits, just before the least of these;
-- several before one number by their own numbers. One that is read only stands behind the number of its snapshot and
-- before the next, several there by their own numbers
abbrev pub serial_order : List Record → List Record
serial_order log = sort_by (rank log) log

-- in this list the one stands before the other
abbrev pub Before : List Record → Record → Record → Type 0
Before [] first second = ⊥
Before (x ∷ rest) first second = ((x ≡ first) × Contains rest second) ⊎ Before rest first second

-- an order of the log in which each commit stands after all that its snapshot holds, after the earlier writers of its
-- rows, and before all to which it conflicts
pub record IsSerial (log order : List Record) : Type 0 where
  pub after_snapshot : (a b : Record) → Contains log a → Contains log b → a.number ≤ b.snapshot → Before order a b
  pub after_writers : (a b : Record) → Contains log a → Contains log b
      → a.number < b.number → share_row b.changes a.changes ≡ true → Before order a b
  pub before_conflicts : (a b : Record) → Contains log a → Contains log b → conflicts_to a b ≡ true → Before order a b

-- A commit that is read only stands behind all others whose place is up to its snapshot, and before all others whose
-- place is past it; those that are read only stand by their snapshots, and by their numbers.
pub record StandBySnapshot (log order : List Record) : Type 0 where
  pub behind : (a r : Record) → Contains log a → Contains log r
      → a.read_only ≡ false → r.read_only ≡ true → least_out log a ≤ r.snapshot → Before order a r
  pub before : (r a : Record) → Contains log r → Contains log a
      → r.read_only ≡ true → a.read_only ≡ false → r.snapshot < least_out log a → Before order r a
  pub by_snapshot : (r q : Record) → Contains log r → Contains log q
      → r.read_only ≡ true → q.read_only ≡ true → r.snapshot < q.snapshot → Before order r q
  pub by_number : (r q : Record) → Contains log r → Contains log q
      → r.read_only ≡ true → q.read_only ≡ true → r.snapshot ≡ q.snapshot → r.number < q.number → Before order r q

-- a list with the commit of this number taken out
abbrev pub without : ℕ → List Record → List Record
without number order = filter (λ other. not (other.number == number)) order

-- the others stand as they stood before this commit
abbrev pub IsKept : Record → List Record → Type 0
IsKept commit earlier = without commit.number (serial_order (commit ∷ earlier)) ≡ serial_order earlier

-- the least conflict out of each earlier commit is what it was
abbrev pub IsFixed : Record → List Record → Type 0
IsFixed commit earlier =
    (other : Record) → Contains earlier other → least_out (commit ∷ earlier) other ≡ least_out earlier other

-- and this one is put in by its rank among those before it, behind all of no greater rank
abbrev pub IsPutIn : Record → List Record → Type 0
IsPutIn commit earlier = serial_order (commit ∷ earlier) ≡ put_by (rank earlier) commit (serial_order earlier)
