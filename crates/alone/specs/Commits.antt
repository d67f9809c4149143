-- Conflicts between committed transactions, and what refuses a commit
-- (Cahill, Röhm and Fekete 2008; Ports and Grittner 2012).
-- A log lists the committed transactions, the newest first.
use Rattle.std.specs.Prelude.{◌≡◌, ◌<◌, ◌≤◌, ℕ, suc, Bool, if◌then◌else◌, true, not, ◌&&◌, ◌==◌, List, [], ◌∷◌, length, nat_lt, Contains, ⊤}
use Rattle.std.specs.List.{list_any}
use Rattle.table.specs.declared.rows.Change.{Change}
use Rattle.siread.specs.declared.keys.LockKey.{LockKey}
use Rattle.siread.specs.Keys.{touches, same_place, place_of}
use Rattle.alone.specs.declared.records.Record.{Record}

-- a net change touches a key that was read
unfoldable pub touch_any : List Change → List LockKey → Bool
touch_any changes keys = list_any (λ key. list_any (λ change. touches change key) changes) keys

-- two net changes have a row in common
unfoldable pub share_row : List Change → List Change → Bool
share_row these those =
    list_any (λ change. list_any (λ other. same_place (place_of change) (place_of other)) those) these

-- two different commits overlap where neither's snapshot holds the other
abbrev pub overlap : Record → Record → Bool
overlap a b = not (a.number == b.number) && (nat_lt b.snapshot a.number && nat_lt a.snapshot b.number)

-- the reader conflicts to the writer: they overlap, and the one wrote what the other read
unfoldable pub conflicts_to : Record → Record → Bool
conflicts_to reader writer = overlap reader writer && touch_any writer.changes reader.reads

-- The last number that may stand before a commit of this number and snapshot: its snapshot where it is read only, since
-- it stands right behind that, else its own.
abbrev pub reach_of : (number snapshot : ℕ) → Bool → ℕ
reach_of number snapshot read_only = if read_only then snapshot else number

-- how far a commit reaches
abbrev pub reach : Record → ℕ
reach commit = reach_of commit.number commit.snapshot commit.read_only

-- the reader conflicts to the pivot, the pivot to the writer, and the writer committed first
pub record IsDangerous (reader pivot writer : Record) : Type 0 where
  pub first : conflicts_to reader pivot ≡ true
  pub second : conflicts_to pivot writer ≡ true
  pub before_pivot : writer.number < pivot.number
  -- the writer is the reader, or committed before it; where the reader is read only, its snapshot holds the writer
  pub up_to_reader : writer.number ≤ reach reader

-- a row of the net change is in the net change of a commit after the snapshot
pub record HasWriteConflict (commit other : Record) : Type 0 where
  pub after_snapshot : commit.snapshot < other.number
  pub common : share_row commit.changes other.changes ≡ true

-- it is in none's
abbrev pub HasNoWriteConflict : List Record → Record → Type 0
HasNoWriteConflict log commit = (other : Record) → Contains log other → HasWriteConflict commit other → ⊥

-- no three commits of a list are a dangerous triple
abbrev pub HasNoDanger : List Record → Type 0
HasNoDanger log = (reader pivot writer : Record)
    → Contains log reader → Contains log pivot → Contains log writer → IsDangerous reader pivot writer → ⊥

-- what a commit must meet over those before it: the next number, a snapshot of those before it, no write conflict,
-- and no dangerous triple
pub record IsAccepted (commit : Record) (earlier : List Record) : Type 0 where
  pub numbered : commit.number ≡ suc (length earlier)
  pub after_snapshot : commit.snapshot < commit.number
  pub no_write_conflict : HasNoWriteConflict earlier commit
  pub no_danger : HasNoDanger (commit ∷ earlier)
  -- what is read only has changed nothing
  pub changes_nothing : commit.read_only ≡ true → commit.changes ≡ []

-- a log in which each was accepted over those before it
abbrev pub IsLog : List Record → Type 0
IsLog [] = ⊤
IsLog (commit ∷ earlier) = IsAccepted commit earlier × IsLog earlier

-- a commit that has the next number over a log
pub record IsNext (commit : Record) (log : List Record) : Type 0 where
  pub accepted : IsLog log
  pub numbered : commit.number ≡ suc (length log)
