-- Who of the commits read what.
use Rattle.std.specs.Prelude.{◌≡◌, ◌≤◌, ℕ, Bool, List, map, filter}
use Rattle.std.specs.List.{list_any}
use Rattle.siread.specs.declared.keys.LockKey.{LockKey}
use Rattle.siread.specs.Keys.{same_key}
use Rattle.siread.specs.Locks.{Reads, reads_above}
use Rattle.alone.specs.declared.records.Record.{Record}

-- whether a commit has read under a key
abbrev pub has_read : LockKey → Record → Bool
has_read key commit = list_any (same_key key) commit.reads

-- for each key the numbers of the commits that read it, in their order
abbrev pub reads_of : List Record → Reads
reads_of commits key = map (λ (commit : Record). commit.number) (filter (has_read key) commits)

-- These are the readers of these commits, but for those that reach no further than a number that is at most the
-- snapshot. `reaches` says how far each commit reaches.
pub record HasReaders (reads : Reads) (reaches : List ℕ) (commits : List Record) (snapshot : ℕ) : Type 0 where
  pub low : ℕ
  pub within : low ≤ snapshot
  pub are : reads ≡ reads_above low reaches (reads_of commits)
