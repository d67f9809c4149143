-- Commits whose lines wait for a sync.
use Rattle.std.specs.Prelude.{◌≡◌, ◌+◌, ◌^◌, ◌<◌, ◌++◌, ℕ, List, [], ◌∷◌, length, Option, Some, None}
use Rattle.table.specs.declared.rows.Change.{Change}
use Rattle.journal.specs.declared.entries.Entry.{Entry}
use Rattle.journal.specs.Fitting.{AreNext}
use Rattle.journal.specs.Recovery.{recovered}
use Rattle.journal.specs.Spelling.{lines}
use Rattle.durable.specs.declared.batches.Batch.{Batch}

-- these entries, or none where there are none
abbrev pub entries_or_none : Option (List Entry) → List Entry
entries_or_none None = []
entries_or_none (Some entries) = entries

-- the entries of lines behind the one of this number
abbrev pub entries_behind : (durable : ℕ) → (bytes : List ℕ) → List Entry
entries_behind durable bytes = entries_or_none (recovered (durable + 1) bytes)

-- the entries that wait
abbrev pub entries_waiting : Batch → List Entry
entries_waiting batch = entries_behind batch.durable batch.lines

-- none waits behind the entry of this number
abbrev pub none_behind : (durable : ℕ) → Batch
none_behind durable = record { durable = durable; newest = durable; lines = []; line = [] }

-- the entry of one commit more; those before it that wait are not known to be on the disk
abbrev pub entry_behind : Batch → List Change → Entry
entry_behind batch changes = record { number = batch.newest + 1; durable = batch.durable; changes = changes }

-- bytes are lines that wait behind the entry of one number, up to the entry of the other
pub record AreWaiting (durable newest : ℕ) (bytes : List ℕ) : Type 0 where
  pub spelled : bytes ≡ lines (entries_behind durable bytes)
  pub next : AreNext (durable + 1) (entries_behind durable bytes)
  pub newest_is : newest ≡ durable + length (entries_behind durable bytes)
  pub small : length bytes < 2 ^ 61

abbrev pub IsWaiting : Batch → Type 0
IsWaiting batch = AreWaiting batch.durable batch.newest batch.lines

-- a commit more waits, behind the others
pub record HasAdded (old new : Batch) (changes : List Change) : Type 0 where
  pub entries : entries_waiting new ≡ entries_waiting old ++ entry_behind old changes ∷ []
  pub durable : new.durable ≡ old.durable
  pub newest : new.newest ≡ old.newest + 1
  pub waiting : IsWaiting new

-- the same wait
pub record IsSameBatch (old new : Batch) : Type 0 where
  pub durable : new.durable ≡ old.durable
  pub newest : new.newest ≡ old.newest
  pub lines_are : new.lines ≡ old.lines
