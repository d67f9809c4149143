-- What a file says of the commits of an engine, and what is promised of it.
use Rattle.std.specs.Prelude.{◌≡◌, ◌+◌, ◌++◌, ℕ, Bool, true, false, List, [], ◌∷◌, length}
use Rattle.table.specs.declared.rows.Change.{Change}
use Rattle.alone.specs.declared.records.Record.{Record}
use Rattle.meaning.specs.Laws.{Pairs}
use Rattle.journal.specs.declared.entries.Entry.{Entry}
use Rattle.journal.specs.Device.{LeavesOnly}
use Rattle.journal.specs.Journals.{Holds, IsBetween}
use Rattle.journal.specs.Recovery.{said}
use Rattle.durable.specs.declared.writers.Writer.{Writer}
use Rattle.durable.specs.Batches.{IsSameBatch, IsWaiting, entries_or_none, entries_waiting, entry_behind}
use Rattle.durable.specs.Restoring.{IsOf}

-- the entries that a file says, the first of which has this number
abbrev pub entries_in : (first : ℕ) → (file : List ℕ) → List Entry
entries_in first file = entries_or_none (said first file)

-- what the file of a writer says: the entries that are on the disk
abbrev pub entries_of : {D : Type 0} → (seen : D → List ℕ) → Writer D → List Entry
entries_of seen w = entries_in w.first (seen w.journal.device)

-- these, and behind them those that wait
abbrev pub entries_kept : {D : Type 0} → (seen : D → List ℕ) → Writer D → List Entry
entries_kept seen w = entries_of seen w ++ entries_waiting w.batch

-- the journal and what waits are the same
pub record IsSame {D : Type 0} (old new : Writer D) : Type 0 where
  pub journal : new.journal ≡ old.journal
  pub batch : IsSameBatch old.batch new.batch

module _ {D : Type 0} (seen : D → List ℕ) (may_leave : D → List ℕ → Type 0) where
  -- what the file says is on the disk, and behind it stand zeros; what waits may be written over them
  pub record IsInOrder (w : Writer D) : Type 0 where
    pub holds : Holds seen may_leave w.first (entries_of seen w) w.journal
    pub next : w.first + length (entries_of seen w) ≡ w.batch.durable + 1
    pub waiting : IsWaiting w.batch

  -- and the commit of this number comes next
  pub record IsOpenAt (number : ℕ) (w : Writer D) : Type 0 where
    pub in_order : IsInOrder w
    pub next : w.batch.newest + 1 ≡ w.last + number

  -- a writer that is not shut is open there
  abbrev pub IsReadyFor : (number : ℕ) → Writer D → Type 0
  IsReadyFor number w = w.is_shut ≡ false → IsOpenAt number w

  -- what waited is on the disk, behind what was there, and nothing waits
  pub record HasFlushed (old new : Writer D) : Type 0 where
    pub entries : entries_of seen new ≡ entries_kept seen old
    pub none : entries_waiting new.batch ≡ []
    pub newest : new.batch.newest ≡ old.batch.newest
    pub in_order : IsInOrder new

-- It goes on in a file of these bytes, with one entry, that of the newest commit. Nothing waited.
pub record HasMoved {D : Type 0} (seen : D → List ℕ) (bytes : List ℕ) (old new : Writer D) : Type 0 where
  pub says : entries_of seen new ≡ entries_in old.batch.newest bytes
  pub one : length (entries_of seen new) ≡ 1
  pub none : entries_waiting old.batch ≡ []
  pub rest : new ≡ record old { journal = new.journal; first = old.batch.newest }

module _ {D : Type 0} (seen : D → List ℕ) (may_leave : D → List ℕ → Type 0) (moment : D → ℕ)
    (left_since : D → ℕ → List ℕ → Type 0) where
  -- At each moment since, a crash leaves a file that says what was on the disk before, and behind it the first few of
  -- what waited and of this entry, each whole and in their order.
  abbrev pub LeavesAtMost : (old new : Writer D) → Entry → Type 0
  LeavesAtMost old new entry =
      LeavesOnly moment left_since old.journal.device new.journal.device
      (IsBetween old.first (entries_of seen old) (entries_waiting old.batch ++ entry ∷ []))

  -- A commit has been kept: behind what was on the disk or waited there is its entry. Unless commits share syncs, it is
  -- on the disk, with all that waited.
  pub record HasKept (old new : Writer D) (number : ℕ) (changes : List Change) : Type 0 where
    pub was_open : old.is_shut ≡ false
    pub entries : entries_kept seen new ≡ entries_kept seen old ++ entry_behind old.batch changes ∷ []
    pub at_once : old.is_sharing ≡ false → entries_waiting new.batch ≡ []
    pub first : new.first ≡ old.first
    pub last : new.last ≡ old.last
    pub is_open : IsOpenAt seen may_leave (number + 1) new
    pub moments : LeavesAtMost old new (entry_behind old.batch changes)

  -- It has not. A writer that is not shut then has a file that says the same, and the same wait. One that was open
  -- before has left no other entries than those that waited and this one behind what was said.
  pub record HasNotKept (old new : Writer D) (number : ℕ) (changes : List Change) : Type 0 where
    pub same : new.is_shut ≡ false → (old.is_shut ≡ false) × IsSame old new
    pub first : new.first ≡ old.first
    pub last : new.last ≡ old.last
    pub moments : old.is_shut ≡ false → LeavesAtMost old new (entry_behind old.batch changes)

  abbrev pub DidKeep : (old new : Writer D) → (number : ℕ) → List Change → Bool → Type 0
  DidKeep old new number changes true = HasKept old new number changes
  DidKeep old new number changes false = HasNotKept old new number changes

-- Behind some entries a journal that is not shut says these commits, in their order; those that wait are the last.
pub record SaysBehind {D : Type 0} (seen : D → List ℕ) (before : List Entry) (records : List Record) (w : Writer D) :
    Type 0 where
  pub commits : List Entry
  pub are : entries_kept seen w ≡ before ++ commits
  pub kept : Pairs IsOf records commits
