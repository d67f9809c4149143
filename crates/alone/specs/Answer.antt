-- What a commit is answered, by the commits before it.
use Rattle.std.specs.Prelude.{◌≡◌, ◌↔◌, ◌<◌, ◌≤◌, ◌⊎◌, ℕ, true, false, List, [], ◌∷◌, ◌++◌, Contains}
use Rattle.table.specs.declared.rows.Change.{Change}
use Rattle.siread.specs.declared.keys.Place.{Place}
use Rattle.siread.specs.Keys.{place_of}
use Rattle.alone.specs.declared.records.Record.{Record}
use Rattle.alone.specs.Commits.{share_row, IsDangerous, IsNext, HasNoWriteConflict, HasNoDanger}
use Rattle.alone.specs.Numbers.{greatest_in, is_pivot, is_reader, IsLeastPivot, IsNeither, IsPivotTriple}
use Rattle.alone.specs.Order.{least_out}

-- the commits of a triple are named by their numbers, and the candidate has the next
pub data Answer : Type 0 where
  WriteConflict : (place : Place) → (by : ℕ) → Answer
  Dangerous : (reader : ℕ) → (pivot : ℕ) → (writer : ℕ) → Answer
  Number : (number : ℕ) → Answer

-- the first row of the net change that a commit after the snapshot has too, and the least such commit
pub record IsFirstConflict (log : List Record) (commit : Record) (place : Place) (by : ℕ) : Type 0 where
  pub before : List Change
  pub change : Change
  pub after : List Change
  pub split : commit.changes ≡ before ++ change ∷ after
  pub at : place_of change ≡ place
  pub free_before : (other : Record)
      → Contains log other → commit.snapshot < other.number → share_row before other.changes ≡ true → ⊥
  pub other : Record
  pub listed : Contains log other
  pub after_snapshot : commit.snapshot < other.number
  pub common : share_row (change ∷ []) other.changes ≡ true
  pub named : other.number ≡ by
  pub least : (another : Record) → Contains log another
      → commit.snapshot < another.number → share_row (change ∷ []) another.changes ≡ true → by ≤ another.number

-- the commit as a pivot, with the greatest reader and the least writer
pub record IsPivotNamed (log : List Record) (commit : Record) (reader writer : ℕ) : Type 0 where
  pub first : Record
  pub last : Record
  pub triple : IsPivotTriple log first commit last
  pub reader_named : first.number ≡ reader
  pub writer_named : last.number ≡ writer

-- the commit is the pivot of no dangerous triple
abbrev pub IsNoPivot : List Record → Record → Type 0
IsNoPivot log commit = (reader writer : Record)
    → Contains log reader → Contains log writer → IsDangerous reader commit writer → ⊥

-- the commit as a reader, with the least pivot and that pivot's least writer
pub record IsReaderNamed (log : List Record) (commit : Record) (pivot writer : ℕ) : Type 0 where
  pub middle : Record
  pub last : Record
  pub middle_in : Contains log middle
  pub last_in : Contains log last
  pub danger : IsDangerous commit middle last
  pub pivot_named : middle.number ≡ pivot
  pub writer_named : last.number ≡ writer
  pub least_pivot : (p y : Record) → Contains log p → Contains log y → IsDangerous commit p y → pivot ≤ p.number
  pub least_writer : (y : Record) → Contains log y → IsDangerous commit middle y → writer ≤ y.number

-- the first that holds
abbrev pub IsAnswer : List Record → Record → Answer → Type 0
IsAnswer log commit (WriteConflict place by) = IsFirstConflict log commit place by
IsAnswer log commit (Dangerous reader pivot writer) =
    HasNoWriteConflict log commit
    × (((pivot ≡ commit.number) × IsPivotNamed log commit reader writer)
    ⊎ (IsNoPivot log commit × (reader ≡ commit.number) × IsReaderNamed log commit pivot writer))
IsAnswer log commit (Number number) =
    (number ≡ commit.number) × HasNoWriteConflict log commit × HasNoDanger (commit ∷ log)

-- a commit with the next number, which is its answer; what is read only has changed nothing
pub record IsNumbered (log : List Record) (commit : Record) : Type 0 where
  pub next : IsNext commit log
  pub after_snapshot : commit.snapshot < commit.number
  pub changes_nothing : commit.read_only ≡ true → commit.changes ≡ []
  pub answer : IsAnswer log commit (Number commit.number)

-- What the two tests say of the next commit: neither passes exactly where no triple has it in it; where the first does,
-- it is a pivot, named with the two numbers; where the second does, there is a least pivot, named with its own number.
pub record AreJudged (log : List Record) (commit : Record) : Type 0 where
  pub decide : HasNoDanger (commit ∷ log) ↔ IsNeither log commit
  pub pivot : is_pivot log commit ≡ true → IsPivotNamed log commit (greatest_in log commit) (least_out log commit)
  pub no_pivot : is_pivot log commit ≡ false → IsNoPivot log commit
  pub reader : is_reader log commit ≡ true → (pivot : Record) × IsLeastPivot log commit pivot
  pub named : (pivot : Record) → IsLeastPivot log commit pivot
      → IsReaderNamed log commit pivot.number (least_out log pivot)
