-- What a commit is answered by those before it, by what was found of it.
use Rattle.std.specs.Prelude.{◌≡◌, ◌<◌, ℕ, Bool, false, List, Some, find, length, slice_index_or, take}
use Rattle.std.specs.List.{list_any}
use Rattle.table.specs.declared.rows.Change.{Change}
use Rattle.siread.specs.Keys.{same_place, place_of}
use Rattle.alone.specs.declared.records.Record.{Record}
use Rattle.alone.specs.Commits.{share_row}
use Rattle.alone.specs.Answer.{IsAnswer, Number, WriteConflict as FirstWriter, Dangerous as Triple}
use Rattle.alone.specs.Order.{least_out}
use Rattle.conflict.specs.declared.dangers.Danger.TheVariants.{AsPivot, AsReader}
use Rattle.conflict.specs.declared.verdicts.Judgment.{Judgment}
use Rattle.conflict.specs.declared.verdicts.Judgment.TheVariants.{Fine, WriteConflict, Dangerous}

-- the answer is a write conflict at this place of the net change
pub record IsConflictAt (log : List Record) (commit : Record) (row by : ℕ) : Type 0 where
  pub within : row < length commit.changes
  pub answer : (c : Change)
      → IsAnswer log commit (FirstWriter (place_of (slice_index_or commit.changes row c)) by)

-- what a verdict says of the answer; a commit that may join the others also learns where it stands
abbrev pub IsJudgmentOf : List Record → Record → Judgment → Type 0
IsJudgmentOf log commit (Fine place) = IsAnswer log commit (Number commit.number) × (place ≡ least_out log commit)
IsJudgmentOf log commit (WriteConflict row by) = IsConflictAt log commit row by
IsJudgmentOf log commit (Dangerous (AsPivot reader writer)) = IsAnswer log commit (Triple reader commit.number writer)
IsJudgmentOf log commit (Dangerous (AsReader pivot writer)) = IsAnswer log commit (Triple commit.number pivot writer)

-- a commit changed the row of this change
abbrev pub has_row_of : Change → Record → Bool
has_row_of change other = list_any (λ row. same_place (place_of change) (place_of row)) other.changes

-- the first of some changes whose row one of the others has too, and the number of the first of these
pub record IsFirstShared (others : List Record) (changes : List Change) (row by : ℕ) : Type 0 where
  pub change : Change
  pub within : row < length changes
  pub there : change ≡ slice_index_or changes row change
  pub free_before : list_any (λ other. share_row (take row changes) other.changes) others ≡ false
  pub other : Record
  pub first : find (has_row_of change) others ≡ Some other
  pub named : other.number ≡ by
