-- What who keeps the commits of threads has done.
use Rattle.std.specs.Prelude.{◌≡◌, ◌+◌, ◌⊎◌, ℕ, Bool, true, false, List, []}
use Rattle.table.specs.declared.rows.Change.{Change}
use Rattle.alone.specs.declared.answers.Answer.{Answer}
use Rattle.alone.specs.declared.answers.Answer.TheVariants.{Committed}
use Rattle.durable.specs.declared.writers.Writer.{Writer}
use Rattle.durable.specs.Batches.{entries_waiting}
use Rattle.durable.specs.Promise.{DidKeep}

-- a writer, the number of the next commit, and whether the one that it was asked for last could not be kept
pub record KeepingState (D : Type 0) : Type 0 where
  pub writer : Writer D
  pub next : ℕ
  pub has_failed : Bool

module _ {D : Type 0} (seen : D → List ℕ) (may_leave : D → List ℕ → Type 0) (moment : D → ℕ)
    (left_since : D → ℕ → List ℕ → Type 0) where
  -- The next commit has been kept, as its writer keeps it, behind those before it, and none waits for a sync: it is on
  -- the disk.
  pub record HasKeptNext (old new : KeepingState D) (number : ℕ) (changes : List Change) : Type 0 where
    pub due : number ≡ old.next
    pub next : new.next ≡ number + 1
    pub well : new.has_failed ≡ false
    pub did : DidKeep seen may_leave moment left_since old.writer new.writer number changes true
    pub none : entries_waiting new.writer.batch ≡ []

  -- the writer was not asked, or in vain
  abbrev pub DidKeepNothing : (old new : KeepingState D) → (number : ℕ) → List Change → Type 0
  DidKeepNothing old new number changes =
      (new.writer ≡ old.writer) ⊎ DidKeep seen may_leave moment left_since old.writer new.writer number changes false

  -- It could not be kept, and that is noted.
  pub record HasFailed (old new : KeepingState D) (number : ℕ) (changes : List Change) : Type 0 where
    pub next : new.next ≡ old.next
    pub noted : new.has_failed ≡ true
    pub did : DidKeepNothing old new number changes

  abbrev pub HasAnswered : (old new : KeepingState D) → (number : ℕ) → List Change → Bool → Type 0
  HasAnswered old new number changes true = HasKeptNext old new number changes
  HasAnswered old new number changes false = HasFailed old new number changes

  -- What became of a COMMIT is what it was answered. One that is answered a number was kept under it. One that is
  -- marked was asked for in vain. Of any other nobody was asked to keep anything.
  abbrev pub IsKeptAs : (old new : KeepingState D) → List Change → Answer → (is_unkept : Bool) → Type 0
  IsKeptAs old new changes (Committed number) is_unkept = HasKeptNext old new number changes
  IsKeptAs old new changes answer true = (number : ℕ) × HasFailed old new number changes
  IsKeptAs old new changes answer false = (new.writer ≡ old.writer) × (new.next ≡ old.next)
