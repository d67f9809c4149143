-- Commits that are kept before they count.
use Rattle.std.specs.Prelude.{◌≡◌, ◌+◌, ◌++◌, ℕ, Bool, true, false, List, [], ◌∷◌, length, Result, Ok, Err}
use Rattle.table.specs.declared.rows.Change.{Change}
use Rattle.alone.specs.declared.answers.Answer.{Answer}
use Rattle.alone.specs.declared.answers.Answer.TheVariants.{Committed as Answered}
use Rattle.alone.specs.declared.records.Record.{Record}
use Rattle.txn.specs.Transactions.{OpenTransaction}
use Rattle.commit.specs.declared.keepers.Kept.{Kept}
use Rattle.commit.specs.declared.keepers.Kept.TheVariants.{Committed, NotKept}
use Rattle.commit.specs.declared.keepers.Unanswered.{Unanswered}
use Rattle.commit.specs.declared.keepers.Unanswered.TheVariants as unanswered
use Rattle.commit.specs.Cores.{CoreState, IsCommitAnswer, core_after_commit}

-- whether it was kept
abbrev pub was_kept : Kept → Bool
was_kept (Committed number) = true
was_kept (NotKept back) = false

-- a COMMIT that is accepted is the next commit once it is kept; else all is as it was
abbrev pub IsMade : CoreState → (session : List ℕ) → OpenTransaction → Kept → CoreState → Type 0
IsMade c session t (Committed number) after =
    IsCommitAnswer c session t (Ok number) × (after ≡ core_after_commit c session t)
IsMade c session t (NotKept back) after = (back ≡ t) × (after ≡ c)

-- one commit more, whose net change was kept with its number
pub record IsOneMore (records after : List Record) (did_keep : ℕ → List Change → Bool → Type 0) : Type 0 where
  pub commit : Record
  pub after_is : after ≡ records ++ commit ∷ []
  pub kept : did_keep (length records + 1) commit.changes true

-- the next commit could not be kept
pub record IsNotKept (records : List Record) (did_keep : ℕ → List Change → Bool → Type 0) : Type 0 where
  pub changes : List Change
  pub asked : did_keep (length records + 1) changes false

-- who keeps the commits was asked once for each that counts then, and for one that it could not keep
abbrev pub IsAskedFor : {K : Type 0} → (K → K → ℕ → List Change → Bool → Type 0) → (old new : K)
    → (before after : List Record) → Result Answer Unanswered → Type 0
IsAskedFor did_keep old new before after (Ok (Answered number)) = IsOneMore before after (did_keep old new)
IsAskedFor did_keep old new before after (Ok answer) = (new ≡ old) × (after ≡ before)
IsAskedFor did_keep old new before after (Err unanswered.NotKept) =
    IsNotKept before (did_keep old new) × (after ≡ before)
IsAskedFor did_keep old new before after (Err unanswered.NoMemory) = (new ≡ old) × (after ≡ before)
