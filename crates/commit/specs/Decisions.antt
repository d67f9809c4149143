-- What a step of the code decides of a COMMIT.
use Rattle.std.specs.Prelude.{◌≡◌, ◌≢◌, ◌+◌, ℕ, List, length, slice_get, Some, Ok, Err}
use Rattle.value.specs.declared.refusals.Party.TheVariants.{This, Number}
use Rattle.value.specs.declared.refusals.Refusal.{Refusal}
use Rattle.value.specs.declared.refusals.Refusal.TheVariants.{NoMemory, Dangerous, WriteConflict}
use Rattle.table.specs.declared.rows.Change.{Change}
use Rattle.table.specs.Rows.{Tables, names_of}
use Rattle.alone.specs.declared.records.Record.{Record}
use Rattle.alone.specs.Order.{least_out}
use Rattle.conflict.specs.declared.dangers.Danger.{Danger}
use Rattle.conflict.specs.declared.dangers.Danger.TheVariants.{AsPivot, AsReader}
use Rattle.txn.specs.Transactions.{OpenTransaction}
use Rattle.commit.specs.declared.decisions.Decision.{Decision}
use Rattle.commit.specs.declared.decisions.Decision.TheVariants.{Accepted, Refused}
use Rattle.commit.specs.Cores.{CoreState, IsCommitAnswer, IsJudged, log_of, record_of}

-- it may be the next commit, and this is the least commit to which it conflicts; or it is refused, and not for memory
abbrev pub IsDecision : CoreState → List ℕ → OpenTransaction → Decision → Type 0
IsDecision c session t (Accepted place) =
    IsCommitAnswer c session t (Ok (length c.records + 1)) × (place ≡ least_out (log_of c) (record_of c session t))
IsDecision c session t (Refused refusal) = IsCommitAnswer c session t (Err refusal) × (refusal ≢ NoMemory)

-- the same of what the commits before it make of it
abbrev pub IsJudgment : CoreState → Record → Decision → Type 0
IsJudgment c commit (Accepted place) =
    IsJudged c commit (Ok (length c.records + 1)) × (place ≡ least_out (log_of c) commit)
IsJudgment c commit (Refused refusal) = IsJudged c commit (Err refusal) × (refusal ≢ NoMemory)

-- the refusal by a commit that changed the same row
pub record IsConflictOf (tables : Tables) (change : Change) (by : ℕ) (refusal : Refusal) : Type 0 where
  pub name : List ℕ
  pub named : slice_get (names_of tables) change.table ≡ Some name
  pub is : refusal ≡ WriteConflict name change.key by

-- the refusal by a dangerous triple
abbrev pub danger_refusal : Danger → Refusal
danger_refusal (AsPivot reader writer) = Dangerous (Number reader) This (Number writer)
danger_refusal (AsReader pivot writer) = Dangerous This (Number pivot) (Number writer)
