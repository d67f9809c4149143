-- Epochs, one after the other: each begins with the tables that the one before left, under other assertions.
use Rattle.std.specs.Prelude.{◌≡◌, ◌≢◌, ◌≤◌, ◌++◌, ℕ, Bool, true, not, is_some, List, [], ◌∷◌, length, map, slice_get, take, Option, Some, None, Result, Ok, Err, ⊤}
use Rattle.std.specs.List.{list_any}
use Rattle.std.specs.Option.{option_map}
use Rattle.value.specs.declared.refusals.Refusal.{Refusal}
use Rattle.value.specs.declared.refusals.Refusal.TheVariants.{NoMemory, TransactionOpen}
use Rattle.value.specs.Results.{and_then, if_holds}
use Rattle.meaning.specs.Laws.{Pairs}
use Rattle.delta.specs.Views.{ViewState}
use Rattle.txn.specs.Transactions.{truths_on}
use Rattle.definitions.specs.declared.redeclaration.NewAssertion.{NewAssertion}
use Rattle.definitions.specs.Redeclaration.{redeclaration}
use Rattle.commit.specs.declared.engine.Outcome.{Outcome}
use Rattle.commit.specs.declared.epochs.Epoch.{Epoch}
use Rattle.commit.specs.declared.seats.Seat.{Seat}
use Rattle.commit.specs.Admission.{tables_if_satisfied}
use Rattle.commit.specs.Cores.{CoreState, IsSerializable, newest_tables}
use Rattle.commit.specs.Events.{EngineState}
use Rattle.commit.specs.Fitting.{AllFit}
use Rattle.commit.specs.Runs.{AreAnswers, beginning, empty_core, led_to}
use Rattle.commit.specs.Told.{WereToldAlone}
use Rattle.commit.specs.Verdicts.{live_truths}

-- the tables with which the next epoch begins, if every assertion is satisfied on them
abbrev pub next_start : (dropped : List (List ℕ)) → (created : List NewAssertion) → ViewState → Result ViewState Refusal
next_start dropped created now = and_then (redeclaration dropped created now) tables_if_satisfied

-- the tables before the first commit
abbrev pub start_of : CoreState → ViewState
start_of c = record { declared = c.declared; state = c.start }

-- a core without commits goes on from the newest tables of another, with the same limit
pub record IsNextEpoch (dropped : List (List ℕ)) (created : List NewAssertion) (before after : CoreState) :
    Type 0 where
  pub start : next_start dropped created (newest_tables before) ≡ Ok (start_of after)
  pub empty : after ≡ empty_core before.limit (start_of after)

-- whether a transaction is open
abbrev pub is_any_open : List Seat → Bool
is_any_open seats = list_any (λ seat. is_some seat.txn) seats

-- where none is, the sessions go on from the newest tables
abbrev pub next_start_of : (dropped : List (List ℕ)) → (created : List NewAssertion) → EngineState
    → Result ViewState Refusal
next_start_of dropped created now =
    if_holds (not (is_any_open now.seats)) TransactionOpen (next_start dropped created (newest_tables now.core))

-- What an epoch that began after these tables led to: what its events were answered, up to the first for whose answer
-- there was no room, and what they left; and of this all that holds of each run.
pub record IsOutcome (limit : ℕ) (before : ViewState) (epoch : Epoch) (outcome : Outcome) : Type 0 where
  pub start : ViewState
  pub starts : next_start epoch.dropped.items epoch.created.items before ≡ Ok start
  pub within : length outcome.answers.items ≤ length epoch.lines
  pub answers : AreAnswers (beginning limit start epoch.lines)
      (take (length outcome.answers.items) epoch.lines) outcome.answers.items
  pub left : outcome.engine ≡ led_to (beginning limit start epoch.lines)
      (take (length outcome.answers.items) epoch.lines) outcome.answers.items
  pub verdicts : outcome.committed.items ≡ truths_on (newest_tables outcome.engine.core)
  pub live : map (option_map (λ truths. truths.items)) outcome.live.items ≡ map live_truths outcome.engine.seats
  pub serializable : IsSerializable outcome.engine.core
  pub told : WereToldAlone outcome.engine.core (take (length outcome.answers.items) epoch.lines)
      outcome.answers.items
  pub fit : AllFit outcome.engine

-- the tables that the last of some epochs left
abbrev pub tables_left : ViewState → List Outcome → ViewState
tables_left before [] = before
tables_left before (outcome ∷ rest) = tables_left (newest_tables outcome.engine.core) rest

-- each event of an epoch was answered
abbrev pub IsWhole : Epoch → Outcome → Type 0
IsWhole epoch outcome = length outcome.answers.items ≡ length epoch.lines

-- an epoch with these behind it: none, or it was answered whole
abbrev pub IsWholeBefore : Epoch → Outcome → (rest : List Outcome) → Type 0
IsWholeBefore epoch outcome [] = ⊤
IsWholeBefore epoch outcome (next ∷ rest) = IsWhole epoch outcome

-- each epoch begins after the tables that the one before left, which was answered whole
abbrev pub AreOutcomes : (limit : ℕ) → ViewState → List Epoch → List Outcome → Type 0
AreOutcomes limit before epochs [] = ⊤
AreOutcomes limit before [] (outcome ∷ rest) = ⊥
AreOutcomes limit before (epoch ∷ epochs) (outcome ∷ rest) =
    IsOutcome limit before epoch outcome × IsWholeBefore epoch outcome rest
    × AreOutcomes limit (newest_tables outcome.engine.core) epochs rest

-- an epoch more has passed, each of whose events was answered or not
pub record IsOneMore (limit : ℕ) (before : ViewState) (epoch : Epoch) (outcomes more : List Outcome) (whole : Bool) :
    Type 0 where
  pub outcome : Outcome
  pub is : IsOutcome limit (tables_left before outcomes) epoch outcome
  pub more_is : more ≡ outcomes ++ outcome ∷ []
  pub whole_is : whole ≡ true → IsWhole epoch outcome

-- the next epoch does not begin, which is said; those before it were answered whole
pub record IsRefusedNext (before : ViewState) (epochs : List Epoch) (outcomes : List Outcome) (refusal : Refusal) :
    Type 0 where
  pub epoch : Epoch
  pub whole : Pairs IsWhole (take (length outcomes) epochs) outcomes
  pub next : slice_get epochs (length outcomes) ≡ Some epoch
  pub refused : next_start epoch.dropped.items epoch.created.items (tables_left before outcomes) ≡ Err refusal

-- why the epochs ended: all have, or the next was refused, or there was no memory
abbrev pub IsEnd : ViewState → List Epoch → List Outcome → Option Refusal → Type 0
IsEnd before epochs outcomes None = Pairs IsWhole epochs outcomes
IsEnd before epochs outcomes (Some refusal) = refusal ≢ NoMemory → IsRefusedNext before epochs outcomes refusal
