-- The tables that a journal says.
use Rattle.std.specs.Prelude.{◌≡◌, ◌≤◌, ◌+◌, ◌^◌, ◌⊎◌, ℕ, List, [], length, replicate, Option, Some, None, Err, ⊤}
use Rattle.value.specs.declared.refusals.Refusal.{Refusal}
use Rattle.assertion.specs.Declarations.{Declared, layouts_in}
use Rattle.assertion.specs.Meaning.{State}
use Rattle.alone.specs.Alone.{IsSound}
use Rattle.delta.specs.Views.{ViewState}
use Rattle.commit.specs.Events.{EngineState}
use Rattle.commit.specs.Runs.{beginning}
use Rattle.commit.specs.Admission.{tables_if_satisfied}
use Rattle.journal.specs.declared.entries.Entry.{Entry}
use Rattle.durable.specs.declared.faults.OpenFault.{OpenFault}
use Rattle.durable.specs.declared.faults.OpenFault.TheVariants as fault
use Rattle.durable.specs.Restoring.{restored}

-- tables without rows
abbrev pub blank_state : Declared → State
blank_state declared = replicate (length declared.tables) []

abbrev pub blank_of : ViewState → ViewState
blank_of shown = record { declared = shown.declared; state = blank_state shown.declared }

-- the entries of a journal, put into tables without rows that are declared so
pub record IsRestored (declared : ViewState) (entries : List Entry) (view : ViewState) : Type 0 where
  pub same : view.declared ≡ declared.declared
  pub state : restored (layouts_in declared.declared) entries (blank_state declared.declared) ≡ Some view.state

-- an engine begins on what the entries of a journal leave, on which no assertion is false
pub record IsBegunOn (declared : ViewState) (entries : List Entry) (limit : ℕ) (engine : EngineState) : Type 0 where
  pub view : ViewState
  pub restored_is : IsRestored declared entries view
  pub sound : IsSound view.declared view.state
  pub begins : engine ≡ beginning limit view []

-- ---- why none does

-- the first assertion that is not satisfied on what the entries leave
pub record IsFalseOn (declared : ViewState) (entries : List Entry) (why : Refusal) : Type 0 where
  pub view : ViewState
  pub restored_is : IsRestored declared entries view
  pub refused : tables_if_satisfied view ≡ Err why

-- a change of the entries can't be put in, or an assertion is false on what they leave; or there was no memory
abbrev pub IsUnrestored : (declared : ViewState) → List Entry → OpenFault → Type 0
IsUnrestored declared entries fault.NoMemory = ⊤
IsUnrestored declared entries (fault.NotDue number) =
    restored (layouts_in declared.declared) entries (blank_state declared.declared) ≡ None
IsUnrestored declared entries (fault.False why) = IsFalseOn declared entries why
IsUnrestored declared entries other = ⊥

-- there is no entry, or no number behind the last
abbrev pub HasNoNext : (first count : ℕ) → Type 0
HasNoNext first count = (count ≡ 0) ⊎ (2 ^ 64 ≤ first + count)

-- why the entries of a file are not taken up: one of these, or a write of zeros behind them failed
abbrev pub IsNotTaken : (declared : ViewState) → (first : ℕ) → List Entry → OpenFault → Type 0
IsNotTaken declared first entries fault.Disk = ⊤
IsNotTaken declared first entries (fault.Damaged number at) = HasNoNext first (length entries)
IsNotTaken declared first entries other = IsUnrestored declared entries other

-- no crash left the file so; or there was no memory
abbrev pub IsDamage : OpenFault → Type 0
IsDamage fault.NoMemory = ⊤
IsDamage (fault.Damaged number at) = ⊤
IsDamage other = ⊥

-- why a file that says these entries, or none that a crash left, is not opened
abbrev pub IsUnopened : (declared : ViewState) → (first : ℕ) → Option (List Entry) → OpenFault → Type 0
IsUnopened declared first None why = IsDamage why
IsUnopened declared first (Some entries) why = IsNotTaken declared first entries why
