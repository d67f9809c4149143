-- Calls that make several events: each is what a call of its own would be, one behind the other.
use Rattle.std.specs.Prelude.{◌≡◌, ◌⊎◌, ◌++◌, ℕ, Bool, true, false, List, [], ◌∷◌, Option, Some, None}
use Rattle.std.specs.List.{list_all}
use Rattle.value.specs.declared.refusals.Refusal.TheVariants as refusal
use Rattle.syntax.specs.declared.statements.Event.TheVariants as event
use Rattle.messages.specs.declared.requests.Step.{Step}
use Rattle.messages.specs.declared.requests.StepsRequest.{StepsRequest}
use Rattle.messages.specs.declared.responses.Misuse.TheVariants as misuse
use Rattle.messages.specs.declared.responses.Outcome.{Outcome}
use Rattle.messages.specs.declared.responses.Outcome.TheVariants as outcome
use Rattle.messages.specs.declared.responses.Response.{Response}
use Rattle.messages.specs.declared.responses.Response.TheVariants as response
use Rattle.messages.specs.declared.responses.Source.TheVariants as source
use Rattle.messages.specs.declared.responses.Status.{Status}
use Rattle.messages.specs.declared.responses.Status.TheVariants as status
use Rattle.messages.specs.Requests.{RunFields, steps_request}
use Rattle.messages.specs.Statuses.{is_done, status_of}
use Rattle.calls.specs.declared.databases.Database.{Database}
use Rattle.calls.specs.Calls.{AnswersEvent, IsAnsweredIn, RunsStatement}
use Rattle.calls.specs.Sessions.{session_name}

-- nothing more is done
abbrev pub IsAll : Database → Database → List Response → Type 0
IsAll old new [] = new ≡ old
IsAll old new (r ∷ rs) = ⊥

-- an event, and what is done behind it
pub record IsFirst (First : Database → Database → Response → Type 0)
    (Behind : Database → Database → List Response → Type 0) (old new : Database) (r : Response)
    (rs : List Response) : Type 0 where
  pub between : Database
  pub first : First old between r
  pub behind : Behind between new rs

-- what is done only if something is so
abbrev pub IsIf : Bool → (Database → Database → List Response → Type 0) → Database → Database → List Response → Type 0
IsIf true Behind old new rs = Behind old new rs
IsIf false Behind old new rs = IsAll old new rs

-- ---- statements

-- a statement with its values in a session
abbrev pub fields_of : (session : ℕ) → Step → RunFields
fields_of session step = record { session = session; statement = step.statement; values = step.values }

-- statements with their values run in a session in turn, up to the first that is not done
abbrev pub AreRun : (session : ℕ) → List Step → Database → Database → List Response → Type 0
AreRun session [] old new rs = IsAll old new rs
AreRun session (step ∷ rest) old new [] = ⊥
AreRun session (step ∷ rest) old new (r ∷ rs) =
    IsFirst (RunsStatement (fields_of session step)) (IsIf (is_done r) (AreRun session rest)) old new r rs

-- the same behind other responses; all says whether all were done
pub record AreRunBehind (session : ℕ) (steps : List Step) (old new : Database) (before after : List Response)
    (all : Bool) : Type 0 where
  pub ran : List Response
  pub run : AreRun session steps old new ran
  pub done : all ≡ list_all is_done ran
  pub told : after ≡ before ++ ran

-- ---- a whole transaction

-- a COMMIT has left its transaction open: it found no memory, or could not be kept
abbrev pub leaves_open : Status → Bool
leaves_open status.NoMemory = true
leaves_open status.NotKept = true
leaves_open other = false

-- the same by its response
abbrev pub is_left_open : Response → Bool
is_left_open r = leaves_open (status_of r)

-- ROLLBACK in the session of a name
abbrev pub IsRolledBack : (name : List ℕ) → Database → Database → List Response → Type 0
IsRolledBack name old new [] = ⊥
IsRolledBack name old new (r ∷ rs) = IsFirst (IsAnsweredIn name (λ e. e ≡ event.Rollback)) IsAll old new r rs

-- COMMIT, and ROLLBACK where that finds no memory or can't be kept: its transaction is still open then
abbrev pub IsCommitted : (session : ℕ) → (name : List ℕ) → Database → Database → List Response → Type 0
IsCommitted session name old new [] = ⊥
IsCommitted session name old new (r ∷ rs) =
    IsFirst (AnswersEvent (λ e. e ≡ event.Commit) session) (IsIf (is_left_open r) (IsRolledBack name)) old new r rs

-- COMMIT where all statements were done, else ROLLBACK
abbrev pub IsEnded : (all : Bool) → (session : ℕ) → (name : List ℕ) → Database → Database → List Response → Type 0
IsEnded true session name old new rs = IsCommitted session name old new rs
IsEnded false session name old new rs = IsRolledBack name old new rs

-- what is behind BEGIN: the statements in turn, and the end
pub record IsWorked (name : List ℕ) (fields : StepsRequest) (old new : Database) (rs : List Response) : Type 0 where
  pub ran : List Response
  pub ended : List Response
  pub between : Database
  pub run : AreRun fields.session fields.steps old between ran
  pub end : IsEnded (list_all is_done ran) fields.session name between new ended
  pub told : rs ≡ ran ++ ended

-- BEGIN, and where that is done the rest
abbrev pub IsTransacted : (name : List ℕ) → StepsRequest → Database → Database → List Response → Type 0
IsTransacted name fields old new [] = ⊥
IsTransacted name fields old new (r ∷ rs) =
    IsFirst (AnswersEvent (λ e. e ≡ event.Begin) fields.session) (IsIf (is_done r) (IsWorked name fields))
    old new r rs

-- responses behind others
pub record AreAdded (Are : List Response → Type 0) (before after : List Response) : Type 0 where
  pub added : List Response
  pub are : Are added
  pub told : after ≡ before ++ added

-- ---- what the calls are answered

-- memory ran out before anything was done
abbrev pub outcome_without_memory : Outcome
outcome_without_memory = outcome.One (response.Refused source.Statement refusal.NoMemory)

-- nothing was done, and this is the response
abbrev pub IsToldAlone : Database → Database → Outcome → Outcome → Type 0
IsToldAlone old new o told = (new ≡ old) × (o ≡ told)

-- there are several responses
abbrev pub AreEach : (List Response → Type 0) → Outcome → Type 0
AreEach Are (outcome.One r) = ⊥
AreEach Are (outcome.Each rs) = Are rs

-- statements with their values run in a session, unless there is no memory for their responses
abbrev pub RunsEach : StepsRequest → Database → Database → Outcome → Type 0
RunsEach fields old new o =
    IsToldAlone old new o outcome_without_memory ⊎ AreEach (AreRun fields.session fields.steps old new) o

-- what a request for several events makes and is told, by what these make of its fields, if it could be read
abbrev pub IfRead : (StepsRequest → Database → Database → Outcome → Type 0) → Option StepsRequest → Database → Database
    → Outcome → Type 0
IfRead Make None old new o = IsToldAlone old new o (outcome.One (response.Misused misuse.BadRequest))
IfRead Make (Some fields) old new o = Make fields old new o

-- the same by its bytes, unless there is no memory to read them
abbrev pub ByRequest : (StepsRequest → Database → Database → Outcome → Type 0) → List ℕ → Database → Database → Outcome
    → Type 0
ByRequest Make request old new o =
    IsToldAlone old new o outcome_without_memory ⊎ IfRead Make (steps_request request) old new o

-- what a request to run several statements makes, and is told
abbrev pub RunsAll : List ℕ → Database → Database → Outcome → Type 0
RunsAll request old new o = ByRequest RunsEach request old new o

-- a whole transaction in the session of this name, unless there is no memory for its responses
abbrev pub TransactsNamed : (name : List ℕ) → StepsRequest → Database → Database → Outcome → Type 0
TransactsNamed name fields old new o =
    IsToldAlone old new o outcome_without_memory ⊎ AreEach (IsTransacted name fields old new) o

-- without a name no session has the number
abbrev pub TransactsBy : Option (List ℕ) → StepsRequest → Database → Database → Outcome → Type 0
TransactsBy None fields old new o = IsToldAlone old new o (outcome.One (response.Misused misuse.NoSession))
TransactsBy (Some name) fields old new o = TransactsNamed name fields old new o

-- the same of a session, if it is open
abbrev pub TransactsIn : StepsRequest → Database → Database → Outcome → Type 0
TransactsIn fields old new o = TransactsBy (session_name fields.session old.sessions) fields old new o

-- what a request for a whole transaction makes, and is told
abbrev pub Transacts : List ℕ → Database → Database → Outcome → Type 0
Transacts request old new o = ByRequest TransactsIn request old new o
