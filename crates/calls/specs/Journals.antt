-- A database on a journal.
use Rattle.std.specs.Prelude.{◌≡◌, ◌≢◌, ◌<◌, ◌≤◌, ◌-◌, ◌⊎◌, ℕ, Bool, true, false, List, ◌++◌, length, drop, Some, None, ⊤}
use Rattle.value.specs.declared.refusals.Refusal.{Refusal}
use Rattle.value.specs.declared.refusals.Refusal.TheVariants as refusal
use Rattle.commit.specs.Events.{EngineState}
use Rattle.delta.specs.Views.{ViewState}
use Rattle.replay.specs.Takings.{IsAdmitted}
use Rattle.journal.specs.declared.headers.Header.{Header}
use Rattle.journal.specs.Headers.{header_at}
use Rattle.journal.specs.Recovery.{said}
use Rattle.journal.specs.Spelling.{sum}
use Rattle.journal_file.specs.Files.{file_bytes, file_may_leave}
use Rattle.durable.specs.declared.faults.OpenFault.{OpenFault}
use Rattle.durable.specs.declared.faults.OpenFault.TheVariants as fault
use Rattle.durable.specs.Opening as opening
use Rattle.durable.specs.Promise.{IsReadyFor, entries_in, entries_of}
use Rattle.messages.specs.declared.responses.Response.{Response}
use Rattle.messages.specs.declared.responses.Response.TheVariants as response
use Rattle.messages.specs.declared.responses.Source.TheVariants as source
use Rattle.messages.specs.declared.responses.Unrestored.{Unrestored}
use Rattle.messages.specs.declared.responses.Unrestored.TheVariants as unrestored
use Rattle.calls.specs.declared.databases.Database.{Database}
use Rattle.calls.specs.Calls.{IsElsewhereSame, IsUnbegun}
use Rattle.calls.specs.Keeping.{AreMoved, AreWritten, FileWriter, IsShut, KeptState, waiting, with_none_waiting}
use Rattle.calls.specs.declared.journals.Taken.{Taken}
use Rattle.calls.specs.declared.journals.Taken.TheVariants as taken
use Rattle.calls.specs.Sessions.{no_sessions}
use Rattle.calls.specs.Statements.{no_statements}

-- ---- the header

-- a file begins with the header of a journal of these definitions, of so many bytes
pub record IsHead (definitions file : List ℕ) (header : Header) (base : ℕ) : Type 0 where
  pub body : List ℕ
  pub read : header_at file ≡ Some (header, body)
  pub theirs : header.declared ≡ sum definitions
  pub base_is : base ≡ length file - length body

-- it has the header of a journal of other definitions
pub record IsOfOthers (definitions file : List ℕ) : Type 0 where
  pub header : Header
  pub body : List ℕ
  pub read : header_at file ≡ Some (header, body)
  pub others : header.declared ≢ sum definitions

-- why it has no header of these definitions
abbrev pub IsNoHead : (definitions file : List ℕ) → Unrestored → Type 0
IsNoHead definitions file unrestored.Headless = header_at file ≡ None
IsNoHead definitions file unrestored.OfOthers = IsOfOthers definitions file
IsNoHead definitions file other = ⊥

-- ---- what a file is opened to

-- The engine begins on the tables that the entries behind the header leave, each of which fits those before it, and on
-- which no assertion is false. Its commits are kept behind these entries.
pub record IsOpenedBehind (file : List ℕ) (base first : ℕ) (declared : ViewState) (limit : ℕ) (engine : EngineState)
    (writer : FileWriter) : Type 0 where
  pub begun : opening.IsBegunOn declared (entries_in first (drop base file)) limit engine
  pub says : entries_of file_bytes writer ≡ entries_in first (drop base file)
  pub still_open : writer.is_shut ≡ false
  pub ready : IsReadyFor file_bytes file_may_leave 1 writer

-- a database on it, with no session and no statement
pub record IsBegunBehind (file : List ℕ) (base first : ℕ) (declared : ViewState) (limit : ℕ) (now : Database) :
    Type 0 where
  pub writer : FileWriter
  pub keeps : now.kept.writer ≡ Some writer
  pub opened : IsOpenedBehind file base first declared limit now.kept.engine writer
  pub sessions : now.sessions ≡ no_sessions
  pub statements : now.statements ≡ no_statements

-- a database on a journal of these definitions
pub record IsBegunOver (definitions : List ℕ) (declared : ViewState) (limit : ℕ) (file : List ℕ) (now : Database) :
    Type 0 where
  pub header : Header
  pub base : ℕ
  pub head : IsHead definitions file header base
  pub begun : IsBegunBehind file base header.first declared limit now

-- the definitions of a text are admitted, and a database begins on their journal
pub record IsBegunOn (definitions : List ℕ) (limit : ℕ) (file : List ℕ) (now : Database) : Type 0 where
  pub shown : ViewState
  pub admitted : IsAdmitted definitions shown
  pub begun : IsBegunOver definitions shown limit file now

-- ---- what it is refused for

abbrev pub unrestored_response : Unrestored → Response
unrestored_response why = response.Unrestored why

-- what is told of a fault: of damage the byte counts from the beginning of the file
abbrev pub Tells : OpenFault → Response → Type 0
Tells fault.NoMemory r = r ≡ response.Refused source.Definitions refusal.NoMemory
Tells fault.Disk r = r ≡ response.Refused source.Definitions refusal.NoMemory
Tells (fault.Damaged number at) r = (byte : ℕ) × (r ≡ response.Unrestored (unrestored.Damaged number byte))
Tells (fault.NotDue number) r = r ≡ response.Unrestored (unrestored.NotDue number)
Tells (fault.False why) r = r ≡ response.Refused source.Journal why

-- the entries behind the header can't be put back, or an assertion is false on what they leave; or there was no memory
pub record IsUnrestored (file : List ℕ) (base first : ℕ) (declared : ViewState) (r : Response) : Type 0 where
  pub why : OpenFault
  pub unopened : opening.IsUnopened declared first (said first (drop base file)) why
  pub told : Tells why r

-- the file has no header of these definitions
pub record IsHeadless (definitions file : List ℕ) (r : Response) : Type 0 where
  pub why : Unrestored
  pub fault : IsNoHead definitions file why
  pub told : r ≡ response.Unrestored why

-- it has, and what stands behind it is refused
pub record IsUnrestoredOver (definitions : List ℕ) (declared : ViewState) (file : List ℕ) (r : Response) : Type 0 where
  pub header : Header
  pub base : ℕ
  pub head : IsHead definitions file header base
  pub unrestored : IsUnrestored file base header.first declared r

abbrev pub IsUnopenedOver : (definitions : List ℕ) → (declared : ViewState) → (file : List ℕ) → Response → Type 0
IsUnopenedOver definitions declared file r =
    IsHeadless definitions file r ⊎ IsUnrestoredOver definitions declared file r

-- the definitions are refused, or there was no memory for them
pub record AreUnadmitted (definitions : List ℕ) (r : Response) : Type 0 where
  pub why : Refusal
  pub unbegun : IsUnbegun definitions why
  pub told : r ≡ response.Refused source.Definitions why

-- they are admitted, and the file is refused
pub record IsUnopenedOn (definitions file : List ℕ) (r : Response) : Type 0 where
  pub shown : ViewState
  pub admitted : IsAdmitted definitions shown
  pub unopened : IsUnopenedOver definitions shown file r

-- why there is no database
abbrev pub IsUnopened : (definitions file : List ℕ) → Response → Type 0
IsUnopened definitions file r = AreUnadmitted definitions r ⊎ IsUnopenedOn definitions file r

-- ---- another file

-- behind a header of so many bytes stands something else than the image of the newest commit, or there was no memory
abbrev pub IsNoImage : Response → Type 0
IsNoImage (response.Unrestored (unrestored.Damaged number at)) = ⊤
IsNoImage (response.Refused source.Definitions why) = why ≡ refusal.NoMemory
IsNoImage other = ⊥

-- a database goes on behind a header of so many bytes, or as it was
pub record IsMovedBehind (file : List ℕ) (base : ℕ) (old new : Database) (r : Response) : Type 0 where
  pub moved : AreMoved (drop base file) old.kept.writer new.kept.writer
  pub engine : new.kept.engine ≡ old.kept.engine
  pub same : IsElsewhereSame old new
  pub told : r ≡ response.Opened

abbrev pub MovesBehind : (file : List ℕ) → (base : ℕ) → Database → Database → Response → Type 0
MovesBehind file base old new r = IsMovedBehind file base old new r ⊎ ((new ≡ old) × IsNoImage r)

-- ---- the calls that wait

-- a buffer after a text was written over its front
abbrev pub written_over : List ℕ → List ℕ → List ℕ
written_over buf text = text ++ drop (length text) buf

-- they are in the buffer, and none waits any more
pub record AreHandedOut (kept : KeptState) (old new : Database) (before after : List ℕ) (len : ℕ) : Type 0 where
  pub fit : length (waiting kept.writer) ≤ length before
  pub bytes : after ≡ written_over before (waiting kept.writer)
  pub length_is : len ≡ length (waiting kept.writer)
  pub leaves : new ≡ record old { kept = with_none_waiting kept }

-- they do not fit, and wait
pub record AreTooLong (kept : KeptState) (old new : Database) (before after : List ℕ) (len : ℕ) : Type 0 where
  pub long : length before < length (waiting kept.writer)
  pub bytes : after ≡ before
  pub length_is : len ≡ length (waiting kept.writer)
  pub same : new ≡ record old { kept = kept }

-- the calls that wait are handed out where they fit
abbrev pub AreHanded : (kept : KeptState) → (old new : Database) → (before after : List ℕ) → (len : ℕ) → Taken → Type 0
AreHanded kept old new before after len taken.Whole = AreHandedOut kept old new before after len
AreHanded kept old new before after len taken.TooLong = AreTooLong kept old new before after len
AreHanded kept old new before after len taken.NotKept = ⊥

-- behind what is written of all commits that wait
pub record AreSyncedAndHanded (old new : Database) (before after : List ℕ) (len : ℕ) (is : Taken) : Type 0 where
  pub kept : KeptState
  pub same : kept.engine ≡ old.kept.engine
  pub written : AreWritten old.kept.writer kept.writer
  pub handed : AreHanded kept old new before after len is

-- there was no memory for them, and no commit is kept any more
pub record AreNotKept (old new : Database) (before after : List ℕ) (len : ℕ) : Type 0 where
  pub kept : KeptState
  pub leaves : new ≡ record old { kept = kept }
  pub same : kept.engine ≡ old.kept.engine
  pub shut : IsShut kept.writer
  pub bytes : after ≡ before
  pub length_is : len ≡ 0

abbrev pub AreTaken : (old new : Database) → (before after : List ℕ) → (len : ℕ) → Taken → Type 0
AreTaken old new before after len taken.NotKept = AreNotKept old new before after len
AreTaken old new before after len is = AreSyncedAndHanded old new before after len is
