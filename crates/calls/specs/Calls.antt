-- What each call makes of a database, and what it answers.
use Rattle.std.specs.Prelude.{◌≡◌, ◌⊎◌, ◌++◌, ◌-◌, ◌==◌, ◌&&◌, ℕ, Bool, true, false, not, List, [], ◌∷◌, drop, length, map, Option, Some, None, Ok, Err, IsSomeAnd}
use Rattle.std.specs.List.{list_all}
use Rattle.value.specs.declared.refusals.Refusal.{Refusal}
use Rattle.value.specs.declared.refusals.Refusal.TheVariants as refusal
use Rattle.value.specs.declared.values.Value.{Value}
use Rattle.value.specs.declared.values.Value.TheVariants as value
use Rattle.table.specs.Rows.{Layout, layout_of}
use Rattle.table.specs.declared.schemas.Column.{Column}
use Rattle.token.specs.Bytes.{name_of}
use Rattle.syntax.specs.declared.statements.Event.{Event}
use Rattle.syntax.specs.declared.statements.Event.TheVariants as event
use Rattle.syntax.specs.declared.statements.ScriptLine.{ScriptLine}
use Rattle.syntax.specs.declared.statements.Statement.TheVariants as statement
use Rattle.syntax.specs.declared.definitions.Definition.{Definition}
use Rattle.syntax.specs.StatementGrammar.{IsEvent}
use Rattle.syntax.specs.SchemaGrammar.{IsSchema}
use Rattle.alone.specs.declared.answers.Answer.{Answer}
use Rattle.definitions.specs.declared.redeclaration.NewAssertion.{NewAssertion}
use Rattle.definitions.specs.Redeclaration.{definition_of}
use Rattle.definitions.specs.Written.{is_assertion}
use Rattle.commit.specs.Epochs.{IsNextEpoch, is_any_open, next_start_of}
use Rattle.commit.specs.Cores.{newest_tables}
use Rattle.commit.specs.declared.keepers.Unanswered.{Unanswered}
use Rattle.commit.specs.declared.keepers.Unanswered.TheVariants as unanswered
use Rattle.commit.specs.Events.{EngineState, without_session as engine_without}
use Rattle.commit.specs.Runs.{beginning, seats_with}
use Rattle.delta.specs.Views.{ViewState}
use Rattle.journal.specs.declared.headers.Header.{Header}
use Rattle.journal.specs.Headers.{header_at}
use Rattle.replay.specs.Reports.{closing_part_of}
use Rattle.replay.specs.Takings.{IsAdmitted, IsRefused}
use Rattle.replay.specs.Texts.{IsRead, IsUnread}
use Rattle.prepared.specs.declared.faults.FillFault.{FillFault}
use Rattle.prepared.specs.declared.faults.FillFault.TheVariants as fill
use Rattle.prepared.specs.Ends.{without_semicolon}
use Rattle.prepared.specs.Numbers.{parameter_count}
use Rattle.prepared.specs.declared.prepared.Prepared.{Prepared}
use Rattle.prepared.specs.Prepared.{IsPrepared, RefusedText, event_with_values, numbers_of}
use Rattle.messages.specs.Reading.{number_at}
use Rattle.messages.specs.declared.faults.FieldFault.{FieldFault}
use Rattle.messages.specs.declared.faults.FieldFault.TheVariants as field
use Rattle.messages.specs.declared.operations.Operation.{Operation}
use Rattle.messages.specs.declared.operations.Operation.TheVariants as op
use Rattle.messages.specs.declared.responses.Misuse.TheVariants as misuse
use Rattle.messages.specs.declared.responses.Response.{Response}
use Rattle.messages.specs.declared.responses.Response.TheVariants as response
use Rattle.messages.specs.declared.responses.Source.{Source}
use Rattle.messages.specs.declared.responses.Source.TheVariants as source
use Rattle.messages.specs.declared.responses.Unrestored.TheVariants as unrestored
use Rattle.messages.specs.Names.{is_name}
use Rattle.messages.specs.Requests.{RunFields, checkpoint_request, only_number, run_request}
use Rattle.calls.specs.declared.databases.Database.{Database}
use Rattle.durable.specs.Images.{image_file}
use Rattle.calls.specs.Keeping.{AreMoved, IsKeptAnswer, IsNotKept, commit_count, counted_anew, is_journaled, with_engine}
use Rattle.calls.specs.Sessions.{has_room, is_named, no_sessions, session_name, with_session, without_session}
use Rattle.calls.specs.Statements.{no_statements, statement_at, with_statement, without_statement}

-- ---- calls that are not made: nothing has changed

-- the response says why
pub record IsTold (old new : Database) (is told : Response) : Type 0 where
  pub response : is ≡ told
  pub same : new ≡ old

-- the response to a call that was refused: what was refused, and why
abbrev pub refusal_response : Source → Refusal → Response
refusal_response source why = response.Refused source why

-- the response to a request whose fields could not be read
abbrev pub field_fault_response : Source → FieldFault → Response
field_fault_response source field.NoMemory = response.Refused source refusal.NoMemory
field_fault_response source field.Malformed = response.Misused misuse.BadRequest

-- the response to a run whose values could not be filled in
abbrev pub fill_fault_response : FillFault → Response
fill_fault_response fill.NoMemory = response.Refused source.Statement refusal.NoMemory
fill_fault_response (fill.WrongCount wanted given) = response.Misused (misuse.WrongCount wanted)
fill_fault_response (fill.NullNotAllowed parameter) = response.Misused (misuse.BadValue parameter)
fill_fault_response (fill.NumberOutOfRange parameter) = response.Misused (misuse.BadValue parameter)
fill_fault_response (fill.TextNotPlain parameter) = response.Misused (misuse.BadValue parameter)

-- memory ran out
abbrev pub IsWithoutMemory : Source → Database → Database → Response → Type 0
IsWithoutMemory source old new r = IsTold old new r (response.Refused source refusal.NoMemory)

-- a call with one number, of a session or a statement
abbrev pub WithNumber : Option ℕ → (ℕ → Database → Database → Response → Type 0) → Database → Database → Response
    → Type 0
WithNumber None Does old new r = IsTold old new r (response.Misused misuse.BadRequest)
WithNumber (Some n) Does old new r = Does n old new r

-- ---- sessions

-- a session of this name is open, which was not, and for which there was room
pub record IsOpenedAs (name : List ℕ) (old new : Database) (number : ℕ) : Type 0 where
  pub number_is : number ≡ old.sessions.next
  pub free : is_named name old.sessions ≡ false
  pub room : has_room old.kept.engine name old.sessions ≡ true
  pub leaves : new ≡ record {
    kept = with_engine old.kept (record old.kept.engine { seats = seats_with old.kept.engine.seats name });
    sessions = with_session name old.sessions;
    statements = old.statements;
  }

-- what a call to open a session of this name makes, and is told
abbrev pub OpensNamed : List ℕ → Database → Database → Response → Type 0
OpensNamed name old new (response.Session n) = IsOpenedAs name old new n
OpensNamed name old new (response.Misused m) =
    (m ≡ misuse.NameTaken) × (is_named name old.sessions ≡ true) × (new ≡ old)
OpensNamed name old new (response.Refused from refusal.TooManySessions) =
    (from ≡ source.Session) × (has_room old.kept.engine name old.sessions ≡ false) × (new ≡ old)
OpensNamed name old new (response.Refused from r) =
    (from ≡ source.Session) × (r ≡ refusal.NoMemory) × (new ≡ old)
OpensNamed name old new other = ⊥

-- by a name of the language, in which case does not count
abbrev pub OpensIf : (named : Bool) → List ℕ → Database → Database → Response → Type 0
OpensIf false bytes old new r = IsTold old new r (response.Misused misuse.BadName)
OpensIf true bytes old new r = IsWithoutMemory source.Session old new r ⊎ OpensNamed (name_of bytes) old new r

-- what a call to open a session makes, and is told
abbrev pub OpensSession : List ℕ → Database → Database → Response → Type 0
OpensSession bytes old new r = OpensIf (is_name bytes) bytes old new r

-- A session leaves: its open transaction is rolled back, its seat is free for another, and its number is none from then
-- on.
pub record IsClosedAs (number : ℕ) (name : List ℕ) (old new : Database) (r : Response) : Type 0 where
  pub leaves : new ≡ record {
    kept = with_engine old.kept (engine_without old.kept.engine name);
    sessions = without_session number old.sessions;
    statements = old.statements;
  }
  pub told : r ≡ response.SessionClosed

-- the session of this name is closed; without a name no session has the number
abbrev pub ClosesNamed : Option (List ℕ) → ℕ → Database → Database → Response → Type 0
ClosesNamed None number old new r = IsTold old new r (response.Misused misuse.NoSession)
ClosesNamed (Some name) number old new r = IsClosedAs number name old new r

-- what a call to close the session of a number makes, and is told
abbrev pub ClosesSession : ℕ → Database → Database → Response → Type 0
ClosesSession number old new r = ClosesNamed (session_name number old.sessions) number old new r

-- ---- events of a session

-- all but the engine and its journal is as it was
abbrev pub IsElsewhereSame : Database → Database → Type 0
IsElsewhereSame old new = new ≡ record old { kept = new.kept }

-- the engine answers an event in the seat of the session's name, and what it commits is kept before it counts
pub record IsAnsweredIn (name : List ℕ) (Is : Event → Type 0) (old new : Database) (r : Response) : Type 0 where
  pub script_line : ScriptLine
  pub session_is : script_line.session ≡ name
  pub event_is : Is script_line.event
  pub answer : Answer
  pub answered : IsKeptAnswer old.kept script_line answer new.kept
  pub same : IsElsewhereSame old new
  pub told : r ≡ response.Answered script_line answer

-- its COMMIT is accepted, and could not be kept: the transactions are as they were
pub record IsNotKeptIn (name : List ℕ) (Is : Event → Type 0) (old new : Database) (r : Response) : Type 0 where
  pub event : Event
  pub event_is : Is event
  pub not_kept : IsNotKept old.kept new.kept
  pub same : IsElsewhereSame old new
  pub told : r ≡ response.NotKept name

-- what is told of an event that was not answered
abbrev pub unanswered_response : ScriptLine → Unanswered → Response
unanswered_response script_line unanswered.NotKept = response.NotKept script_line.session
unanswered_response script_line unanswered.NoMemory = response.Refused source.Statement refusal.NoMemory

-- an event of a session by its name is answered
abbrev pub AnswersLine : ScriptLine → Database → Database → Response → Type 0
AnswersLine script_line old new r =
    IsWithoutMemory source.Statement old new r
    ⊎ IsAnsweredIn script_line.session (λ e. e ≡ script_line.event) old new r
    ⊎ IsNotKeptIn script_line.session (λ e. e ≡ script_line.event) old new r

-- an event of the session of this name is answered; without a name no session has the number
abbrev pub AnswersNamed : Option (List ℕ) → (Event → Type 0) → Database → Database → Response → Type 0
AnswersNamed None Is old new r = IsTold old new r (response.Misused misuse.NoSession)
AnswersNamed (Some name) Is old new r =
    IsWithoutMemory source.Statement old new r ⊎ IsAnsweredIn name Is old new r ⊎ IsNotKeptIn name Is old new r

-- an event of a session, if it is open
abbrev pub AnswersEvent : (Event → Type 0) → ℕ → Database → Database → Response → Type 0
AnswersEvent Is session old new r = AnswersNamed (session_name session old.sessions) Is old new r

-- the event of a text
pub record IsTextRefused (text : List ℕ) (old new : Database) (r : Response) : Type 0 where
  pub why : Refusal
  pub fault : IsUnread IsEvent text why
  pub told : IsTold old new r (response.Refused source.Statement why)

-- what a call makes that runs the event of a text in a session: the text is refused, or its event answered
abbrev pub ExecutesText : List ℕ → ℕ → Database → Database → Response → Type 0
ExecutesText text session old new r =
    IsTextRefused text old new r ⊎ AnswersEvent (λ e. IsRead IsEvent text e) session old new r

-- the same of what was read of the request, if it could be read
abbrev pub Executes : Option (ℕ × List ℕ) → Database → Database → Response → Type 0
Executes None old new r = IsTold old new r (response.Misused misuse.BadRequest)
Executes (Some read) old new r = ExecutesText (without_semicolon read.1) read.0 old new r

-- ---- prepared statements

-- a statement is kept, as the text has it
pub record IsKept (text : List ℕ) (old new : Database) (r : Response) : Type 0 where
  pub statement : Prepared
  pub prepared : IsPrepared text statement
  pub leaves : new ≡ record old { statements = with_statement statement old.statements }
  pub told : r ≡ response.Prepared old.statements.next (parameter_count (numbers_of text))

-- the text is none that can be prepared
pub record IsUnprepared (text : List ℕ) (old new : Database) (r : Response) : Type 0 where
  pub why : Refusal
  pub refused : RefusedText text why
  pub told : IsTold old new r (response.Refused source.Statement why)

-- what a call to prepare a statement makes, and is told
abbrev pub PreparesText : List ℕ → Database → Database → Response → Type 0
PreparesText text old new r = IsUnprepared text old new r ⊎ IsKept text old new r

-- this statement is forgotten; without one no statement has the number
abbrev pub ForgetsKept : Option Prepared → ℕ → Database → Database → Response → Type 0
ForgetsKept None number old new r = IsTold old new r (response.Misused misuse.NoStatement)
ForgetsKept (Some statement) number old new r =
    (r ≡ response.Forgotten) × (new ≡ record old { statements = without_statement number old.statements })

-- what a call to forget the statement of a number makes, and is told
abbrev pub Forgets : ℕ → Database → Database → Response → Type 0
Forgets number old new r = ForgetsKept (statement_at number old.statements) number old new r

-- a statement is run with values: it is the event with these constants
pub record IsUnfilled (statement : Prepared) (values : List Value) (old new : Database)
    (r : Response) : Type 0 where
  pub fault : FillFault
  pub due : ¬ (fault ≡ fill.NoMemory) → event_with_values statement values ≡ Err fault
  pub told : IsTold old new r (fill_fault_response fault)

-- this statement is run with values, if they fit it; without one no statement has the number
abbrev pub RunsKept : Option Prepared → RunFields → Database → Database → Response → Type 0
RunsKept None fields old new r = IsTold old new r (response.Misused misuse.NoStatement)
RunsKept (Some statement) fields old new r =
    IsUnfilled statement fields.values old new r
    ⊎ AnswersEvent (λ e. event_with_values statement fields.values ≡ Ok e) fields.session old new r

-- what a call makes that runs a prepared statement with values
abbrev pub RunsStatement : RunFields → Database → Database → Response → Type 0
RunsStatement fields old new r = RunsKept (statement_at fields.statement old.statements) fields old new r

-- the same of what was read of the request, if it could be read
abbrev pub RunsRead : Option RunFields → Database → Database → Response → Type 0
RunsRead None old new r = IsTold old new r (response.Misused misuse.BadRequest)
RunsRead (Some fields) old new r = RunsStatement fields old new r

-- what a request to run a prepared statement makes, and is told
abbrev pub Runs : List ℕ → Database → Database → Response → Type 0
Runs request old new r = IsWithoutMemory source.Statement old new r ⊎ RunsRead (run_request request) old new r

-- ---- reports and checkpoints

-- what a call for the report is told: the closing part of the commits so far
abbrev pub Reports : Database → Database → Response → Type 0
Reports old new r =
    IsWithoutMemory source.Rules old new r ⊎ IsTold old new r (response.Closing (closing_part_of old.kept.engine.core))

-- a name of the language, in which case does not count
abbrev pub named_if : Bool → List ℕ → Option (List ℕ)
named_if true bytes = Some (name_of bytes)
named_if false bytes = None

-- the name that a value has, if it is a text
abbrev pub value_name : Value → Option (List ℕ)
value_name value.Null = None
value_name (value.Int n) = None
value_name (value.Text bytes) = named_if (is_name bytes) bytes

-- the names of all, if each has one
abbrev pub with_first : Option (List ℕ) → Option (List (List ℕ)) → Option (List (List ℕ))
with_first None names = None
with_first (Some name) None = None
with_first (Some name) (Some names) = Some (name ∷ names)

-- the names of the assertions to drop, if each value is a name
abbrev pub names_of : List Value → Option (List (List ℕ))
names_of [] = Some []
names_of (v ∷ vs) = with_first (value_name v) (names_of vs)

-- a name was added to others, if the value has one
abbrev pub IsNameAdded : (added : Bool) → Value → (old new : List (List ℕ)) → Type 0
IsNameAdded true v old new = IsSomeAnd (value_name v) (λ name. new ≡ old ++ name ∷ [])
IsNameAdded false v old new = value_name v ≡ None

-- the rules that a text creates
pub record AreRules (text : List ℕ) (created : List NewAssertion) : Type 0 where
  pub definitions : List Definition
  pub read : IsRead IsSchema text definitions
  pub written : definitions ≡ map definition_of created

-- a text of definitions, one of which is no assertion
pub record HasOther (text : List ℕ) (why : Refusal) : Type 0 where
  pub definitions : List Definition
  pub read : IsRead IsSchema text definitions
  pub other : list_all is_assertion definitions ≡ false
  pub refused : why ≡ refusal.OutsideClass

-- why a text writes no rules: it is no text of definitions, or one of them is no assertion; or there was no memory
abbrev pub AreNoRules : (text : List ℕ) → Refusal → Type 0
AreNoRules text why = IsUnread IsSchema text why ⊎ HasOther text why

-- the rules' text is refused
pub record AreUnwritten (text : List ℕ) (old new : Database) (r : Response) : Type 0 where
  pub why : Refusal
  pub fault : AreNoRules text why
  pub told : IsTold old new r (response.Refused source.Rules why)

-- the engine refuses the epoch: a transaction is open, or the rules can't be changed so
pub record AreUnchanged (dropped : List (List ℕ)) (created : List NewAssertion) (old new : Database) (r : Response) :
    Type 0 where
  pub why : Refusal
  pub refused : next_start_of dropped created old.kept.engine ≡ Err why
  pub told : IsTold old new r (response.Refused source.Rules why)

-- rules are dropped and created, and a new epoch begins; the response is the closing part of the one before
pub record IsChanged (dropped : List (List ℕ)) (created : List NewAssertion) (old new : Database) (r : Response) :
    Type 0 where
  pub closed : is_any_open old.kept.engine.seats ≡ false
  pub next : IsNextEpoch dropped created old.kept.engine.core new.kept.engine.core
  pub seats : new.kept.engine.seats ≡ old.kept.engine.seats
  pub writer : new.kept.writer ≡ counted_anew old.kept.writer
  pub sessions : new.sessions ≡ old.sessions
  pub statements : new.statements ≡ old.statements
  pub told : r ≡ response.Changed (closing_part_of old.kept.engine.core)

-- what a checkpoint makes that drops rules of these names and creates these: another epoch, or nothing
abbrev pub BeginsEpoch : List (List ℕ) → List NewAssertion → Database → Database → Response → Type 0
BeginsEpoch dropped created old new r =
    IsWithoutMemory source.Rules old new r ⊎ AreUnchanged dropped created old new r
    ⊎ IsChanged dropped created old new r

-- rules are dropped or created
abbrev pub changes_any : List (List ℕ) → List NewAssertion → Bool
changes_any dropped created = not ((length dropped == 0) && (length created == 0))

-- a journal is of the definitions as they stand
abbrev pub ChangesUnless : (refused : Bool) → List (List ℕ) → List NewAssertion → Database → Database → Response
    → Type 0
ChangesUnless true dropped created old new r = IsTold old new r (response.Misused misuse.Journaled)
ChangesUnless false dropped created old new r = BeginsEpoch dropped created old new r

abbrev pub ChangesRules : List (List ℕ) → List NewAssertion → Database → Database → Response → Type 0
ChangesRules dropped created old new r =
    ChangesUnless (is_journaled old.kept && changes_any dropped created) dropped created old new r

-- the same of the rules that a text writes
pub record ChangesWritten (dropped : List (List ℕ)) (text : List ℕ) (old new : Database) (r : Response) : Type 0 where
  pub created : List NewAssertion
  pub rules : AreRules text created
  pub changes : ChangesRules dropped created old new r

-- the same of the names, if each value is one: the text is looked at behind them
abbrev pub ChangesNamed : Option (List (List ℕ)) → (text : List ℕ) → Database → Database → Response → Type 0
ChangesNamed None text old new r =
    IsWithoutMemory source.Rules old new r ⊎ IsTold old new r (response.Misused misuse.BadName)
ChangesNamed (Some dropped) text old new r =
    IsWithoutMemory source.Rules old new r ⊎ AreUnwritten text old new r ⊎ ChangesWritten dropped text old new r

-- the same of what was read of the request, if it could be read
abbrev pub ChangesRead : Option (List ℕ × List Value) → Database → Database → Response → Type 0
ChangesRead None old new r = IsTold old new r (response.Misused misuse.BadRequest)
ChangesRead (Some fields) old new r = ChangesNamed (names_of fields.1) fields.0 old new r

-- what a request for a checkpoint makes, and is told: the first fault decides, in the order of the request's fields,
-- its names, its text and the rules; and there may be no memory
abbrev pub Checkpoints : List ℕ → Database → Database → Response → Type 0
Checkpoints request old new r =
    IsWithoutMemory source.Rules old new r ⊎ ChangesRead (checkpoint_request request) old new r

-- ---- the image

-- the beginning of a journal of these definitions, of the committed tables
abbrev pub image_of : (definitions : List ℕ) → Database → List ℕ
image_of definitions now = image_file definitions (commit_count now.kept) (newest_tables now.kept.engine.core)

-- what a call for it is told
abbrev pub ShowsImage : (definitions : List ℕ) → Database → Database → Response → Type 0
ShowsImage definitions old new r =
    IsWithoutMemory source.Rules old new r ⊎ IsTold old new r (response.Image (image_of definitions old))

-- ---- another file

-- The commits go on in a file that begins with the header of a journal, and has one entry behind it, of the newest
-- commit.
pub record IsMoved (file : List ℕ) (old new : Database) (r : Response) : Type 0 where
  pub header : Header
  pub body : List ℕ
  pub read : header_at file ≡ Some (header, body)
  pub first : header.first ≡ commit_count old.kept
  pub moved : AreMoved (drop (length file - length body) file) old.kept.writer new.kept.writer
  pub journaled : is_journaled old.kept ≡ true
  pub engine : new.kept.engine ≡ old.kept.engine
  pub same : IsElsewhereSame old new
  pub told : r ≡ response.Opened

-- why they do not: there is no journal, the file is none, or what stands in it is something else; or there is no memory
abbrev pub IsUnmoved : (file : List ℕ) → Database → Response → Type 0
IsUnmoved file old (response.Misused m) = m ≡ misuse.BadRequest
IsUnmoved file old (response.Unrestored unrestored.Headless) = header_at file ≡ None
IsUnmoved file old (response.Unrestored (unrestored.Damaged number at)) = is_journaled old.kept ≡ true
IsUnmoved file old (response.Refused source.Definitions why) = why ≡ refusal.NoMemory
IsUnmoved file old other = ⊥

-- what a request for it makes, and is told
abbrev pub MovesTo : (file : List ℕ) → Database → Database → Response → Type 0
MovesTo file old new r = IsMoved file old new r ⊎ ((new ≡ old) × IsUnmoved file old r)

-- ---- the columns of a SELECT that lists all

-- the columns of a table, if there is one
abbrev pub columns_in : Option Layout → List Column
columns_in None = []
columns_in (Some layout) = layout.columns

-- the columns of the table of a name
abbrev pub table_columns : List ℕ → Database → List Column
table_columns table now = columns_in (layout_of table now.kept.engine.core.declared.tables)

-- the columns of the table that a SELECT reads; none for any other event
abbrev pub columns_of : Event → Database → List Column
columns_of (event.Run (statement.Select select)) now = table_columns select.table now
columns_of other now = []

-- the columns of the table of the SELECT that was answered, for the reply
abbrev pub all_columns : Response → Database → List Column
all_columns (response.Answered script_line answer) now = columns_of script_line.event now
all_columns other now = []

-- ---- the beginning

-- the definitions of a text are read and admitted, and each assertion means what they write
pub record IsBeginning (text : List ℕ) (limit : ℕ) (engine : EngineState) : Type 0 where
  pub shown : ViewState
  pub admitted : IsAdmitted text shown
  pub is : engine ≡ beginning limit shown []

-- the text is none of definitions, or they are refused
abbrev pub IsUnbegun : (text : List ℕ) → Refusal → Type 0
IsUnbegun text why = IsUnread IsSchema text why ⊎ IsRefused text why

-- an engine before its first event, with no session and no statement
pub record IsBegun (text : List ℕ) (limit : ℕ) (now : Database) : Type 0 where
  pub engine : IsBeginning text limit now.kept.engine
  pub alone : now.kept.writer ≡ None
  pub sessions : now.sessions ≡ no_sessions
  pub statements : now.statements ≡ no_statements

-- ---- one call

-- what an operation on a database makes, and is told; those of several events are none that one response answers
abbrev pub IsOperated : Operation → List ℕ → Database → Database → Response → Type 0
IsOperated op.Again request old new r = IsTold old new r (response.Misused misuse.BadRequest)
IsOperated op.Line request old new r = IsTold old new r (response.Misused misuse.BadRequest)
IsOperated op.OpenSession request old new r = OpensSession request old new r
IsOperated op.CloseSession request old new r = WithNumber (only_number request) ClosesSession old new r
IsOperated op.Prepare request old new r = PreparesText (without_semicolon request) old new r
IsOperated op.Forget request old new r = WithNumber (only_number request) Forgets old new r
IsOperated op.Run request old new r = Runs request old new r
IsOperated op.Execute request old new r = Executes (number_at request) old new r
IsOperated op.Begin request old new r =
    WithNumber (only_number request) (AnswersEvent (λ e. e ≡ event.Begin)) old new r
IsOperated op.BeginReadOnly request old new r =
    WithNumber (only_number request) (AnswersEvent (λ e. e ≡ event.BeginReadOnly)) old new r
IsOperated op.Commit request old new r =
    WithNumber (only_number request) (AnswersEvent (λ e. e ≡ event.Commit)) old new r
IsOperated op.Rollback request old new r =
    WithNumber (only_number request) (AnswersEvent (λ e. e ≡ event.Rollback)) old new r
IsOperated op.Report request old new r = Reports old new r
IsOperated op.Checkpoint request old new r = Checkpoints request old new r
IsOperated op.RunAll request old new r = IsTold old new r (response.Misused misuse.BadRequest)
IsOperated op.Transact request old new r = IsTold old new r (response.Misused misuse.BadRequest)
IsOperated op.Image request old new r = ShowsImage request old new r
IsOperated op.Move request old new r = MovesTo request old new r
