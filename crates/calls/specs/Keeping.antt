-- An engine, and who keeps its commits.
use Rattle.std.specs.Prelude.{◌≡◌, ◌+◌, ℕ, Bool, true, List, [], length, is_some, Option, Some, None, Result, Ok, Err, ⊤}
use Rattle.syntax.specs.declared.statements.ScriptLine.{ScriptLine}
use Rattle.alone.specs.declared.answers.Answer.{Answer}
use Rattle.alone.specs.declared.records.Record.{Record}
use Rattle.commit.specs.Events.{EngineState, IsAnswered, after}
use Rattle.commit.specs.Runs.{seats_with}
use Rattle.commit.specs.Keepers.{IsAskedFor}
use Rattle.commit.specs.declared.keepers.Unanswered.{Unanswered}
use Rattle.commit.specs.declared.keepers.Unanswered.TheVariants as unanswered
use Rattle.journal_file.specs.declared.files.JournalFile.{JournalFile}
use Rattle.journal_file.specs.Files as files
use Rattle.durable.specs.declared.writers.Writer.{Writer}
use Rattle.durable.specs.Promise.{DidKeep, HasFlushed, HasMoved, IsReadyFor}

-- who writes commits into a file whose calls wait
abbrev pub FileWriter : Type 0
FileWriter = Writer (JournalFile (List ℕ))

-- an engine, and who keeps its commits, where they are kept
pub record KeptState : Type 0 where
  pub engine : EngineState
  pub writer : Option FileWriter

-- with another engine
abbrev pub with_engine : KeptState → EngineState → KeptState
with_engine now engine = record { engine = engine; writer = now.writer }

-- there is a journal
abbrev pub is_journaled : KeptState → Bool
is_journaled now = is_some now.writer

-- who keeps the commits waits for the one behind so many
abbrev pub IsInStep : (count : ℕ) → Option FileWriter → Type 0
IsInStep count None = ⊤
IsInStep count (Some w) = IsReadyFor files.file_bytes files.file_may_leave (count + 1) w

-- the number of the last commit, of the journal where there is one
abbrev pub last_of : Option FileWriter → ℕ
last_of None = 0
last_of (Some w) = w.last

abbrev pub commit_count : KeptState → ℕ
commit_count now = last_of now.writer + length now.engine.core.records

-- ---- events

-- The journal was asked for each commit that counts then, and for one that it could not keep. Without a journal all
-- that is answered counts.
abbrev pub IsAsked : (old new : Option FileWriter) → (before after : List Record) → Result Answer Unanswered → Type 0
IsAsked None None before after (Ok answer) = ⊤
IsAsked None None before after (Err why) = ⊥
IsAsked None (Some new) before after result = ⊥
IsAsked (Some old) None before after result = ⊥
IsAsked (Some old) (Some new) before after result =
    IsAskedFor (DidKeep files.file_bytes files.file_may_leave files.file_moment files.file_left_since) old new before
    after result

-- an event is answered as the engine answers it, and what it commits is kept
pub record IsKeptAnswer (old : KeptState) (line : ScriptLine) (answer : Answer) (new : KeptState) : Type 0 where
  pub answered : IsAnswered old.engine line answer
  pub leaves : new.engine ≡ after old.engine line answer
  pub asked : IsAsked old.writer new.writer old.engine.core.records new.engine.core.records (Ok answer)

-- a COMMIT could not be kept: the transactions are as they were
pub record IsNotKept (old new : KeptState) : Type 0 where
  pub same : new.engine ≡ old.engine
  pub asked : IsAsked old.writer new.writer old.engine.core.records new.engine.core.records (Err unanswered.NotKept)

-- an event is answered, or not at all
abbrev pub IsHandled : KeptState → ScriptLine → Result Answer Unanswered → KeptState → Type 0
IsHandled old line (Ok answer) new = IsKeptAnswer old line answer new
IsHandled old line (Err unanswered.NotKept) new = IsNotKept old new
IsHandled old line (Err unanswered.NoMemory) new = new ≡ old

-- ---- sessions

-- a session has a seat then, unless there was no memory
abbrev pub IsSeated : {A E : Type 0} → (session : List ℕ) → Result A E → KeptState → KeptState → Type 0
IsSeated session (Ok done) old new =
    new ≡ with_engine old (record old.engine { seats = seats_with old.engine.seats session })
IsSeated session (Err why) old new = new ≡ old

-- ---- the commits that wait

-- those that waited are written, behind those before them, and none waits
abbrev pub AreWritten : (old new : Option FileWriter) → Type 0
AreWritten None None = ⊤
AreWritten None (Some new) = ⊥
AreWritten (Some old) None = ⊥
AreWritten (Some old) (Some new) = HasFlushed files.file_bytes files.file_may_leave old new

-- no commit is kept any more
abbrev pub IsShut : Option FileWriter → Type 0
IsShut None = ⊥
IsShut (Some w) = w.is_shut ≡ true

-- all that waited is written, or no commit is kept any more
abbrev pub IsSynced : {A E : Type 0} → (old : KeptState) → Result A E → (new : KeptState) → Type 0
IsSynced old (Ok done) new = (new.engine ≡ old.engine) × AreWritten old.writer new.writer
IsSynced old (Err why) new = (new.engine ≡ old.engine) × IsShut new.writer

-- ---- a new epoch, and another file

-- the commits of a journal are counted from the newest on
abbrev pub counted_anew : Option FileWriter → Option FileWriter
counted_anew None = None
counted_anew (Some w) = Some (record w { last = w.batch.newest })

-- who keeps them goes on in a file of these bytes
abbrev pub AreMoved : (bytes : List ℕ) → (old new : Option FileWriter) → Type 0
AreMoved bytes None None = ⊤
AreMoved bytes None (Some new) = ⊥
AreMoved bytes (Some old) None = ⊥
AreMoved bytes (Some old) (Some new) = HasMoved files.file_bytes bytes old new

-- ---- the calls that wait

-- their bytes
abbrev pub waiting : Option FileWriter → List ℕ
waiting None = []
waiting (Some w) = files.waiting_calls w.journal.device

-- with none any more
abbrev pub writer_with_none_waiting : Option FileWriter → Option FileWriter
writer_with_none_waiting None = None
writer_with_none_waiting (Some w) =
    Some (record w { journal = record w.journal { device = files.with_none_waiting w.journal.device } })

abbrev pub with_none_waiting : KeptState → KeptState
with_none_waiting now = record { engine = now.engine; writer = writer_with_none_waiting now.writer }
