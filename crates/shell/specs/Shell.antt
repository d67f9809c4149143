-- What the shell writes for definitions and an input.
use Rattle.std.specs.Prelude.{◌≡◌, ◌++◌, ◌⊎◌, ℕ, Bool, true, false, List, [], Option, IfSome, ⊤}
use Rattle.std.specs.Io.KnownBytes.{Appends, Consumes}
use Rattle.syntax.specs.SchemaGrammar.{IsSchema}
use Rattle.delta.specs.Views.{ViewState}
use Rattle.alone.specs.Alone.{IsSound}
use Rattle.commit.specs.Cores.{IsSerializable}
use Rattle.commit.specs.Events.{EngineState}
use Rattle.commit.specs.Runs.{AreAnswers, beginning, led_to}
use Rattle.commit.specs.Told.{WereToldAlone}
use Rattle.replay.specs.declared.faults.ProgramFault.{ProgramFault}
use Rattle.replay.specs.declared.faults.ProgramFault.TheVariants.{Defs, Script, Stopped, Output, NoThread}
use Rattle.replay.specs.Takings.{IsAdmitted, IsRefused}
use Rattle.replay.specs.Texts.{IsInTheRun, IsUnread, is_before_the_run}
use Rattle.shell.specs.declared.faults.ShellFault.{ShellFault}
use Rattle.shell.specs.declared.faults.ShellFault.TheVariants.{Run, Input}
use Rattle.shell.specs.Cuts.{Piece, no_rest, piece_of, pieces_of, rest_of}
use Rattle.shell.specs.Outcomes.{AreOutcomes, IsLast, Outcome, answers_in, output_line, output_lines, lines_in}
use Rattle.shell.specs.Seats.{first_seated}
use Rattle.shell.specs.Writing.{ending_if}

-- the engine before the first event
pub record IsBeginning (defs : List ℕ) (limit : ℕ) (engine : EngineState) : Type 0 where
  pub shown : ViewState
  pub taken : IsAdmitted defs shown
  pub sound : IsSound shown.declared shown.state
  pub is : engine ≡ beginning limit shown []

-- The pieces of the input have these outcomes. The events among them are answered, each after those before it, from
-- what the definitions define. The commits that they lead to are serializable, and each committed transaction was told
-- what it answers alone.
pub record IsTalk (limit : ℕ) (shown : ViewState) (pieces : List Piece) (outcomes : List Outcome)
    (left : EngineState) : Type 0 where
  pub are : AreOutcomes pieces outcomes
  pub answered : AreAnswers (first_seated limit shown (lines_in outcomes)) (lines_in outcomes) (answers_in outcomes)
  pub leaves : left ≡ led_to (first_seated limit shown (lines_in outcomes)) (lines_in outcomes) (answers_in outcomes)
  pub serializable : IsSerializable left.core
  pub told : WereToldAlone left.core (lines_in outcomes) (answers_in outcomes)

-- the lines of all pieces of an input, of what is left at its end, and the report, if it is asked for
pub record IsConversation (defs input : List ℕ) (limit : ℕ) (reports : Bool) (bytes : List ℕ) : Type 0 where
  pub shown : ViewState
  pub taken : IsAdmitted defs shown
  pub outcomes : List Outcome
  pub left : EngineState
  pub talk : IsTalk limit shown (pieces_of no_rest input) outcomes left
  pub last : Outcome
  pub last_is : IsLast (piece_of (rest_of no_rest input)) last
  pub prints : bytes ≡ (output_lines outcomes ++ output_line last) ++ ending_if reports left

-- the writer gained this for the bytes that were read, which are all that the reader had
pub record WritesConversation (defs : List ℕ) (limit : ℕ) (reports : Bool) (from old new : Option (List ℕ)) : Type 0
  where
    pub input : List ℕ
    pub all : IfSome from (λ bytes. input ≡ bytes)
    pub bytes : List ℕ
    pub is : IsConversation defs input limit reports bytes
    pub written : Appends old new bytes

-- The reader gave these bytes and no more, and the writer gained the lines of all pieces that they end: the line of a
-- piece goes out when its semicolon was read, and not later.
pub record WritesFirst (defs : List ℕ) (limit : ℕ) (from to old new : Option (List ℕ)) : Type 0 where
  pub shown : ViewState
  pub taken : IsAdmitted defs shown
  pub input : List ℕ
  pub read : Consumes from to input
  pub outcomes : List Outcome
  pub left : EngineState
  pub talk : IsTalk limit shown (pieces_of no_rest input) outcomes left
  pub written : Appends old new (output_lines outcomes)

-- the shell was begun
abbrev pub IsTaken : List ℕ → Type 0
IsTaken defs = (shown : ViewState) × IsAdmitted defs shown

-- why the shell did not come to its end, of the faults of a replay: there is no script, and no thread
abbrev pub IsRunFault : List ℕ → ProgramFault → Type 0
IsRunFault defs (Defs refusal) = IsUnread IsSchema defs refusal ⊎ IsRefused defs refusal
IsRunFault defs (Script refusal) = ⊥
IsRunFault defs Stopped = IsTaken defs
IsRunFault defs Output = IsTaken defs
IsRunFault defs NoThread = ⊥

-- Why the shell did not come to its end: the definitions are no text of their grammar; or they are, and have a fault; or
-- it was begun, and memory, the writer or the reader ended it.
abbrev pub IsFirstFault : List ℕ → ShellFault → Type 0
IsFirstFault defs (Run fault) = IsRunFault defs fault
IsFirstFault defs Input = IsTaken defs

-- whether nothing was read or written
abbrev pub is_before_the_talk : ShellFault → Bool
is_before_the_talk (Run fault) = is_before_the_run fault
is_before_the_talk Input = false

-- memory, the writer or the reader ended it
abbrev pub IsInTheTalk : ShellFault → Type 0
IsInTheTalk (Run fault) = IsInTheRun fault
IsInTheTalk Input = ⊤

-- whether memory ended the run, so that what was written is a beginning of the answers
abbrev pub is_run_stop : ProgramFault → Bool
is_run_stop (Defs refusal) = false
is_run_stop (Script refusal) = false
is_run_stop Stopped = true
is_run_stop Output = false
is_run_stop NoThread = false

-- the same of the faults of a shell: where memory or the reader ended the talk
abbrev pub is_stop : ShellFault → Bool
is_stop (Run fault) = is_run_stop fault
is_stop Input = true
