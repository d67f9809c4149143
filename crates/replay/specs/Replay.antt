-- What the engine writes for two texts.
use Rattle.std.specs.Prelude.{◌≡◌, ℕ, List, Option}
use Rattle.std.specs.Io.KnownBytes.{Appends}
use Rattle.syntax.specs.declared.statements.ScriptLine.{ScriptLine}
use Rattle.delta.specs.Views.{ViewState}
use Rattle.alone.specs.declared.answers.Answer.{Answer}
use Rattle.alone.specs.Alone.{IsSound}
use Rattle.commit.specs.Cores.{IsSerializable}
use Rattle.commit.specs.Events.{EngineState}
use Rattle.commit.specs.Runs.{AreAnswers, beginning, led_to}
use Rattle.commit.specs.Told.{WereToldAlone}
use Rattle.replay.specs.Texts.{AreReady}
use Rattle.replay.specs.Lines.{report}

-- the engine before the first event of the script
pub record IsBeginning (defs script : List ℕ) (limit : ℕ) (engine : EngineState) (lines : List ScriptLine) :
    Type 0 where
  pub shown : ViewState
  pub ready : AreReady defs script shown lines
  pub sound : IsSound shown.declared shown.state
  pub is : engine ≡ beginning limit shown lines

-- The report of some answers to the script's events, each after those before it, from what the definitions define;
-- and of what they leave. The commits that it tells of are serializable, in the order that it names, and each committed
-- transaction was told what it answers alone.
pub record IsReport (defs script : List ℕ) (limit : ℕ) (bytes : List ℕ) : Type 0 where
  pub shown : ViewState
  pub lines : List ScriptLine
  pub answers : List Answer
  pub ready : AreReady defs script shown lines
  pub answered : AreAnswers (beginning limit shown lines) lines answers
  pub serializable : IsSerializable (led_to (beginning limit shown lines) lines answers).core
  pub told : WereToldAlone (led_to (beginning limit shown lines) lines answers).core lines answers
  pub prints : bytes ≡ report lines answers (led_to (beginning limit shown lines) lines answers)

-- the writer gained the report and nothing else
pub record WritesReport (defs script : List ℕ) (limit : ℕ) (old new : Option (List ℕ)) : Type 0 where
  pub bytes : List ℕ
  pub is : IsReport defs script limit bytes
  pub written : Appends old new bytes
