-- What a part of the run answers and writes.
use Rattle.std.specs.Prelude.{◌≡◌, ℕ, List, Option}
use Rattle.std.specs.Io.KnownBytes.{Appends}
use Rattle.syntax.specs.declared.statements.ScriptLine.{ScriptLine}
use Rattle.alone.specs.declared.answers.Answer.{Answer}
use Rattle.commit.specs.Events.{EngineState, IsAnswered, after}
use Rattle.commit.specs.Runs.{AreAnswers, led_to}
use Rattle.report.specs.Report.{answer_line}
use Rattle.replay.specs.Reports.{answer_lines}
use Rattle.replay.specs.Lines.{report}

-- an event is answered, and the writer gains the lines of the answer
pub record PrintsAnswer (before : EngineState) (line : ScriptLine) (left : EngineState) (old new : Option (List ℕ)) :
    Type 0 where
  pub answer : Answer
  pub answered : IsAnswered before line answer
  pub leaves : left ≡ after before line answer
  pub written : Appends old new (answer_line line answer)

-- events are answered, each after those before it, and the writer gains the lines of the answers
pub record PrintsAnswers (before : EngineState) (lines : List ScriptLine) (left : EngineState)
    (old new : Option (List ℕ)) : Type 0 where
  pub answers : List Answer
  pub answered : AreAnswers before lines answers
  pub leaves : left ≡ led_to before lines answers
  pub written : Appends old new (answer_lines lines answers)

-- events are answered, each after those before it, and the writer gains the report of the answers and of what they
-- leave
pub record PrintsRun (before : EngineState) (lines : List ScriptLine) (old new : Option (List ℕ)) : Type 0 where
  pub answers : List Answer
  pub answered : AreAnswers before lines answers
  pub written : Appends old new (report lines answers (led_to before lines answers))
