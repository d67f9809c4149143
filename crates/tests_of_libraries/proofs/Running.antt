-- What events lead to, each answered after those before it.
use Rattle.std.proofs.Common.{List, [], ◌∷◌}
use Rattle.syntax.specs.declared.statements.ScriptLine.{ScriptLine}
use Rattle.alone.specs.declared.answers.Answer.{Answer}
use Rattle.commit.specs.Events.{EngineState, after}
use Rattle.commit.specs.Runs.{AreAnswers, led_to}
use Rattle.commit.proofs.Running.{IsRunning, running_after}

pub running_led : (now : EngineState) (lines : List ScriptLine) (answers : List Answer) → IsRunning now → AreAnswers now lines answers → IsRunning (led_to now lines answers)
running_led now [] answers running are = running
running_led now (line ∷ rest) [] running are = running
running_led now (line ∷ rest) (answer ∷ more) running are = running_led (after now line answer) rest more (running_after now line answer running are.0) are.1
