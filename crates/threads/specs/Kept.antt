-- What is written of scripts that ran on threads on a journal.
use Rattle.std.specs.Prelude.{◌≡◌, ℕ, Bool, List, Option, Some}
use Rattle.syntax.specs.declared.statements.ScriptLine.{ScriptLine}
use Rattle.syntax.specs.SchemaGrammar.{IsScript}
use Rattle.delta.specs.Views.{ViewState}
use Rattle.replay.specs.Texts.{HasFewSessions, IsRead}
use Rattle.threads.specs.declared.scripts.Script.{Script}
use Rattle.threads.specs.declared.scripts.ScriptAnswers.{ScriptAnswers}
use Rattle.threads.specs.Scripts.{AreAnswered}
use Rattle.threads.specs.Grouped.{PrintsGrouped}
use Rattle.threads.specs.Grouping.{scripts_of}

-- the text is a script, of few sessions, and these are their scripts
pub record AreScripts (script : List ℕ) (scripts : List Script) : Type 0 where
  pub lines : List ScriptLine
  pub read : IsRead IsScript script lines
  pub few : HasFewSessions lines
  pub are : scripts ≡ scripts_of lines

-- The writer gained the report of some answers to these scripts, one for each line or the one refusal of a session that
-- was not run, and of some commits over these tables, as many as were kept, and nothing else.
pub record WritesKept (scripts : List Script) (loaded : ViewState) (limit : ℕ) (all : Bool)
    (old new : Option (List ℕ)) : Type 0 where
  pub found : List ScriptAnswers
  pub next : ℕ
  pub answered : AreAnswered scripts found
  pub prints : PrintsGrouped scripts found loaded limit (Some next) all old new
