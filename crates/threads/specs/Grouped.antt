-- What is written of scripts that ran on threads.
use Rattle.std.specs.Prelude.{◌≡◌, ◌+◌, ℕ, Bool, true, false, List, [], ◌∷◌, ◌++◌, length, Option, Some, None, is_some, ⊤}
use Rattle.std.specs.List.{list_all}
use Rattle.std.specs.Io.KnownBytes.{Appends}
use Rattle.syntax.specs.declared.statements.ScriptLine.{ScriptLine}
use Rattle.delta.specs.Views.{ViewState}
use Rattle.commit.specs.Cores.{CoreState, IsSerializable}
use Rattle.report.specs.Report.{left_open_line}
use Rattle.session.specs.Books.{IsOver}
use Rattle.threads.specs.declared.scripts.Script.{Script}
use Rattle.threads.specs.declared.scripts.ScriptAnswers.{ScriptAnswers}
use Rattle.threads.specs.Scripts.{AreAnswered}
use Rattle.threads.specs.Marked.{lines_of}
use Rattle.replay.specs.Reports.{closing_part_of}
use Rattle.replay.specs.Texts.{AreReady}
use Rattle.threads.specs.Grouping.{scripts_of}

-- the line of a transaction that was rolled back at the end
abbrev pub ended_line : (rolled_back : Bool) → List ℕ → List ℕ
ended_line false session = []
ended_line true session = left_open_line session

-- what is reported of a script: the lines of its answers, and of what was rolled back at its end
abbrev pub script_report : (are_kept : Bool) → Script → ScriptAnswers → List ℕ
script_report are_kept script found =
    lines_of are_kept script.lines found ++ ended_line found.rolled_back script.name

-- what is reported of all scripts, one script behind the other
abbrev pub all_script_reports : (are_kept : Bool) → List Script → List ScriptAnswers → List ℕ
all_script_reports are_kept [] found = []
all_script_reports are_kept (script ∷ rest) [] = []
all_script_reports are_kept (script ∷ rest) (one ∷ more) =
    script_report are_kept script one ++ all_script_reports are_kept rest more

-- the whole report: what is reported of each script, and the closing part
abbrev pub grouped_report : (are_kept : Bool) → List Script → List ScriptAnswers → CoreState → List ℕ
grouped_report are_kept scripts found core = all_script_reports are_kept scripts found ++ closing_part_of core

-- so many commits are those before the number of the next, if they are counted as they are kept
abbrev pub AreAsMany : (count : ℕ) → (next : Option ℕ) → Type 0
AreAsMany count None = ⊤
AreAsMany count (Some next) = count + 1 ≡ next

-- whether each script was run
abbrev pub all_ran : List ScriptAnswers → Bool
all_ran found = list_all (λ (one : ScriptAnswers). one.ran) found

-- The report of some answers to the scripts of the sessions, one for each line or the one refusal of a session that
-- was not run, and of some commits. These are over what the definitions define, at most as many as the limit, and
-- serializable.
pub record IsGroupedReport (defs script : List ℕ) (limit : ℕ) (all : Bool) (bytes : List ℕ) : Type 0 where
  pub shown : ViewState
  pub lines : List ScriptLine
  pub found : List ScriptAnswers
  pub core : CoreState
  pub ready : AreReady defs script shown lines
  pub answered : AreAnswered (scripts_of lines) found
  pub ran : all_ran found ≡ all
  pub over : IsOver core shown limit
  pub serializable : IsSerializable core
  pub prints : bytes ≡ grouped_report false (scripts_of lines) found core

-- the writer gained the report and nothing else
pub record WritesGrouped (defs script : List ℕ) (limit : ℕ) (all : Bool) (old new : Option (List ℕ)) : Type 0 where
  pub bytes : List ℕ
  pub is : IsGroupedReport defs script limit all bytes
  pub written : Appends old new bytes

-- The same, of scripts that were run and of what was found of them. Where commits are kept, those of the report are as
-- many as were.
pub record PrintsGrouped (scripts : List Script) (found : List ScriptAnswers) (loaded : ViewState) (limit : ℕ)
    (next : Option ℕ) (all : Bool) (old new : Option (List ℕ)) : Type 0 where
  pub core : CoreState
  pub over : IsOver core loaded limit
  pub serializable : IsSerializable core
  pub as_many : AreAsMany (length core.records) next
  pub ran : all_ran found ≡ all
  pub written : Appends old new (grouped_report (is_some next) scripts found core)

-- both texts are read, the definitions are admitted, as these tables, and these are the scripts of the sessions, which
-- are few
pub record AreOpened (defs script : List ℕ) (shown : ViewState) (scripts : List Script) : Type 0 where
  pub lines : List ScriptLine
  pub ready : AreReady defs script shown lines
  pub are : scripts ≡ scripts_of lines
