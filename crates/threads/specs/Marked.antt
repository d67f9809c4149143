-- The lines of a script's answers, of which those of COMMITs that could not be kept are marked.
use Rattle.std.specs.Prelude.{ℕ, Bool, true, false, List, [], ◌∷◌, ◌++◌}
use Rattle.syntax.specs.declared.statements.ScriptLine.{ScriptLine}
use Rattle.alone.specs.declared.answers.Answer.{Answer}
use Rattle.report.specs.Report.{answer_line, not_kept_line}
use Rattle.replay.specs.Reports.{answer_lines}
use Rattle.threads.specs.declared.scripts.ScriptAnswers.{ScriptAnswers}

-- the mark of the next line, and those of the lines behind it: none is marked behind the last mark
abbrev pub first_mark : List Bool → Bool
first_mark [] = false
first_mark (mark ∷ behind) = mark

abbrev pub marks_behind : List Bool → List Bool
marks_behind [] = []
marks_behind (mark ∷ behind) = behind

-- the line of an answer, or of a COMMIT that could not be kept
abbrev pub marked_line : (is_unkept : Bool) → ScriptLine → Answer → List ℕ
marked_line true line answer = not_kept_line line.session
marked_line false line answer = answer_line line answer

abbrev pub marked_lines : List ScriptLine → List Answer → (unkept : List Bool) → List ℕ
marked_lines [] answers unkept = []
marked_lines (line ∷ rest) [] unkept = []
marked_lines (line ∷ rest) (answer ∷ more) unkept =
    marked_line (first_mark unkept) line answer ++ marked_lines rest more (marks_behind unkept)

-- the lines of a script's answers: marks count where commits are kept
abbrev pub lines_of : (are_kept : Bool) → List ScriptLine → ScriptAnswers → List ℕ
lines_of false lines found = answer_lines lines found.answers
lines_of true lines found = marked_lines lines found.answers found.unkept
