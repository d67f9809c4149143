-- The lines that a script prints.
use Rattle.std.specs.Prelude.{ℕ, List, [], ◌∷◌, ◌++◌, Option, Some, None}
use Rattle.syntax.specs.declared.statements.ScriptLine.{ScriptLine}
use Rattle.alone.specs.declared.answers.Answer.{Answer}
use Rattle.txn.specs.Transactions.{OpenTransaction}
use Rattle.commit.specs.declared.seats.Seat.{Seat}
use Rattle.commit.specs.Events.{EngineState}
use Rattle.report.specs.Report.{left_open_line}
use Rattle.replay.specs.Reports.{answer_lines, closing_part_of}

-- the line of a session whose transaction is open in the end
abbrev pub left_line : List ℕ → Option OpenTransaction → List ℕ
left_line session None = []
left_line session (Some t) = left_open_line session

-- a line for each session whose transaction is open in the end
abbrev pub left_lines : List Seat → List ℕ
left_lines [] = []
left_lines (seat ∷ seats) = left_line seat.session seat.txn ++ left_lines seats

-- what stands behind the answers
abbrev pub ending : EngineState → List ℕ
ending left = left_lines left.seats ++ closing_part_of left.core

-- the whole report: what a script's lines were answered, and what they leave
abbrev pub report : List ScriptLine → List Answer → EngineState → List ℕ
report lines answers left = answer_lines lines answers ++ ending left
