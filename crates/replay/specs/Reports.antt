-- The lines that are the same however a script is run: those of answers, and the closing part.
use Rattle.std.specs.Prelude.{ℕ, List, [], ◌∷◌, ◌++◌}
use Rattle.syntax.specs.declared.statements.ScriptLine.{ScriptLine}
use Rattle.alone.specs.declared.answers.Answer.{Answer}
use Rattle.txn.specs.Transactions.{truths_on}
use Rattle.commit.specs.Cores.{CoreState, newest_tables, order_of}
use Rattle.report.specs.Report.{answer_line}
use Rattle.report.specs.Closing.{closing_part}

-- the lines that a report has of the answers to the lines of a script
abbrev pub answer_lines : List ScriptLine → List Answer → List ℕ
answer_lines [] answers = []
answer_lines (line ∷ rest) [] = []
answer_lines (line ∷ rest) (answer ∷ more) = answer_line line answer ++ answer_lines rest more

-- the closing part, of the commits and of what they lead to
abbrev pub closing_part_of : CoreState → List ℕ
closing_part_of core =
    closing_part core.records (order_of core) core.refused core.declared.assertions (truths_on (newest_tables core))
