-- The closing part of the report: the commits, their serial order, the COMMITs that were refused, and the assertions.
use Rattle.std.specs.Prelude.{ℕ, true, List, [], ◌∷◌, ◌++◌, length, codes, decimal}
use Rattle.value.specs.declared.truths.Truth.{Truth}
use Rattle.value.specs.Truths.{name_of}
use Rattle.assertion.specs.declared.assertions.Assertion.{Assertion}
use Rattle.alone.specs.declared.records.Record.{Record}
use Rattle.alone.specs.declared.answers.RefusedCommit.{RefusedCommit}
use Rattle.report.specs.Report.{fault_text}

-- a word and how many lines follow it
unfoldable pub count_line : List ℕ → ℕ → List ℕ
count_line word count = word ++ decimal count ++ codes "\n"

-- a commit: its number, its session, its snapshot, and how many rows its net change has
unfoldable pub commit_line : Record → List ℕ
commit_line commit =
    decimal commit.number ++ (codes " " ++ commit.session)
    ++ (codes " SNAPSHOT " ++ decimal commit.snapshot)
    ++ count_line (codes " ROWS ") (length commit.changes)

-- a line for each commit
abbrev pub commit_lines : List Record → List ℕ
commit_lines [] = []
commit_lines (commit ∷ commits) = commit_line commit ++ commit_lines commits

-- the commits: how many, and a line for each
abbrev pub commits_part : List Record → List ℕ
commits_part commits = count_line (codes "COMMITS ") (length commits) ++ commit_lines commits

-- numbers, each behind a space
abbrev pub numbers_behind_spaces : List ℕ → List ℕ
numbers_behind_spaces [] = []
numbers_behind_spaces (number ∷ numbers) = (codes " " ++ decimal number) ++ numbers_behind_spaces numbers

-- the serial order, by the numbers of the commits
abbrev pub serial_line : List ℕ → List ℕ
serial_line order = codes "SERIAL" ++ numbers_behind_spaces order ++ codes "\n"

-- a refused COMMIT: its session, and why
abbrev pub refused_line : RefusedCommit → List ℕ
refused_line refused = refused.session ++ codes " " ++ fault_text true refused.refusal ++ codes "\n"

-- a line for each refused COMMIT
abbrev pub refused_lines : List RefusedCommit → List ℕ
refused_lines [] = []
refused_lines (refused ∷ rest) = refused_line refused ++ refused_lines rest

-- the refused COMMITs: how many, and a line for each
abbrev pub refused_part : List RefusedCommit → List ℕ
refused_part refused = count_line (codes "REFUSED ") (length refused) ++ refused_lines refused

-- an assertion by its name, and its truth
abbrev pub verdict_line : List ℕ → Truth → List ℕ
verdict_line name truth = name ++ codes " " ++ name_of truth ++ codes "\n"

-- a line for each assertion that has a truth beside it
abbrev pub verdict_lines : List Assertion → List Truth → List ℕ
verdict_lines [] truths = []
verdict_lines (assertion ∷ assertions) [] = []
verdict_lines (assertion ∷ assertions) (truth ∷ truths) =
    verdict_line assertion.name truth ++ verdict_lines assertions truths

-- the assertions: how many, and a line for each
abbrev pub verdicts_part : List Assertion → List Truth → List ℕ
verdicts_part assertions truths =
    count_line (codes "ASSERTIONS ") (length assertions) ++ verdict_lines assertions truths

-- the closing part of the report
abbrev pub closing_part :
    List Record → (order : List ℕ) → List RefusedCommit → List Assertion → List Truth → List ℕ
closing_part commits order refused assertions truths =
    commits_part commits ++ serial_line order ++ refused_part refused ++ verdicts_part assertions truths
