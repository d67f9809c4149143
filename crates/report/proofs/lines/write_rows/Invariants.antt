use Rattle.std.proofs.Common.{drop}
use Rattle.report.specs.Report.{row_lines}
use Rattle.report.proofs.Chains.{GoesOn}
use Rattle.report.proofs.lines.write_rows.Given as goal

-- what is written so far, and then what is left
abbrev pub invariant-loop-row : goal.invariant-loop-row
invariant-loop-row g l =
    GoesOn (g.W.Write.contents l.initial.out) (g.W.Write.contents l.out) (row_lines (drop l.row-index l.rows)) (row_lines l.rows)
