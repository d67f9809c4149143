use Rattle.std.proofs.Common.{drop}
use Rattle.report.specs.Report.{with_doubled_quotes}
use Rattle.report.proofs.Chains.{GoesOn}
use Rattle.report.proofs.lines.write_quoted.Given as goal

-- what is written so far, and then what is left
abbrev pub invariant-loop-byte : goal.invariant-loop-byte
invariant-loop-byte g l =
    GoesOn (g.W.Write.contents l.initial.out) (g.W.Write.contents l.out) (with_doubled_quotes (drop l.byte-index l.byte-items)) (with_doubled_quotes l.byte-items)
