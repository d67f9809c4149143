use Rattle.std.proofs.Common.{drop}
use Rattle.report.specs.Closing.{refused_lines}
use Rattle.report.proofs.Chains.{GoesOn}
use Rattle.report.proofs.closing.write_refused_lines.Given as goal

-- what is written so far, and then what is left
abbrev pub invariant-loop-commit : goal.invariant-loop-commit
invariant-loop-commit g l =
    GoesOn (g.W.Write.contents l.initial.out) (g.W.Write.contents l.out) (refused_lines (drop l.commit-index l.refused)) (refused_lines l.refused)
