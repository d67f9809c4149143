use Rattle.std.proofs.Common.{drop}
use Rattle.report.proofs.Chains.{GoesOn}
use Rattle.threads.specs.Marked.{marked_lines}
use Rattle.threads.proofs.printing.write_marked_lines.Given as goal

-- what is written so far, and the lines of the answers that are left
abbrev pub invariant-loop-line : goal.invariant-loop-line
invariant-loop-line g l =
    GoesOn (g.W.Write.contents l.initial.out) (g.W.Write.contents l.out) (marked_lines (drop l.line-index l.lines) l.left l.marks) (marked_lines l.lines l.answers l.unkept)
