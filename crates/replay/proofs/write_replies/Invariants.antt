use Rattle.std.proofs.Common.{drop}
use Rattle.report.proofs.Chains.{GoesOn}
use Rattle.replay.specs.Reports.{answer_lines}
use Rattle.replay.proofs.write_replies.Given as goal

-- what is written so far, and the lines of the answers to the events that are left
abbrev pub invariant-loop-line : goal.invariant-loop-line
invariant-loop-line g l =
    GoesOn (g.W.Write.contents l.initial.out) (g.W.Write.contents l.out) (answer_lines (drop l.line-index l.lines) l.left) (answer_lines l.lines l.answers)
