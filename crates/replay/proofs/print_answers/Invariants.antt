use Rattle.std.proofs.Common.{drop}
use Rattle.replay.proofs.Printing.{IsPrinted}
use Rattle.replay.proofs.print_answers.Given as goal

-- what is answered so far is written
abbrev pub invariant-loop-line : goal.invariant-loop-line
invariant-loop-line g l =
    IsPrinted l.initial.engine l.lines l.engine (drop l.line-index l.lines) (g.W.Write.contents l.initial.out) (g.W.Write.contents l.out)
