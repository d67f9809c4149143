use Rattle.std.proofs.Common.{drop}
use Rattle.report.specs.Closing.{numbers_behind_spaces}
use Rattle.report.proofs.Chains.{GoesOn}
use Rattle.report.proofs.closing.write_spaced.Given as goal

-- what is written so far, and then what is left
abbrev pub invariant-loop-number : goal.invariant-loop-number
invariant-loop-number g l =
    GoesOn (g.W.Write.contents l.initial.out) (g.W.Write.contents l.out) (numbers_behind_spaces (drop l.number-index l.numbers)) (numbers_behind_spaces l.numbers)
