use Rattle.std.proofs.Common.{drop, map}
use Rattle.alone.specs.Results.{value_of}
use Rattle.report.specs.Report.{further_values}
use Rattle.report.proofs.Chains.{GoesOn}
use Rattle.report.proofs.lines.write_further_values.Given as goal

-- what is written so far, and then what is left
abbrev pub invariant-loop-value : goal.invariant-loop-value
invariant-loop-value g l =
    GoesOn (g.W.Write.contents l.initial.out) (g.W.Write.contents l.out) (further_values (map value_of (drop l.value-index l.values))) (further_values (map value_of l.values))
