use Rattle.std.proofs.Common.{drop}
use Rattle.report.proofs.Chains.{GoesOn}
use Rattle.threads.specs.Grouped.{all_script_reports}
use Rattle.threads.proofs.printing.write_scripts.Given as goal

-- what is written so far, and what is reported of the scripts that are left
abbrev pub invariant-loop-script : goal.invariant-loop-script
invariant-loop-script g l =
    GoesOn (g.W.Write.contents l.initial.out) (g.W.Write.contents l.out) (all_script_reports l.are_kept (drop l.script-index l.scripts) l.left) (all_script_reports l.are_kept l.scripts l.answered)
