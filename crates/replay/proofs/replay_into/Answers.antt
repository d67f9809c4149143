use Rattle.std.proofs.Common.{List, subst}
use Rattle.std.specs.Prelude.{OnOk}
use Rattle.syntax.specs.declared.statements.ScriptLine.{ScriptLine}
use Rattle.replay.specs.Writing.{PrintsRun}
use Rattle.replay.proofs.Reporting.{reports}
use Rattle.replay.proofs.replay_into.Goals as goal

pub returns-clause-written : goal.returns-clause-written
returns-clause-written g c =
    reports c.args.defs.now c.args.script.now c.args.max_commits c.in_ok-engine.engine c.in_ok-engine.lines c.in_ok-engine.ensures.begun
    c.answers_lead_to_a_serial_order.ensures.serializable c.answers_lead_to_a_serial_order.ensures.told
    c.print_run-printed.result (g.W.Write.contents c.args.out.now) (g.W.Write.contents c.print_run-printed.new.out)
    (subst (λ (lines : List ScriptLine). OnOk c.print_run-printed.result (PrintsRun c.in_ok-engine.engine lines (g.W.Write.contents c.args.out.now) (g.W.Write.contents c.print_run-printed.new.out)))
    c.as_slice.ensures c.print_run-printed.ensures.written)
