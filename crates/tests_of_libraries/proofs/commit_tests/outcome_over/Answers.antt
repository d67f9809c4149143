use Rattle.std.proofs.Common.{length, sym, subst}
use Rattle.std.specs.Prelude.{take}
use Rattle.commit.specs.Events.{AreLive, EngineState}
use Rattle.commit.specs.Runs.{beginning}
use Rattle.commit.proofs.Running.{running_first}
use Rattle.tests_of_libraries.proofs.Running.{running_led}
use Rattle.tests_of_libraries.proofs.commit_tests.outcome_over.Goals as goal

pub returns : goal.returns
returns c =
    let lines = c.args.lines.now in
    let answers = c.in_ok-outcome.outcome.answers.items in
    let running = running_led (beginning 4 c.args.tables lines) (take (length answers) lines) answers (running_first 4 c.args.tables lines c.requires) c.in_ok-outcome.ensures.answers in
    subst (λ (engine : EngineState). AreLive engine.core engine.seats) (sym c.in_ok-outcome.ensures.left) running.live
