use Rattle.std.proofs.lemmas.Result.{IfOk-weaker}
use Rattle.txn.specs.Steps.{shown_effect}
use Rattle.txn.proofs.steps.put_in.Goals as goal

pub returns-clause-done : goal.returns-clause-done
returns-clause-done c =
    IfOk-weaker c.check_applied.result _ _ (λ done is. is (shown_effect c.args.effect) c.in_ok-applied.ensures.applied) c.check_applied.ensures.done
