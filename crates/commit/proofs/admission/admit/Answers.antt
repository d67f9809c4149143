use Rattle.std.proofs.Common.{sym, subst}
use Rattle.delta.specs.Views.{ViewState}
use Rattle.definitions.specs.Written.{AreWritten}
use Rattle.commit.proofs.admission.admit.Goals as goal

pub returns-clause-written : goal.returns-clause-written
returns-clause-written c =
    subst (λ (s : ViewState). AreWritten c.args.definitions.now s.declared) (sym c.in_ok-view.ensures.same) c.in_ok-taken.ensures.written
