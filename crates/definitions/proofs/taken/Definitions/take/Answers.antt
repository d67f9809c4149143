use Rattle.std.proofs.Common.{arith, subst, sym}
use Rattle.delta.specs.Views.{ViewState}
use Rattle.definitions.specs.Written.{AreWritten}
use Rattle.definitions.proofs.WrittenAssertions.{all_written}
use Rattle.definitions.proofs.taken.Definitions.take.Goals as goal

pub returns-clause-written : goal.returns-clause-written
returns-clause-written c =
    subst (λ (made : ViewState). AreWritten c.args.definitions.now made.declared) (sym c.into_definitions.ensures)
    (all_written c.args.definitions.now c.loop-definition.taking c.loop-definition.definition-index (omega arith) c.loop-definition.invariant)
