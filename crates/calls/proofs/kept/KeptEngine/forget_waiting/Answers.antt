use Rattle.std.proofs.Common.{length, subst, sym}
use Rattle.calls.specs.Keeping.{IsInStep}
use Rattle.calls.proofs.Keeping.{step_forgotten}
use Rattle.calls.proofs.kept.KeptEngine.forget_waiting.Goals as goal

pub invariant_of-self : goal.invariant_of-self
invariant_of-self c =
    let count = length c.self.inside.engine.core.records in
    subst (IsInStep count) (sym c.forget_waiting.ensures) (step_forgotten count c.self.inside.writer c.self.invariant)
