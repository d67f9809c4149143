use Rattle.std.proofs.Common.{subst}
use Rattle.calls.specs.Keeping.{IsSeated, KeptState}
use Rattle.calls.proofs.Keeping.{seated, step_seated}
use Rattle.calls.proofs.kept.KeptEngine.seat.Goals as goal

pub invariant_of-self : goal.invariant_of-self
invariant_of-self c =
    step_seated c.seat.result c.args.session.now c.self.inside.engine c.seat.new.self c.self.inside.writer c.seat.ensures.seated c.seat.ensures.same c.self.invariant

pub returns : goal.returns
returns c =
    subst (λ (s : KeptState). IsSeated c.args.session.now c.seat.result s (record { engine = c.seat.new.self; writer = c.self.inside.writer })) c.self.view_is
    (seated c.seat.result c.args.session.now c.self.inside.engine c.seat.new.self c.self.inside.writer c.seat.ensures.seated c.seat.ensures.same)
