use Rattle.std.proofs.Common.{ap, ◌∙◌}
use Rattle.commit.specs.Events.{without_session}
use Rattle.calls.specs.Keeping.{KeptState, with_engine}
use Rattle.calls.proofs.Keeping.{step_unseated}
use Rattle.calls.proofs.kept.KeptEngine.unseat.Goals as goal

pub invariant_of-self : goal.invariant_of-self
invariant_of-self c = step_unseated c.self.inside.engine c.unseat.new.self c.args.session.now c.self.inside.writer c.unseat.ensures c.self.invariant

pub returns : goal.returns
returns c =
    (λ i. record { engine = c.unseat.ensures i; writer = c.self.inside.writer })
    ∙ ap (λ (s : KeptState). with_engine s (without_session s.engine c.args.session.now)) c.self.view_is
