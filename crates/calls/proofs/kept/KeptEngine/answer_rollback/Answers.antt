use Rattle.std.proofs.Common.{subst}
use Rattle.calls.specs.Keeping.{IsKeptAnswer, KeptState}
use Rattle.calls.proofs.Keeping.{rolled_back, step_rolled_back}
use Rattle.calls.proofs.kept.KeptEngine.answer_rollback.Goals as goal

pub invariant_of-self : goal.invariant_of-self
invariant_of-self c =
    step_rolled_back c.self.inside.engine c.answer.new.self c.self.inside.writer c.args.line.now c.answer.result c.requires.rollback c.answer.ensures.answered c.answer.ensures.after
    c.self.invariant

pub returns : goal.returns
returns c =
    subst (λ (s : KeptState). IsKeptAnswer s c.args.line.now c.answer.result (record { engine = c.answer.new.self; writer = c.self.inside.writer })) c.self.view_is
    (rolled_back c.self.inside.engine c.answer.new.self c.self.inside.writer c.args.line.now c.answer.result c.requires.rollback c.answer.ensures.answered c.answer.ensures.after)
