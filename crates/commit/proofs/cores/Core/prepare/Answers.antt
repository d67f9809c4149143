use Rattle.std.proofs.Common.{subst, sym, Ok}
use Rattle.std.proofs.lemmas.Result.{IfOk-weaker}
use Rattle.commit.specs.declared.decisions.Decision.{Decision}
use Rattle.commit.specs.Cores.{IsCommitAnswer}
use Rattle.commit.specs.Decisions.{IsDecision}
use Rattle.commit.proofs.cores.Core.prepare.Goals as goal

pub make_ready-requires-clause-answered : goal.make_ready-requires-clause-answered
make_ready-requires-clause-answered c =
    (subst (λ (d : Decision). IsDecision c.args.self.now c.args.session.now c.args.closed d) c.in-Ok-Accepted.field-0-is (c.in-Ok-Accepted.ensures c.args.session.now)).0

pub make_ready-requires-clause-place : goal.make_ready-requires-clause-place
make_ready-requires-clause-place c =
    (subst (λ (d : Decision). IsDecision c.args.self.now c.args.session.now c.args.closed d) c.in-Ok-Accepted.field-0-is (c.in-Ok-Accepted.ensures c.args.session.now)).1

pub refuse-requires-clause-known : goal.refuse-requires-clause-known
refuse-requires-clause-known c =
    (subst (λ (d : Decision). IsDecision c.args.self.now c.args.session.now c.args.closed d) c.in-Ok-Refused.field-0-is (c.in-Ok-Refused.ensures c.args.session.now)).1

pub refuse-requires-clause-answered : goal.refuse-requires-clause-answered
refuse-requires-clause-answered c =
    (subst (λ (d : Decision). IsDecision c.args.self.now c.args.session.now c.args.closed d) c.in-Ok-Refused.field-0-is (c.in-Ok-Refused.ensures c.args.session.now)).0

pub returns-in-Ok-Accepted-clause-number : goal.returns-in-Ok-Accepted-clause-number
returns-in-Ok-Accepted-clause-number c =
    let answered = (subst (λ (d : Decision). IsDecision c.args.self.now c.args.session.now c.args.closed d) c.in-Ok-Accepted.field-0-is (c.in-Ok-Accepted.ensures c.args.session.now)).0 in
    IfOk-weaker c.make_ready.result _ _ (λ number is. subst (λ n. IsCommitAnswer c.args.self.now c.args.session.now c.args.closed (Ok n)) (sym is) answered) c.make_ready.ensures.number
