use Rattle.std.proofs.Common.{◌≡◌, ◌∙◌, length, Some, ap, sym, subst}
use Rattle.std.proofs.lemmas.Bool.{ne_eqb}
use Rattle.assertion.specs.Declarations.{layouts_in}
use Rattle.txn.specs.Transactions.{outcome_of, own_view}
use Rattle.commit.specs.Cores.{CoreState, record_of}
use Rattle.commit.specs.Decisions.{IsDecision, IsJudgment}
use Rattle.commit.specs.Kept.{idle_core}
use Rattle.commit.proofs.Keeping.{idle_view}
use Rattle.commit.proofs.Deciding.{by_assertion, decided_by, violation_named}
use Rattle.commit.proofs.cores.Core.decide.Goals as goal

pub returns-in-Some : goal.returns-in-Some
returns-in-Some c = λ session.
    let first : Some c.in_ok-refusal.refusal ≡ (outcome_of c.args.closed.now).refused = ap Some c.in_ok-refusal.ensures ∙ c.in-Some.ensures in (
      by_assertion c.args.self.now (record_of c.args.self.now session c.args.closed.now) (outcome_of c.args.closed.now).refused _ c.in_ok-refusal.refusal first,
      λ none. violation_named (layouts_in c.args.closed.now.declared) c.args.closed.now.declared.assertions (own_view c.args.closed.now).state (sym first ∙ ap Some none),
    )

pub returns : goal.returns
returns c = λ session.
    let now = idle_core c.self.inside.limit c.self.inside.loaded c.self.inside.records.items c.self.inside.refused.items c.self.inside.live in
    let is : now ≡ c.args.self.now = idle_view now c.args.self.now c.self.inside.prepared c.self.view_is c.requires.idle in
    subst (λ (s : CoreState). IsDecision s session c.args.closed.now c.in_ok-decision.decision) is
    (decided_by now session c.args.closed.now c.in_ok-decision.decision c.in_default.ensures
    (sym (ne_eqb _ _ (λ e. c.if-as_slice-from.false (ap length c.as_slice.ensures.value ∙ e ∙ sym c.from.ensures))))
    (subst (λ (s : CoreState). IsJudgment s (record_of s session c.args.closed.now) c.in_ok-decision.decision) (sym is) (c.in_ok-decision.ensures session)))
