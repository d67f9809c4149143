use Rattle.std.proofs.Common.{sym, ◌∙◌, ap, subst}
use Rattle.std.proofs.lemmas.Result.{IfOk-weaker}
use Rattle.table.specs.declared.slots.SlotValue.{SlotValue}
use Rattle.table.specs.Slots.{value_of, IsWithinKind}
use Rattle.groups.proofs.AnswerLemmas.{answer-right, answer-within}
use Rattle.groups.proofs.totals.Total.answer.Goals as goal

pub returns-clause-answer : goal.returns-clause-answer
returns-clause-answer c =
    IfOk-weaker c.figure.result _ _
    (λ (s : SlotValue) h. λ rows k. ap value_of h ∙ answer-right c.args.aggregate rows c.args.self.now k)
    c.figure.ensures

pub returns-clause-within : goal.returns-clause-within
returns-clause-within c =
    IfOk-weaker c.figure.result _ _
    (λ (s : SlotValue) h. λ vs k w. subst IsWithinKind (sym h) (answer-within c.args.aggregate vs c.args.self.now k w))
    c.figure.ensures
