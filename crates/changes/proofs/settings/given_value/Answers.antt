use Rattle.std.proofs.Common.{◌≡◌, ◌∙◌, ap, Some, subst, sym}
use Rattle.std.specs.Prelude.{◌≢◌, IfErr}
use Rattle.value.specs.declared.values.Value.{Value}
use Rattle.value.specs.declared.refusals.Refusal.TheVariants.{NoMemory}
use Rattle.table.specs.Eval.{answer}
use Rattle.table.specs.Shown.{lent_value}
use Rattle.table.specs.Slots.{values_of}
use Rattle.alone.specs.Statements.{given_fault, given_value}
use Rattle.changes.proofs.settings.given_value.Goals as goal

pub returns-in-Some-clause-refused : goal.returns-in-Some-clause-refused
returns-in-Some-clause-refused c =
    let given : lent_value c.evaluate.result ≡ given_value c.args.old.now c.args.setting.now.value
    = c.evaluate.ensures.value ∙ ap (λ slots. answer c.args.old.now (values_of slots) c.in-Some.expr) c.new-slots.ensures ∙ ap (given_value c.args.old.now) (sym c.in-Some.is) in
    subst (λ (v : Value). IfErr c.column_value.result (λ refusal. refusal ≢ NoMemory → given_fault (Some c.args.column.now) v ≡ Some refusal)) given c.column_value.ensures.refused
