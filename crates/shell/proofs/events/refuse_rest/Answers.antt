use Rattle.std.proofs.Common.{◌-◌, length, take, drop, refl, ap, ◌∙◌}
use Rattle.value.specs.declared.refusals.Refusal.TheVariants.{Syntax}
use Rattle.shell.specs.Outcomes.{refusal_in_input}
use Rattle.shell.proofs.Refusals.{break_of_event}
use Rattle.shell.proofs.events.refuse_rest.Goals as goal

pub returns-in-Ok-parse_statement : goal.returns-in-Ok-parse_statement
returns-in-Ok-parse_statement c =
    let bytes = c.args.bytes.now in
    let from = c.in-Ok.address.from in
    let text = take (length bytes - from) (drop from bytes) in
    let found = c.in-Ok-parse_statement.ensures.found in
    break_of_event c.args.at bytes c.requires.some from text c.in-Ok-parse_statement.event c.refusal_in_input.result c.in-Ok.ensures.from refl
    (record { has = found.0; shallow = found.1 })
    (c.refusal_in_input.ensures ∙ ap (λ n. refusal_in_input n (Syntax (length text))) c.forward-place.ensures)
