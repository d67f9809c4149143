use Rattle.value.proofs.Characters.{first_counted}
use Rattle.value.proofs.texts.behind_first.Goals as goal

-- src/texts.rt:127:1
pub returns-clause-counted : goal.returns-clause-counted
returns-clause-counted c =
    first_counted c.args.bytes.now c.in_ok-first.rest.now c.in_ok-first.first.now c.bytes_to_come-to_come.result c.in_ok-first.ensures.cases.0 c.bytes_to_come-to_come.ensures c.if-rest-to_come.false
