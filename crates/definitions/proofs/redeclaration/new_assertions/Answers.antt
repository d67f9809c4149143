use Rattle.std.proofs.Common.{rules, ◌∙◌, [], ◌∷◌, length, length-append, map, reverse, ap, arith}
use Rattle.definitions.specs.Redeclaration.{definition_of}
use Rattle.definitions.proofs.Redeclaring.{turn_new, turn_other}
use Rattle.definitions.proofs.redeclaration.new_assertions.Goals as goal

pub returns-in_err-read_new-clause-refused : goal.returns-in_err-read_new-clause-refused
returns-in_err-read_new-clause-refused c =
    let class = c.in_err-read_new.ensures.refused.0 in
    let other = turn_other c.turn.definitions c.pop.new.self c.args.definitions (map definition_of (reverse c.turn.new.items)) c.in-Some.definition c.in-Some.ensures c.in_err-read_new.ensures.refused.1 c.turn.invariant in
    search rules

pub turn-smaller : goal.turn-smaller
turn-smaller c = omega (arith, ap length c.in-Some.ensures ∙ length-append c.pop.new.self (c.in-Some.definition ∷ []))

pub turn-preserved : goal.turn-preserved
turn-preserved c = rw c.in_ok-push.ensures.items
    (turn_new c.turn.definitions c.pop.new.self c.args.definitions c.turn.new.items c.in-Some.definition c.in_ok-read_new.field-0 c.in-Some.ensures c.in_ok-read_new.ensures.created c.turn.invariant)
