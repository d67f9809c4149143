use Rattle.std.proofs.Common.{◌≡◌, ◌+◌, ◌∙◌, suc, ℕ, ap, sym, subst, arith}
use Rattle.std.specs.List.{insert}
use Rattle.std.specs.Ordering.{is_lt}
use Rattle.pages.specs.Parts.{Leads}
use Rattle.pages.proofs.Separators.{led_before, led_behind}
use Rattle.pages.proofs.search.side.Goals as goal

pub returns-then-is_lt-clause-led : goal.returns-then-is_lt-clause-led
returns-then-is_lt-clause-led c seps l =
    led_before c.args.key.now seps c.args.at c.args.parting.now (ap is_lt (sym c.order.ensures.value) ∙ sym c.is_lt.ensures ∙ c.if-is_lt.true) l

pub returns-else-is_lt-clause-led : goal.returns-else-is_lt-clause-led
returns-else-is_lt-clause-led c seps l =
    let one : suc c.args.at ≡ c.args.at + 1 = omega arith in
    subst (λ (n : ℕ). Leads c.args.key.now (insert seps c.args.at c.args.parting.now) n) one
    (led_behind c.args.key.now seps c.args.at c.args.parting.now (ap is_lt (sym c.order.ensures.value) ∙ sym c.is_lt.ensures ∙ c.if-is_lt.false) l)
