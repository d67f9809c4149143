use Rattle.std.proofs.Common.{sym, refl, ◌∙◌, subst, arith}
use Rattle.std.proofs.lemmas.Result.{IfOk-weaker}
use Rattle.alone.specs.States.{row_in}
use Rattle.changes.specs.Nets.{IsNoted}
use Rattle.txn.proofs.Inserting.{between_real, short_in_order}
use Rattle.txn.proofs.applied.net_of.Goals as goal

pub returns-then-len-le1 : goal.returns-then-len-le1
returns-then-len-le1 c = λ layouts before after fit fit' between.
    c.real_changes.ensures.real
    ∙ between_real layouts before after c.args.changes.items fit fit' (short_in_order c.args.changes.items (omega (arith, c.len.ensures, c.if-len-le1.true))) between

pub returns : goal.returns
returns c =
    IfOk-weaker c.net_change.result _ _
    (λ net is. λ layouts before after fit fit' between.
    is layouts before after fit fit' (c.in_ok-note.ensures.noted layouts before before after
    (record { each = λ place. subst (λ noted. IsNoted noted (row_in layouts before place) (row_in layouts before place)) (sym (c.new-touched.ensures place)) refl })
    between))
    c.net_change.ensures
