use Rattle.std.proofs.Common.{refl}
use Rattle.assertion.specs.Declarations.{layouts_in}
use Rattle.txn.proofs.Inserting.{has_inserted}
use Rattle.txn.proofs.applied.apply_insert.Goals as goal

pub returns-clause-made : goal.returns-clause-made
returns-clause-made c =
    rw (c.as_slice-rows.ensures) (has_inserted c.args.own.now c.args.new.now (record { reply = _; view = c.in_ok-view.view; changes = c.in_ok-net_of.field-0 }) c.in_ok-view.changes.items
    c.requires.table_in c.recall_order.ensures c.recall_order-2.ensures (rw c.as_slice-rows.ensures at c.in_ok-view.ensures.made) c.in_ok-view.ensures.view refl
    (λ fit between. c.in_ok-net_of.ensures (layouts_in c.args.own.now.declared) c.args.own.now.state c.in_ok-view.view.state c.recall_order.ensures fit between))
