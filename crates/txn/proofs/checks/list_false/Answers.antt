use Rattle.std.proofs.Common.{◌<◌, length, subst}
use Rattle.txn.specs.Transactions.{false_names, name_if_false}
use Rattle.txn.proofs.Naming.{one_more}
use Rattle.txn.proofs.checks.list_false.Goals as goal

pub loop-place-preserved : goal.loop-place-preserved
loop-place-preserved c =
    one_more (name_if_false c.args.view.now) c.args.view.now.declared.assertions c.loop-place.place c.loop-place.names.items c.push_if_false.new.names.items (false_names c.args.view.now)
    (subst (λ assertions. c.loop-place.place < length assertions) c.assertions-place-end.ensures.value c.loop-place-test.true)
    c.in_ok-push_if_false.ensures c.loop-place.invariant
