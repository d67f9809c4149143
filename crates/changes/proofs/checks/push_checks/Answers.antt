use Rattle.std.proofs.Common.{true, add-one}
use Rattle.assertion.specs.Declarations.{layouts_in}
use Rattle.changes.proofs.KeyLists.{one_more}
use Rattle.changes.proofs.checks.push_checks.Goals as goal

pub loop-place-preserved : goal.loop-place-preserved
loop-place-preserved c =
    rw add-one
    (one_more (layouts_in c.args.view.now.declared) c.args.view.now.state true c.args.meant.now c.args.view.now.declared.assertions c.args.changes.now
    c.loop-place.place c.loop-place.keys.items c.push_if_meant.new.keys.items _ (rw (c.len-place-end.ensures) at c.loop-place-test.true) c.requires (rw (c.is_immediate.ensures) at c.in_ok-push_if_meant.ensures) c.loop-place.invariant)
