use Rattle.std.proofs.Common.{option_copied, sym, ap, ◌∙◌}
use Rattle.conflict.proofs.Shared.{shared_by_none, shared_more}
use Rattle.conflict.proofs.overwrites.find_write_conflict.Goals as goal

pub loop-row-init : goal.loop-row-init
loop-row-init c = shared_by_none c.args.others.now

pub loop-row-preserved : goal.loop-row-preserved
loop-row-preserved c =
    shared_more c.args.changes.now c.loop-row.row c.index-changes-row.result c.loop-row-test.true c.index-changes-row.is c.args.others.now c.loop-row.invariant
    (sym c.first_with.ensures ∙ ap option_copied c.in_default.is)
