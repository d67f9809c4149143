use Rattle.std.proofs.Common.{sym}
use Rattle.changes.proofs.Places.{longer}
use Rattle.changes.proofs.real.are_same.Goals as goal

pub returns-then-values-others : goal.returns-then-values-others
returns-then-values-others c = sym (longer c.args.values.now c.args.others.now c.if-values-others.true)
