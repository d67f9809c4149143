use Rattle.std.proofs.Common.{arith}
use Rattle.journal.proofs.Shapes.{end_place}
use Rattle.journal.proofs.recovering.recover.Goals as goal

pub returns-then-branch-clause-end : goal.returns-then-branch-clause-end
returns-then-branch-clause-end c =
    omega (arith, c.saturating_sub-end.ensures, end_place c.args.bytes.now c.in_ok-entries.rest.now c.in_ok-entries.ensures.behind)
