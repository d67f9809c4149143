use Rattle.std.proofs.Common.{sym, subst, take}
use Rattle.siread.specs.Locks.{readers_at, IsGreatestReader}
use Rattle.siread.proofs.Greatest.{greatest_more}
use Rattle.siread.proofs.Steps.{one_more}
use Rattle.siread.proofs.locks.LockTable.greatest_reader.Goals as goal

pub loop-change-preserved : goal.loop-change-preserved
loop-change-preserved c =
    let changes = c.args.changes.now in
    let i = c.loop-change.change-index in
    let least = c.args.least in
    let reaches = c.args.reaches.now in
    let reads = readers_at c.args.self.now in
    subst (λ done. IsGreatestReader reads done least reaches c.max-greatest.result)
    (one_more changes i c.change-item.result c.loop-change-test.true c.change-item.is)
    (subst (IsGreatestReader reads _ least reaches) (sym c.max-greatest.ensures)
    (greatest_more reads (take i changes) c.change-item.result least reaches
    c.loop-change.greatest c.greatest_touched.result c.loop-change.invariant c.greatest_touched.ensures))
