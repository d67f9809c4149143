use Rattle.std.proofs.Common.{take}
use Rattle.siread.specs.Locks.{readers_at, IsGreatestReader}
use Rattle.siread.proofs.locks.LockTable.greatest_reader.Given as goal

abbrev pub invariant-loop-change : goal.invariant-loop-change
invariant-loop-change l =
    IsGreatestReader (readers_at l.self) (take l.change-index l.changes) l.reach.least l.reach.reaches.now l.greatest
