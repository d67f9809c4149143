use Rattle.std.proofs.Common.{◌≡◌, take}
use Rattle.siread.specs.Locks.{readers_at, without_reader}
use Rattle.siread.proofs.locks.LockTable.take_back.Given as goal

abbrev pub invariant-loop-key : goal.invariant-loop-key
invariant-loop-key l = readers_at l.self ≡ without_reader l.number (take l.key-index l.keys) (readers_at l.fn.self)
