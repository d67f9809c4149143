use Rattle.std.proofs.Common.{◌≡◌, ◌+◌, ◌-◌, ◌^◌, ◌≤◌, min}
use Rattle.siread.proofs.Counts.{counted_in, AreOnce}
use Rattle.siread.proofs.locks.LockTable.len.Given as goal

-- what is counted so far, and what is left
abbrev pub invariant-loop-family : goal.invariant-loop-family
invariant-loop-family l = (min (l.count + counted_in l.family-iterator) (2 ^ 64 - 1) ≡ min (counted_in l.self) (2 ^ 64 - 1)) × (l.count ≤ 2 ^ 64 - 1)
    × (AreOnce l.family-iterator → AreOnce l.self)
