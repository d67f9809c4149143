use Rattle.std.proofs.Common.{◌≡◌, ◌+◌, ◌-◌, ◌^◌, ◌≤◌, length, map, min}
use Rattle.std.specs.Map.{values_of}
use Rattle.siread.specs.Families.{total}
use Rattle.siread.proofs.by_value.ByValue.len.Given as goal

-- what is counted so far, and what is left
abbrev pub invariant-loop-readers : goal.invariant-loop-readers
invariant-loop-readers l = (min (l.count + total (map length l.readers-iterator)) (2 ^ 64 - 1) ≡ min (total (map length (values_of l.self))) (2 ^ 64 - 1)) × (l.count ≤ 2 ^ 64 - 1)
