use Rattle.std.proofs.Common.{◌≡◌}
use Rattle.mvrows.proofs.indexes.Indexes.settle.Given as goal

-- the indexes are as they were
abbrev pub invariant-loop-at : goal.invariant-loop-at
invariant-loop-at l = l.self-inside.list.items ≡ l.fn.self
