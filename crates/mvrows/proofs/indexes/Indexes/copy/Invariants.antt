use Rattle.std.proofs.Common.{◌≡◌, take}
use Rattle.mvrows.proofs.indexes.Indexes.copy.Given as goal

-- the indexes so far
abbrev pub invariant-loop-it : goal.invariant-loop-it
invariant-loop-it l = l.list.items ≡ take l.it-index l.self
