use Rattle.std.proofs.Common.{ℕ, []}
use Rattle.mvrows.specs.Indexed.{AreIndexesOf}
use Rattle.mvrows.proofs.indexes.Indexes.emptied.Given as goal

-- the indexes so far are those of no rows
abbrev pub invariant-loop-it : goal.invariant-loop-it
invariant-loop-it l = (key_column : ℕ) → AreIndexesOf key_column [] l.list.items
