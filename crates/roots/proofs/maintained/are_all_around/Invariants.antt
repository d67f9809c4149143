use Rattle.std.proofs.Common.{take}
use Rattle.roots.specs.Summaries.{summaries_of}
use Rattle.roots.specs.Turned.{AreAllAround}
use Rattle.roots.proofs.maintained.are_all_around.Given as goal

-- each row around is a group in the first summaries
abbrev pub invariant-loop-index : goal.invariant-loop-index
invariant-loop-index l = AreAllAround (take l.index (summaries_of l.schemas l.form))
