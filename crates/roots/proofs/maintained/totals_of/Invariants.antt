use Rattle.roots.specs.Maintained.{AreSoFar}
use Rattle.roots.specs.Summaries.{summaries_of}
use Rattle.roots.proofs.maintained.totals_of.Given as goal

-- the totals so far are those of the first summaries
abbrev pub invariant-loop-index : goal.invariant-loop-index
invariant-loop-index l = AreSoFar l.tables (summaries_of l.schemas l.form) l.index l.made.items
