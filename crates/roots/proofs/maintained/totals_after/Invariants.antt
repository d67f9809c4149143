use Rattle.std.proofs.Common.{◌≡◌, ◌++◌, drop}
use Rattle.roots.specs.Maintained.{AreSoFar}
use Rattle.roots.specs.Summaries.{summaries_of}
use Rattle.roots.specs.Turned.{turned_roots}
use Rattle.roots.proofs.maintained.totals_after.Given as goal

-- the totals so far are those of the first summaries after the change, and the roots so far and those of what is left
-- are all
abbrev pub invariant-loop-index : goal.invariant-loop-index
invariant-loop-index l = record {
  totals : AreSoFar l.after (summaries_of l.schemas l.form) l.index l.made.items;
  turned : l.turned.items ++ turned_roots l.after l.change (drop l.index (summaries_of l.schemas l.form)) ≡ l.initial.turned.items ++ turned_roots l.after l.change (summaries_of l.schemas l.form);
}
