use Rattle.assertion.specs.Meaning.{rows_of}
use Rattle.roots.specs.Shown.{lent_query}
use Rattle.roots.proofs.AroundLemmas.{AreRowsDone}
use Rattle.roots.proofs.around.totals_for_rows.Given as goal

-- the totals so far are those for the rows that are done
abbrev pub invariant-loop-row : goal.invariant-loop-row
invariant-loop-row l = AreRowsDone l.around (lent_query l.summary) (rows_of l.summary.table l.tables) l.outer l.row-iterator l.made
