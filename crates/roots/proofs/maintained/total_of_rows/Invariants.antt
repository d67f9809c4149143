use Rattle.roots.specs.Shown.{lent_query}
use Rattle.roots.proofs.LoadedLemmas.{AreDone}
use Rattle.roots.proofs.maintained.total_of_rows.Given as goal

-- the totals so far are those of the rows that are done
abbrev pub invariant-loop-row : goal.invariant-loop-row
invariant-loop-row l = AreDone (lent_query l.summary) l.rows l.row-iterator l.made
