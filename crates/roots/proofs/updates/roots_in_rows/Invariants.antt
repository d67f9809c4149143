use Rattle.std.proofs.Common.{◌≡◌, ◌++◌}
use Rattle.assertion.specs.Candidates.{group_candidates}
use Rattle.roots.proofs.updates.roots_in_rows.Given as goal

-- the roots so far and those of what is left are all
abbrev pub invariant-loop-row : goal.invariant-loop-row
invariant-loop-row l = l.roots.items ++ group_candidates l.column l.row-iterator ≡ group_candidates l.column l.rows
