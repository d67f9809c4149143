use Rattle.std.proofs.Common.{◌≡◌, drop}
use Rattle.assertion.specs.Candidates.{is_named}
use Rattle.roots.proofs.candidate_roots.is_named.Given as goal

-- none of the subqueries so far is over the table
abbrev pub invariant-loop-query : goal.invariant-loop-query
invariant-loop-query g l = is_named l.table (drop l.query-index l.queries) ≡ is_named l.table l.queries
