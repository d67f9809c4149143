use Rattle.std.proofs.Common.{◌≡◌, take}
use Rattle.assertion.proofs.queries.copy_queries.Given as goal

-- the copies so far are the queries so far
abbrev pub invariant-loop-query : goal.invariant-loop-query
invariant-loop-query g l = l.made.items ≡ take l.query-index l.queries
