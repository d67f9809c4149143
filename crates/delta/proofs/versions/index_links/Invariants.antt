use Rattle.std.proofs.Common.{◌≡◌}
use Rattle.delta.proofs.versions.index_links.Given as goal

-- the rows stay as they are
abbrev pub invariant-loop-query : goal.invariant-loop-query
invariant-loop-query l = l.rows ≡ l.fn.rows
