use Rattle.std.proofs.Common.{◌≡◌}
use Rattle.delta.proofs.versions.index_form.Given as goal

-- the tables stay as they are
abbrev pub invariant-loop-query : goal.invariant-loop-query
invariant-loop-query l = l.tables ≡ l.fn.tables
