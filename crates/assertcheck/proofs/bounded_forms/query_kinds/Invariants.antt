use Rattle.std.proofs.Common.{◌≡◌, take}
use Rattle.assertion.specs.Bounded.{query_kinds}
use Rattle.assertcheck.proofs.bounded_forms.query_kinds.Given as goal

-- the kinds so far
abbrev pub invariant-loop-query : goal.invariant-loop-query
invariant-loop-query g l = l.kinds.items ≡ query_kinds (take l.query-index l.queries)
