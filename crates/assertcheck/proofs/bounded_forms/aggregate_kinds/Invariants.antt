use Rattle.std.proofs.Common.{◌≡◌, take, map}
use Rattle.table.specs.Kinds.{kind_of_aggregate}
use Rattle.assertcheck.proofs.bounded_forms.aggregate_kinds.Given as goal

-- the kinds so far
abbrev pub invariant-loop-aggregate : goal.invariant-loop-aggregate
invariant-loop-aggregate l = l.kinds.items ≡ map kind_of_aggregate (take l.aggregate-index l.aggregates)
