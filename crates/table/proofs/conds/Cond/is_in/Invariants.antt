use Rattle.std.proofs.Common.{◌≡◌, map}
use Rattle.value.specs.declared.comparisons.Comparison.TheVariants.{Equal}
use Rattle.table.specs.declared.conds.Cond.TheVariants.{Compare}
use Rattle.table.proofs.conds.Cond.is_in.Given as goal

-- an equality for each value so far
abbrev pub invariant-loop-value : goal.invariant-loop-value
invariant-loop-value l = l.parts.items ≡ map (λ value. Compare Equal l.subject value) l.yielded
