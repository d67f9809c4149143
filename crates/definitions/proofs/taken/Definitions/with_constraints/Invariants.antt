use Rattle.std.proofs.Common.{◌≡◌, drop}
use Rattle.definitions.specs.Taken.{with_constraints}
use Rattle.definitions.proofs.taken.Definitions.with_constraints.Given as goal

-- what is made so far leads through the other constraints to all
abbrev pub invariant-loop-constraint : goal.invariant-loop-constraint
invariant-loop-constraint l =
    with_constraints l.unique l.table (drop l.constraint-index l.constraints) l.made ≡ with_constraints l.unique l.table l.constraints l.fn.self
