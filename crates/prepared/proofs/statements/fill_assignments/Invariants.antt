use Rattle.std.proofs.Common.{◌≡◌, ◌++◌, drop, map}
use Rattle.prepared.specs.Constants.{all, then_made}
use Rattle.prepared.specs.Statements.{filled_assignment, filled_assignments}
use Rattle.prepared.proofs.statements.fill_assignments.Given as goal

-- the assignments made so far with what the rest becomes are what all become
abbrev pub invariant-loop-assignment : goal.invariant-loop-assignment
invariant-loop-assignment l = then_made (λ others. l.made.items ++ others) (all (map filled_assignment (drop l.assignment-index l.assignments)) l.constants) ≡ filled_assignments l.assignments l.initial.constants
