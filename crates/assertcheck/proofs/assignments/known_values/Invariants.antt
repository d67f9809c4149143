use Rattle.std.proofs.Common.{◌≡◌, drop}
use Rattle.form_check.specs.ShownScopes.{lent_scope}
use Rattle.assertcheck.specs.Updates.{values_fault}
use Rattle.assertcheck.proofs.assignments.known_values.Given as goal

-- the first fault is that of the rest
abbrev pub invariant-loop-assignment : goal.invariant-loop-assignment
invariant-loop-assignment l = values_fault l.catalog (lent_scope l.scope) (drop l.assignment-index l.sets) ≡ values_fault l.catalog (lent_scope l.scope) l.sets
