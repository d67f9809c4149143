use Rattle.std.proofs.Common.{◌≡◌, [], drop, length}
use Rattle.assertcheck.specs.Updates.{assigned_places}
use Rattle.assertcheck.proofs.assignments.assigned_places.Given as goal

-- the places so far, one for each assignment, lead through the others to all
abbrev pub invariant-loop-assignment : goal.invariant-loop-assignment
invariant-loop-assignment l =
    (assigned_places l.schema l.places.items (drop l.assignment-index l.sets) ≡ assigned_places l.schema [] l.sets)
    × (length l.places.items ≡ l.assignment-index)
