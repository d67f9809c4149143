use Rattle.std.proofs.Common.{◌≡◌, drop}
use Rattle.form_check.specs.ShownScopes.{lent_scope}
use Rattle.value.specs.Results.{behind}
use Rattle.assertcheck.specs.Updates.{settings_of}
use Rattle.assertcheck.proofs.assignments.settings.Given as goal

-- what was made so far with what the rest becomes is what all become
abbrev pub invariant-loop-i : goal.invariant-loop-i
invariant-loop-i l = behind l.made.items (settings_of (lent_scope l.scope) (drop l.i l.places) (drop l.i l.sets)) ≡ settings_of (lent_scope l.scope) l.places l.sets
