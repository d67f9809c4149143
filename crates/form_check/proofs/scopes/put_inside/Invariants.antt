use Rattle.std.proofs.Common.{◌≡◌, ◌∷◌, take}
use Rattle.form_check.specs.ShownScopes.{lent_scope, lent_scopes}
use Rattle.form_check.proofs.scopes.put_inside.Given as goal

-- the new scope and the outer ones so far
abbrev pub invariant-loop-scope : goal.invariant-loop-scope
invariant-loop-scope l = lent_scopes l.scopes.items ≡ lent_scope l.initial.inner ∷ lent_scopes (take l.scope-index l.outer)
