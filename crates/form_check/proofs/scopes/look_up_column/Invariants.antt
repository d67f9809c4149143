use Rattle.std.proofs.Common.{◌≡◌, drop}
use Rattle.form_check.specs.Scopes.{innermost}
use Rattle.form_check.specs.ShownScopes.{lent_scopes}
use Rattle.form_check.proofs.scopes.look_up_column.Given as goal

-- the name is of no table so far
abbrev pub invariant-loop-scope : goal.invariant-loop-scope
invariant-loop-scope l = innermost (λ scope. scope) l.column (lent_scopes (drop l.scope-index l.scopes)) ≡ innermost (λ scope. scope) l.column (lent_scopes l.scopes)
