use Rattle.std.proofs.Common.{◌≡◌, drop}
use Rattle.form_check.specs.ShownScopes.{lent_scope}
use Rattle.assertcheck.specs.Selects.{columns_fault}
use Rattle.assertcheck.proofs.listings.look_up_each.Given as goal

-- the first fault is that of the rest
abbrev pub invariant-loop-column : goal.invariant-loop-column
invariant-loop-column l = columns_fault l.catalog (lent_scope l.scope) (drop l.column-index l.columns) ≡ columns_fault l.catalog (lent_scope l.scope) l.columns
