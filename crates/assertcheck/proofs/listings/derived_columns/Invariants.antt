use Rattle.std.proofs.Common.{◌≡◌, drop}
use Rattle.form_check.specs.ShownScopes.{lent_scope}
use Rattle.value.specs.Results.{behind}
use Rattle.assertcheck.specs.Selects.{derived_of}
use Rattle.assertcheck.proofs.listings.derived_columns.Given as goal

-- those made so far with those that are left are all
abbrev pub invariant-loop-column : goal.invariant-loop-column
invariant-loop-column l =
    behind l.made.items (derived_of (lent_scope l.scope) (drop l.column-index l.columns)) ≡ derived_of (lent_scope l.scope) l.columns
