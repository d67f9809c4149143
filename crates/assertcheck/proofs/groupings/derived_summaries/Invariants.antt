use Rattle.std.proofs.Common.{◌≡◌, Some, drop}
use Rattle.form_check.specs.ShownScopes.{lent_scope}
use Rattle.value.specs.Results.{behind}
use Rattle.assertcheck.specs.Groupings.{summaries_of}
use Rattle.assertcheck.proofs.groupings.derived_summaries.Given as goal

-- those made so far with those that are left are all
abbrev pub invariant-loop-column : goal.invariant-loop-column
invariant-loop-column l =
    behind l.made.items (summaries_of (lent_scope l.scope) l.grouping (Some (drop l.column-index l.columns)))
    ≡ summaries_of (lent_scope l.scope) l.grouping (Some l.columns)
