use Rattle.std.proofs.Common.{◌≡◌, drop}
use Rattle.form_check.specs.ShownScopes.{lent_scope}
use Rattle.value.specs.Results.{behind}
use Rattle.form_check.specs.Summaries.{grouping_columns}
use Rattle.form_check.proofs.summaries.grouping_columns.Given as goal

-- those found so far with those that are left are all
abbrev pub invariant-loop-name : goal.invariant-loop-name
invariant-loop-name l =
    behind l.made.items (grouping_columns (lent_scope l.scope) (drop l.name-index l.names))
    ≡ grouping_columns (lent_scope l.scope) l.names
