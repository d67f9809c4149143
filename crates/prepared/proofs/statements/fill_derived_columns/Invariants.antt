use Rattle.std.proofs.Common.{◌≡◌, ◌++◌, drop, map}
use Rattle.prepared.specs.Constants.{all, then_made}
use Rattle.prepared.specs.Statements.{filled_derived_column, filled_derived_columns}
use Rattle.prepared.proofs.statements.fill_derived_columns.Given as goal

-- the columns made so far with what the rest becomes are what all become
abbrev pub invariant-loop-column : goal.invariant-loop-column
invariant-loop-column l = then_made (λ others. l.made.items ++ others) (all (map filled_derived_column (drop l.column-index l.columns)) l.constants) ≡ filled_derived_columns l.columns l.initial.constants
