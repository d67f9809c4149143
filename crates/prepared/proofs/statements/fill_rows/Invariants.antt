use Rattle.std.proofs.Common.{◌≡◌, ◌++◌, drop, map}
use Rattle.prepared.specs.Constants.{all, then_made}
use Rattle.prepared.specs.Statements.{filled_values, filled_rows}
use Rattle.prepared.proofs.statements.fill_rows.Given as goal

-- the rows made so far with what the rest becomes are what all become
abbrev pub invariant-loop-row : goal.invariant-loop-row
invariant-loop-row l = then_made (λ others. l.made.items ++ others) (all (map filled_values (drop l.row-index l.rows)) l.constants) ≡ filled_rows l.rows l.initial.constants
