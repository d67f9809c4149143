use Rattle.std.proofs.Common.{◌≡◌, ◌++◌, drop, map}
use Rattle.prepared.specs.Constants.{all, then_made}
use Rattle.prepared.specs.Statements.{filled_value, filled_values}
use Rattle.prepared.proofs.statements.fill_values.Given as goal

-- the values made so far with what the rest becomes are what all become
abbrev pub invariant-loop-value : goal.invariant-loop-value
invariant-loop-value l = then_made (λ others. l.made.items ++ others) (all (map filled_value (drop l.value-index l.values)) l.constants) ≡ filled_values l.values l.initial.constants
