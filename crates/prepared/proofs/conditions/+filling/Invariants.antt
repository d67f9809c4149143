use Rattle.std.proofs.Common.{◌≡◌, ◌++◌, drop, map}
use Rattle.prepared.specs.Constants.{all, then_made}
use Rattle.prepared.specs.Conditions.{filled_condition, filled_expression}
use Rattle.prepared.proofs.conditions.+filling.Given as goal

-- the parts made so far with what the rest becomes are what all become
abbrev pub invariant-fill_conditions-loop-part : goal.invariant-fill_conditions-loop-part
invariant-fill_conditions-loop-part l = then_made (λ others. l.made.items ++ others) (all (map filled_condition (drop l.part-index l.parts)) l.constants) ≡ all (map filled_condition l.parts) l.initial.constants

abbrev pub invariant-fill_expressions-loop-part : goal.invariant-fill_expressions-loop-part
invariant-fill_expressions-loop-part l = then_made (λ others. l.made.items ++ others) (all (map filled_expression (drop l.part-index l.parts)) l.constants) ≡ all (map filled_expression l.parts) l.initial.constants
