use Rattle.std.proofs.Common.{◌≡◌, ◌++◌, drop, map}
use Rattle.form_check.specs.Leaves.{numbered_expression, numbered_expressions, all, then_made}
use Rattle.form_check.specs.ShownLeaves.{shown_leaves, meaning_of}
use Rattle.form_check.proofs.leaves.+expressions.Given as goal

-- the parts made so far with what the rest becomes are what all become
abbrev pub invariant-all_expressions-loop-part : goal.invariant-all_expressions-loop-part
invariant-all_expressions-loop-part l = then_made (λ others. l.made.items ++ others) (all (map (λ part. (part, numbered_expression (meaning_of l.columns) part)) (drop l.part-index l.parts)) (shown_leaves l.leaves.items)) ≡ numbered_expressions (meaning_of l.columns) l.parts (shown_leaves l.initial.leaves.items)
