use Rattle.std.proofs.Common.{◌≡◌, drop, map}
use Rattle.assertcheck.specs.Types.{expression_type, arithmetic_type}
use Rattle.assertcheck.proofs.typed_trees.+expression_type.Given as goal

-- what is left decides
abbrev pub invariant-loop-part : goal.invariant-loop-part
invariant-loop-part l = arithmetic_type (map (expression_type l.columns l.slots) (drop l.part-index l.part-items)) ≡ arithmetic_type (map (expression_type l.columns l.slots) l.part-items)
