use Rattle.std.proofs.Common.{◌≡◌, drop, map}
use Rattle.table.specs.Bounds.{all_true}
use Rattle.assertcheck.specs.Types.{is_typed_condition}
use Rattle.assertcheck.proofs.typed_trees.+is_well_typed.Given as goal

-- what is left decides
abbrev pub invariant-loop-part : goal.invariant-loop-part
invariant-loop-part l = all_true (map (is_typed_condition l.columns l.slots) (drop l.part-index l.part-items)) ≡ all_true (map (is_typed_condition l.columns l.slots) l.part-items)
