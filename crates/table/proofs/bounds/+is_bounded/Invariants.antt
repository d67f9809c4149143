use Rattle.std.proofs.Common.{◌≡◌, drop, map}
use Rattle.table.specs.Bounds.{all_true, is_bounded}
use Rattle.table.proofs.bounds.+is_bounded.Given as goal

-- what is left decides
abbrev pub invariant-loop-part : goal.invariant-loop-part
invariant-loop-part l = all_true (map (is_bounded l.kinds) (drop l.part-index l.part-items)) ≡ all_true (map (is_bounded l.kinds) l.part-items)
