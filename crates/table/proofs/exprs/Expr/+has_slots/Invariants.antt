use Rattle.std.proofs.Common.{◌≡◌, drop, map}
use Rattle.table.specs.Slotless.{some_true, expression_has_slots}
use Rattle.table.proofs.exprs.Expr.+has_slots.Given as goal

-- what is left decides
abbrev pub invariant-loop-part : goal.invariant-loop-part
invariant-loop-part l = some_true (map expression_has_slots (drop l.part-index l.part-items)) ≡ some_true (map expression_has_slots l.part-items)
