use Rattle.std.proofs.Common.{◌≡◌, drop}
use Rattle.value.specs.Results.{each, behind}
use Rattle.form_check.specs.ShownLeaves.{shown_leaves}
use Rattle.form_check.proofs.slots.all_slots.Given as goal

-- what was made so far with what the rest becomes is what all become
abbrev pub invariant-loop-leaf : goal.invariant-loop-leaf
invariant-loop-leaf g l = behind l.made.items (each (g.S.Slots.slot l.slots) (shown_leaves (drop l.leaf-index l.leaves))) ≡ each (g.S.Slots.slot l.slots) (shown_leaves l.leaves)
