use Rattle.std.proofs.Common.{◌≡◌, take}
use Rattle.table.proofs.conds.Cond.+copy.Given as goal

-- the copies so far are the parts so far
abbrev pub invariant-loop-part : goal.invariant-loop-part
invariant-loop-part l = l.made.items ≡ take l.part-index l.part-items

abbrev pub invariant-loop-part-2 : goal.invariant-loop-part-2
invariant-loop-part-2 l = l.made.items ≡ take l.part-index l.part-items
