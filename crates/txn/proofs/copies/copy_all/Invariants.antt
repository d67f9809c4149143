use Rattle.std.proofs.Common.{◌≡◌, take}
use Rattle.txn.proofs.copies.copy_all.Given as goal

-- the copies so far are those of the parts so far
abbrev pub invariant-loop-part : goal.invariant-loop-part
invariant-loop-part g l = l.made.items ≡ take l.part-index l.parts
