use Rattle.std.proofs.Common.{take}
use Rattle.value.specs.Ordered.{IsAscending}
use Rattle.value.specs.ValueOrder.{root_cmp}
use Rattle.roots.specs.Bad.{AreUpdated}
use Rattle.roots.proofs.updates.roots_after_update.Given as goal

-- the touched roots so far are in or out
abbrev pub invariant-loop-index : goal.invariant-loop-index
invariant-loop-index l = IsAscending root_cmp (λ k. k) l.bad → AreUpdated l.schemas l.form l.tables (take l.index l.touched) l.bad l.made
