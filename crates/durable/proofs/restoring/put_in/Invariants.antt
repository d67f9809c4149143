use Rattle.std.proofs.Common.{◌≡◌, drop}
use Rattle.assertion.specs.Declarations.{layouts_in}
use Rattle.durable.specs.Restoring.{restored_changes}
use Rattle.durable.proofs.restoring.put_in.Given as goal

-- the changes that are left lead from the view so far where all lead from the first
abbrev pub invariant-loop-change : goal.invariant-loop-change
invariant-loop-change l = record {
  declared : l.view.declared ≡ l.fn.view.declared;
  leads : restored_changes (layouts_in l.view.declared) (drop l.change-index l.entry.changes) l.view.state ≡ restored_changes (layouts_in l.fn.view.declared) l.entry.changes l.fn.view.state;
}
