use Rattle.std.proofs.Common.{◌≡◌, drop}
use Rattle.assertion.specs.Declarations.{layouts_in}
use Rattle.durable.specs.Restoring.{restored}
use Rattle.durable.proofs.restoring.restore.Given as goal

-- the entries that are left lead from the view so far where all lead from the first
abbrev pub invariant-loop-entry : goal.invariant-loop-entry
invariant-loop-entry l = record {
  declared : l.view.declared ≡ l.fn.view.declared;
  leads : restored (layouts_in l.view.declared) (drop l.entry-index l.entries) l.view.state ≡ restored (layouts_in l.fn.view.declared) l.entries l.fn.view.state;
}
