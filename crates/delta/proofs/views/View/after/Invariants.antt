use Rattle.std.proofs.Common.{◌≡◌, drop}
use Rattle.assertion.specs.Declarations.{layouts_in}
use Rattle.assertion.specs.Changes.{state_after_all}
use Rattle.delta.proofs.PutIn.{AreLeft}
use Rattle.delta.proofs.views.View.after.Given as goal

-- the changes that are left may be put into the view so far, and lead to the end
abbrev pub invariant-loop-change : goal.invariant-loop-change
invariant-loop-change l = record {
  left : AreLeft l.self.declared (drop l.change-index l.changes) l.view;
  leads : state_after_all (layouts_in l.self.declared) (drop l.change-index l.changes) l.view.state ≡ state_after_all (layouts_in l.self.declared) l.changes l.self.state;
}
