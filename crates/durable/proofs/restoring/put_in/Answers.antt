use Rattle.std.proofs.Common.{◌∙◌, sym}
use Rattle.assertion.specs.Declarations.{layouts_in}
use Rattle.durable.proofs.Due.{due_fits, due_is}
use Rattle.durable.proofs.restoring.put_in.Goals as goal

pub with-requires-clause-is : goal.with-requires-clause-is
with-requires-clause-is c = due_is (layouts_in c.loop-change.view.declared) c.change-item.result c.loop-change.view.state (sym c.in_ok-is_due.ensures ∙ c.if-not-branch.false)

pub with-requires-clause-fits : goal.with-requires-clause-fits
with-requires-clause-fits c = due_fits (layouts_in c.loop-change.view.declared) c.change-item.result c.loop-change.view.state (sym c.in_ok-is_due.ensures ∙ c.if-not-branch.false)
