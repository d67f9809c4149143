use Rattle.std.proofs.Common.{ap, refl, ◌∙◌}
use Rattle.assertion.specs.Declarations.{layouts_in}
use Rattle.alone.specs.Checks.{checks_read, violation}
use Rattle.alone.proofs.Ones.{named_are}
use Rattle.txn.proofs.Putting.{modes_done}
use Rattle.txn.proofs.steps.set_immediate.Goals as goal

pub returns-clause-done : goal.returns-clause-done
returns-clause-done c = λ start n.
    modes_done c.args.own.now c.args.modes.now start c.args.names.now c.in_ok-after.after c.args.net.now _ c.in_ok-violated.violated c.leave_modes_unless.result n c.in_ok-after.ensures.set
    refl
    ((rw (c.in_ok-meant.ensures, c.assertions.ensures.value) at c.in_ok-violated.ensures.first)
    ∙ ap (λ ones. violation (layouts_in c.args.own.now.declared) ones c.args.own.now.state) (named_are c.args.names.now c.args.own.now.declared.assertions))
    (c.leave_modes_unless.ensures.reads
    ∙ (rw (c.in_ok-meant.ensures, c.assertions.ensures.value) at c.in_ok-reads.ensures)
    ∙ ap (λ ones. checks_read (layouts_in c.args.own.now.declared) c.args.own.now.state ones c.args.net.now) (named_are c.args.names.now c.args.own.now.declared.assertions))
    c.leave_modes_unless.ensures.left
