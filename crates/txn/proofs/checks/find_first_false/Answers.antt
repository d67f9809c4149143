use Rattle.std.proofs.Common.{◌≡◌, IfSome, IfNone, None, Some, subst}
use Rattle.value.specs.declared.refusals.Refusal.TheVariants.{Violated}
use Rattle.assertion.specs.Declarations.{layouts_in}
use Rattle.alone.specs.Checks.{violation}
use Rattle.alone.proofs.Ones.{all_ones}
use Rattle.txn.proofs.checks.find_first_false.Goals as goal

pub returns-clause-found : goal.returns-clause-found
returns-clause-found c =
    subst (λ ones. IfSome c.find_false.result (λ found. violation (layouts_in c.args.view.now.declared) ones c.args.view.now.state ≡ Some (Violated found.0.now found.1.now))) (all_ones c.args.view.now.declared.assertions)
    (rw (c.all_immediate-meant.ensures, c.assertions.ensures.value) at c.find_false.ensures.found)

pub returns-clause-none : goal.returns-clause-none
returns-clause-none c =
    subst (λ ones. IfNone c.find_false.result (violation (layouts_in c.args.view.now.declared) ones c.args.view.now.state ≡ None)) (all_ones c.args.view.now.declared.assertions)
    (rw (c.all_immediate-meant.ensures, c.assertions.ensures.value) at c.find_false.ensures.none)
