use Rattle.std.proofs.Common.{◌∙◌, ◌<◌, ap, length, subst, sym, Some}
use Rattle.std.specs.Option.{option_copied}
use Rattle.assertion.specs.Declarations.{layouts_in}
use Rattle.txn.proofs.Checking.{at_place, passed}
use Rattle.txn.proofs.checks.find_false.Goals as goal

pub returns-in-Some-clause-found : goal.returns-in-Some-clause-found
returns-in-Some-clause-found c =
    rw (c.assertions.ensures.value)
    (sym c.loop-place.invariant
    ∙ at_place (layouts_in c.args.view.now.declared) c.args.view.now.state c.args.view.now.declared.assertions c.args.meant.now c.loop-place.place
    (subst (λ assertions. c.loop-place.place < length assertions) c.assertions-place-end.ensures.value c.loop-place-test.true)
    c.requires c.index-assertions-place.result (Some c.in-Some.root.now)
    (λ a. sym (ap option_copied c.in-Some.is) ∙ c.least_bad_if_meant.ensures a))

pub loop-place-preserved : goal.loop-place-preserved
loop-place-preserved c =
    sym (passed (layouts_in c.args.view.now.declared) c.args.view.now.state c.args.view.now.declared.assertions c.args.meant.now c.loop-place.place
    (subst (λ assertions. c.loop-place.place < length assertions) c.assertions-place-end.ensures.value c.loop-place-test.true)
    c.requires
    (λ a. sym (ap option_copied c.in_default.is) ∙ c.least_bad_if_meant.ensures a))
    ∙ c.loop-place.invariant
