use Rattle.assertion.specs.declared.assertions.Assertion.{Assertion}
use Rattle.assertion.specs.Declarations.{layouts_in}
use Rattle.assertion.specs.Meaning.{verdict_of}
use Rattle.std.proofs.Common.{◌<◌, length, subst, rules}
use Rattle.txn.specs.Transactions.{truths_on}
use Rattle.txn.proofs.Truths.{one_more}
use Rattle.txn.proofs.checks.list_truths.Goals as goal

pub loop-place-preserved : goal.loop-place-preserved
loop-place-preserved c =
    one_more (λ (a : Assertion). verdict_of (layouts_in c.args.view.now.declared) a.form c.args.view.now.state) c.args.view.now.declared.assertions
    c.loop-place.place c.loop-place.found.items c.push.new.self.items (truths_on c.args.view.now) c.verdict.result
    (subst (λ assertions. c.loop-place.place < length assertions) c.assertions-place-end.ensures.value c.loop-place-test.true)
    (search rules) c.verdict.ensures c.loop-place.invariant
