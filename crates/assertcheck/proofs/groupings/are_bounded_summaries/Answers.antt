use Rattle.std.proofs.Common.{◌∙◌, sym}
use Rattle.assertcheck.specs.Groupings.{is_bounded_summary}
use Rattle.assertcheck.proofs.Lists.{one_fails, one_passes}
use Rattle.assertcheck.proofs.groupings.are_bounded_summaries.Goals as goal

pub returns-then-not-branch-clause-value : goal.returns-then-not-branch-clause-value
returns-then-not-branch-clause-value c =
    one_fails is_bounded_summary c.args.summaries.now c.loop-summary.summary-index c.summary-item.result c.loop-summary-test.true c.summary-item.is c.loop-summary.invariant
    (sym c.in_ok-is_bounded_summary.ensures ∙ c.if-not-branch.true)

pub loop-summary-preserved : goal.loop-summary-preserved
loop-summary-preserved c =
    one_passes is_bounded_summary c.args.summaries.now c.loop-summary.summary-index c.summary-item.result c.loop-summary-test.true c.summary-item.is c.loop-summary.invariant
    (sym c.in_ok-is_bounded_summary.ensures ∙ c.if-not-branch.false)
