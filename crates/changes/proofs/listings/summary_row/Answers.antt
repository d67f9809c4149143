use Rattle.std.proofs.Common.{map}
use Rattle.alone.specs.Results.{value_of}
use Rattle.alone.specs.Statements.{summary_value}
use Rattle.changes.proofs.LentRows.{mapped_more}
use Rattle.changes.proofs.listings.summary_row.Goals as goal

pub loop-summary-preserved : goal.loop-summary-preserved
loop-summary-preserved c =
    mapped_more value_of (summary_value (map (λ row. row.now) c.args.rows.now)) c.args.summaries.now c.loop-summary.summary-index c.summary-item.result
    c.loop-summary.made.items c.push.new.self.items c.in_ok-value_of_summary.field-0 c.loop-summary-test.true c.summary-item.is c.in_ok-push.ensures.items c.in_ok-value_of_summary.ensures c.loop-summary.invariant
