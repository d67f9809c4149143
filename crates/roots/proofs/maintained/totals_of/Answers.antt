use Rattle.std.proofs.Common.{arith, subst}
use Rattle.assertion.specs.declared.queries.Query.{Query}
use Rattle.roots.specs.Maintained.{AreSoFar, AreTotalsFor}
use Rattle.roots.specs.declared.grouped.Grouping.{Grouping}
use Rattle.roots.specs.Shown.{lent_query}
use Rattle.roots.specs.Summaries.{summaries_of}
use Rattle.roots.proofs.BoundLemmas.{summary-bounded}
use Rattle.roots.proofs.ItemLemmas.{item_has}
use Rattle.roots.proofs.MaintainedLemmas.{AreSoFar-more}
use Rattle.roots.proofs.maintained.totals_of.Goals as goal

pub total_of-requires-clause-bounded : goal.total_of-requires-clause-bounded
total_of-requires-clause-bounded c = summary-bounded c.args.schemas.now c.args.form.now c.requires.bounded c.loop-index.index (lent_query c.summary_of-summary.result) (omega (arith, c.loop-index-test.true, c.summary_count-count.ensures c.args.schemas.now)) c.summary_of-summary.ensures.summary

pub loop-index-preserved : goal.loop-index-preserved
loop-index-preserved c =
    AreSoFar-more c.args.tables.now (summaries_of c.args.schemas.now c.args.form.now) c.loop-index.index c.loop-index.made.items c.push.new.self.items c.in_ok-total_of.field-0 c.in_ok-push.ensures.items
    (item_has (λ (s : Query Grouping). AreTotalsFor c.args.tables.now s c.in_ok-total_of.field-0) (summaries_of c.args.schemas.now c.args.form.now) c.loop-index.index (lent_query c.summary_of-summary.result) (omega (arith, c.loop-index-test.true, c.summary_count-count.ensures c.args.schemas.now)) c.summary_of-summary.ensures.summary
    c.in_ok-total_of.ensures)
    c.loop-index.invariant

pub returns : goal.returns
returns c = subst (λ n. AreSoFar c.args.tables.now (summaries_of c.args.schemas.now c.args.form.now) n c.loop-index.made.items) (omega (arith, c.loop-index-test.false, c.loop-index.auto.index-end, c.summary_count-count.ensures c.args.schemas.now)) c.loop-index.invariant
