use Rattle.std.proofs.Common.{◌<◌, length, arith}
use Rattle.roots.specs.Shown.{lent_query}
use Rattle.roots.specs.Summaries.{queries_of}
use Rattle.roots.proofs.AnswerLemmas.{kinds-more, slot-totals, slot-within, values-more}
use Rattle.roots.proofs.BoundLemmas.{summary-bounded}
use Rattle.roots.proofs.answers.slots.Goals as goal

pub summary_of-summary-requires : goal.summary_of-summary-requires
summary_of-summary-requires c = record { within = slot-within c.args.schemas.now c.args.form.now c.loop-index.index (omega (arith, c.loop-index-test.true, c.slot_count-index-end.ensures c.args.schemas.now)) }

pub answer-requires-clause-bounded : goal.answer-requires-clause-bounded
answer-requires-clause-bounded c =
    summary-bounded c.args.schemas.now c.args.form.now c.requires.bounded c.loop-index.index (lent_query c.summary_of-summary.result) (slot-within c.args.schemas.now c.args.form.now c.loop-index.index (omega (arith, c.loop-index-test.true, c.slot_count-index-end.ensures c.args.schemas.now))) c.summary_of-summary.ensures.summary

pub answer-requires-clause-totals : goal.answer-requires-clause-totals
answer-requires-clause-totals c =
    slot-totals c.args.schemas.now c.args.form.now c.loop-index.index (lent_query c.summary_of-summary.result) (omega (arith, c.loop-index-test.true, c.slot_count-index-end.ensures c.args.schemas.now)) c.summary_of-summary.ensures.summary
    c.args.tables.now c.args.totals.now c.index-totals-index.result c.requires.totals c.index-totals-index.is

pub loop-index-preserved : goal.loop-index-preserved
loop-index-preserved c =
    let h : c.loop-index.index < length (queries_of c.args.schemas.now c.args.form.now) = omega (arith, c.loop-index-test.true, c.slot_count-index-end.ensures c.args.schemas.now) in (
      kinds-more c.args.schemas.now c.args.form.now c.loop-index.index (lent_query c.summary_of-summary.result) h c.summary_of-summary.ensures.summary
          c.in_ok-answer.field-0 c.loop-index.slots c.push.new.self c.in_ok-answer.ensures.kind c.in_ok-push.ensures.ok c.loop-index.invariant.0,
      values-more c.args.schemas.now c.args.form.now c.loop-index.index (lent_query c.summary_of-summary.result) h c.summary_of-summary.ensures.summary
          c.args.tables.now c.args.row.now c.in_ok-answer.field-0 c.loop-index.slots c.push.new.self c.in_ok-answer.ensures.value c.in_ok-push.ensures.ok c.loop-index.invariant.1,
    )
