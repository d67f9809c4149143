use Rattle.std.proofs.Common.{◌+◌, ◌<◌, ◌∷◌, ◌++◌, ◌∙◌, ap, arith, drop, length, subst, sym}
use Rattle.std.proofs.lemmas.List.{drop_more}
use Rattle.assertion.specs.declared.queries.Query.{Query}
use Rattle.roots.specs.declared.grouped.Grouping.{Grouping}
use Rattle.roots.specs.Shown.{lent_query}
use Rattle.roots.specs.Maintained.{AreSoFar, AreTotalsFor}
use Rattle.roots.specs.Summaries.{around_of, summaries_of}
use Rattle.roots.specs.Turned.{turned_by, turned_roots}
use Rattle.roots.proofs.AroundLemmas.{none_left}
use Rattle.roots.proofs.BoundLemmas.{summary-bounded}
use Rattle.roots.proofs.ItemLemmas.{item_has}
use Rattle.roots.proofs.MaintainedLemmas.{AreSoFar-more, totals-at}
use Rattle.roots.proofs.TurnedLemmas.{all_done, step_done}
use Rattle.roots.proofs.maintained.totals_after.Goals as goal

pub total_after-requires-clause-bounded : goal.total_after-requires-clause-bounded
total_after-requires-clause-bounded c =
    summary-bounded c.args.schemas.now c.args.form.now c.requires.bounded c.loop-index.index (lent_query c.summary_of-summary.result) (omega (arith, c.loop-index-test.true, c.summary_count-count.ensures c.args.schemas.now)) c.summary_of-summary.ensures.summary

pub total_after-requires-clause-totals : goal.total_after-requires-clause-totals
total_after-requires-clause-totals c =
    let summaries = summaries_of c.args.schemas.now c.args.form.now in
    rw (← c.summary_of-summary.ensures.summary) at (totals-at c.args.before.now summaries (length summaries) c.args.totals.now c.loop-index.index c.index-totals-index.result c.requires.totals (omega (arith, c.loop-index-test.true, c.summary_count-count.ensures c.args.schemas.now)) c.index-totals-index.is (lent_query c.summary_of-summary.result))

pub loop-index-preserved : goal.loop-index-preserved
loop-index-preserved c =
    let after = c.args.after.now in
    let summaries = summaries_of c.args.schemas.now c.args.form.now in
    let i = c.loop-index.index in
    let q = lent_query c.summary_of-summary.result in
    let within : i < length summaries = omega (arith, c.loop-index-test.true, c.summary_count-count.ensures c.args.schemas.now) in
    let turned_of = λ (s : Query Grouping). turned_by after c.args.change.now s (around_of s.grouping) in
    let split = drop_more summaries i q within ∙ ap (λ (s : Query Grouping). s ∷ drop (i + 1) summaries) (sym c.summary_of-summary.ensures.summary) in
    record {
      totals = AreSoFar-more after summaries i c.loop-index.made.items c.push.new.self.items c.in_ok-total_after.field-0 c.in_ok-push.ensures.items
          (item_has (λ (s : Query Grouping). AreTotalsFor after s c.in_ok-total_after.field-0) summaries i q within c.summary_of-summary.ensures.summary c.in_ok-total_after.ensures.totals)
          c.loop-index.invariant.totals;
      turned = step_done turned_of c.loop-index.turned.items c.total_after.new.turned.items (c.args.turned.now.items ++ turned_roots after c.args.change.now summaries)
          q (drop i summaries) (drop (i + 1) summaries) split c.in_ok-total_after.ensures.turned c.loop-index.invariant.turned;
    }

pub returns-clause-totals : goal.returns-clause-totals
returns-clause-totals c =
    subst (λ n. AreSoFar c.args.after.now (summaries_of c.args.schemas.now c.args.form.now) n c.loop-index.made.items)
    (omega (arith, c.loop-index-test.false, c.loop-index.auto.index-end, c.summary_count-count.ensures c.args.schemas.now)) c.loop-index.invariant.totals

pub returns-clause-turned : goal.returns-clause-turned
returns-clause-turned c =
    let after = c.args.after.now in
    let summaries = summaries_of c.args.schemas.now c.args.form.now in
    let turned_of = λ (s : Query Grouping). turned_by after c.args.change.now s (around_of s.grouping) in
    all_done turned_of c.loop-index.turned.items (c.args.turned.now.items ++ turned_roots after c.args.change.now summaries) (drop c.loop-index.index summaries)
    (none_left c.loop-index.index summaries (omega (arith, c.loop-index-test.false, c.summary_count-count.ensures c.args.schemas.now))) c.loop-index.invariant.turned
