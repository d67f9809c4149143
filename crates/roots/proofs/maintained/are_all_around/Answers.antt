use Rattle.std.proofs.Common.{◌≡◌, ◌∙◌, true, ap, arith, subst, sym}
use Rattle.std.specs.Prelude.{is_some}
use Rattle.assertion.specs.declared.queries.Query.{Query}
use Rattle.roots.specs.declared.grouped.Grouping.{Grouping}
use Rattle.roots.specs.Shown.{lent_query}
use Rattle.roots.specs.Summaries.{around_of, summaries_of}
use Rattle.roots.specs.Turned.{AreAllAround}
use Rattle.roots.proofs.AroundLemmas.{all_taken}
use Rattle.roots.proofs.TurnedLemmas.{each_next}
use Rattle.roots.proofs.maintained.are_all_around.Goals as goal

pub loop-index-preserved : goal.loop-index-preserved
loop-index-preserved c =
    each_next (λ (s : Query Grouping). is_some (around_of s.grouping) ≡ true) (summaries_of c.args.schemas.now c.args.form.now) c.loop-index.index (lent_query c.summary_of.result)
    (omega (arith, c.loop-index-test.true, c.summary_count-index-end.ensures c.args.schemas.now)) c.summary_of.ensures.summary
    (ap is_some (sym c.rows_around.ensures ∙ c.in-Some.is)) c.loop-index.invariant

pub returns : goal.returns
returns c = λ _.
    subst AreAllAround (all_taken c.loop-index.index (summaries_of c.args.schemas.now c.args.form.now) (omega (arith, c.loop-index-test.false, c.summary_count-index-end.ensures c.args.schemas.now))) c.loop-index.invariant
