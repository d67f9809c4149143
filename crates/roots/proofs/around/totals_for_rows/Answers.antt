use Rattle.assertion.specs.Meaning.{rows_of}
use Rattle.roots.specs.Shown.{lent_query}
use Rattle.roots.proofs.AroundLemmas.{rows_done_more}
use Rattle.roots.proofs.around.totals_for_rows.Goals as goal

pub loop-row-preserved : goal.loop-row-preserved
loop-row-preserved c =
    rows_done_more c.args.around (lent_query c.args.summary) (rows_of c.args.summary.table c.args.tables.now) c.args.outer.now c.loop-row.row-iterator c.next.new.self c.in-Some.row.now c.loop-row.made c.in_ok-made.made
    c.in-Some.ensures.steps c.requires.in_order c.in_ok-made.ensures c.loop-row.invariant
