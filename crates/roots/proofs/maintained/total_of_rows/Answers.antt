use Rattle.roots.specs.Shown.{lent_query}
use Rattle.roots.proofs.LoadedLemmas.{done-more, next-within}
use Rattle.roots.proofs.maintained.total_of_rows.Goals as goal

pub loop-row-preserved : goal.loop-row-preserved
loop-row-preserved c =
    let s = lent_query c.args.summary in
    let rows = c.args.rows.now in
    let left = c.loop-row.row-iterator in
    let rest = c.next.new.self in
    let row = c.in-Some.row.now in
    let so_far = c.loop-row.invariant in
    done-more s rows left rest row c.loop-row.made c.in_ok-made.made c.in-Some.ensures.steps so_far
    (c.in_ok-made.ensures so_far.done (next-within s rows left rest row c.loop-row.made c.in-Some.ensures.steps c.requires.short c.requires.small so_far) so_far.totals)
