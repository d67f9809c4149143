use Rattle.mvrows.proofs.IndexedRows.{next_index}
use Rattle.mvrows.proofs.rows.index_of.Goals as goal

pub loop-entry-preserved : goal.loop-entry-preserved
loop-entry-preserved c =
    let steps = c.in-Some.ensures.steps in
    next_index c.args.key_column c.args.column c.args.pages.now c.loop-entry.entry-iterator c.next.new.self c.in-Some.entry.now c.loop-entry.index c.in_ok-index.index
    steps
    c.requires.keyed c.requires.order (c.in_ok-index.ensures c.args.key_column) c.loop-entry.invariant
