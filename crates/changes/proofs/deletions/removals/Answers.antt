use Rattle.assertion.specs.Meaning.{filtered_rows}
use Rattle.alone.specs.Statements.{removal}
use Rattle.changes.proofs.Due.{removals_due, removals_fit}
use Rattle.changes.proofs.Walks.{all_done}
use Rattle.changes.proofs.deletions.removals.Goals as goal

pub returns-clause-due : goal.returns-clause-due
returns-clause-due c = λ layouts state fit k r.
    removals_due layouts state fit c.args.filter.now.table c.args.filter.now.key c.args.filter.now.condition c.args.rows.now c.loop-row.made.items k r
    (all_done (removal c.args.filter.now.table c.args.filter.now.key) (filtered_rows c.args.filter.now.condition c.args.rows.now) c.loop-row.made.items c.loop-row.row-iterator c.in-None.ensures.steps.0 c.loop-row.invariant)

pub returns-clause-fit : goal.returns-clause-fit
returns-clause-fit c =
    removals_fit c.args.filter.now.table c.args.filter.now.key (filtered_rows c.args.filter.now.condition c.args.rows.now) c.loop-row.made.items
    (all_done (removal c.args.filter.now.table c.args.filter.now.key) (filtered_rows c.args.filter.now.condition c.args.rows.now) c.loop-row.made.items c.loop-row.row-iterator c.in-None.ensures.steps.0 c.loop-row.invariant)
