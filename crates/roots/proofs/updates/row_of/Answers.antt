use Rattle.value.specs.ValueOrder.{value_cmp}
use Rattle.value.proofs.OrderedLists.{All-at}
use Rattle.table.specs.Rows.{value_in, key_of}
use Rattle.table.specs.Bounds.{IsSmallRow}
use Rattle.assertion.specs.Meaning.{rows_of}
use Rattle.roots.proofs.updates.row_of.Goals as goal

pub returns-in-ByRow-Of-clause-small : goal.returns-in-ByRow-Of-clause-small
returns-in-ByRow-Of-clause-small c =
    rw c.row_under.ensures (All-at value_cmp (value_in (key_of c.in-ByRow-Of.table c.args.schemas.now)) IsSmallRow c.in-ByRow-Of.key (rows_of c.in-ByRow-Of.table c.args.tables.now) (c.requires.small.small c.in-ByRow-Of.table))
