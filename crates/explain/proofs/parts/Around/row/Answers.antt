use Rattle.value.specs.ValueOrder.{value_cmp}
use Rattle.value.proofs.OrderedLists.{All-at}
use Rattle.table.specs.Rows.{value_in}
use Rattle.table.specs.Bounds.{IsSmallRow}
use Rattle.explain.proofs.parts.Around.row.Goals as goal

pub returns-then-self-len : goal.returns-then-self-len
returns-then-self-len c =
    rw c.get.ensures (All-at value_cmp (value_in c.key_column.result) IsSmallRow c.args.self.key.now c.rows.result.now c.rows.ensures.small)
