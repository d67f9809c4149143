use Rattle.std.proofs.Common.{ap, arith, length}
use Rattle.mvrows.proofs.KeyedRows.{length-rows_of}
use Rattle.mvrows.proofs.rows.Rows.recall_length.Goals as goal

pub returns : goal.returns
returns c = omega (arith, c.recall_order.ensures.short, length-rows_of c.self.inside.pages, ap length c.self.view_is)
