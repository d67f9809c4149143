use Rattle.std.proofs.Common.{◌∙◌, arith}
use Rattle.mvrows.proofs.KeyedRows.{length-rows_of, rows_of-values}
use Rattle.mvrows.proofs.iterators.RowIter.new.Goals as goal

pub returns-clause-rest : goal.returns-clause-rest
returns-clause-rest c = c.values.ensures.rest ∙ rows_of-values c.args.pages.now

pub returns-clause-short : goal.returns-clause-short
returns-clause-short c = omega (arith, c.values.ensures.short, length-rows_of c.args.pages.now)
