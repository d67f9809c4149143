use Rattle.std.proofs.Common.{◌∙◌, ap}
use Rattle.table.specs.Eval.{keeps}
use Rattle.table.specs.Slots.{values_of}
use Rattle.table.proofs.truths.passes.Goals as goal

pub keeps-requires-clause-bounded : goal.keeps-requires-clause-bounded
keeps-requires-clause-bounded c = rw c.new.ensures c.requires.bounded

pub returns : goal.returns
returns c = c.keeps-2.ensures.value ∙ ap (λ slots. keeps c.args.row.now (values_of slots) c.args.cond.now) c.new.ensures
