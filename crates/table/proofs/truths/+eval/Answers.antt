use Rattle.table.specs.Eval.{truth}
use Rattle.table.specs.Slots.{kinds_of, values_of}
use Rattle.table.proofs.EvalLemmas.{truth-And, truth-Or, all_done, any_done, all_more, any_more, bounded_more}
use Rattle.table.proofs.truths.+eval.Goals as goal

pub returns-after-loop-part : goal.returns-after-loop-part
returns-after-loop-part t c =
    rw (c.in-And.is, truth-And c.args.row.now (values_of c.args.slots.now) c.in-And.parts, ← c.as_slice-part-items.ensures)
    (all_done (truth c.args.row.now (values_of c.args.slots.now)) c.as_slice-part-items.result.now c.loop-part.part-index c.loop-part.all c.loop-part-test.false c.loop-part.invariant.rest)

pub returns-after-loop-part-2 : goal.returns-after-loop-part-2
returns-after-loop-part-2 t c =
    rw (c.in-Or.is, truth-Or c.args.row.now (values_of c.args.slots.now) c.in-Or.parts, ← c.as_slice-part-items-in-Or.ensures)
    (any_done (truth c.args.row.now (values_of c.args.slots.now)) c.as_slice-part-items-in-Or.result.now c.loop-part-2.part-index c.loop-part-2.any c.loop-part-2-test.false c.loop-part-2.invariant.rest)

pub loop-part-preserved : goal.loop-part-preserved
loop-part-preserved t c = record {
  rest = rw (c.and-all.ensures, c.eval-in-loop-part.ensures) (all_more (truth c.args.row.now (values_of c.args.slots.now)) c.as_slice-part-items.result.now c.loop-part.part-index c.part-item.result c.loop-part.all c.loop-part-test.true c.part-item.is c.loop-part.invariant.rest);
  bounded = bounded_more (kinds_of c.args.slots.now) c.as_slice-part-items.result.now c.loop-part.part-index c.part-item.result c.loop-part-test.true c.part-item.is c.loop-part.invariant.bounded;
}

pub loop-part-2-preserved : goal.loop-part-2-preserved
loop-part-2-preserved t c = record {
  rest = rw (c.or-any.ensures, c.eval-in-loop-part-2.ensures) (any_more (truth c.args.row.now (values_of c.args.slots.now)) c.as_slice-part-items-in-Or.result.now c.loop-part-2.part-index c.part-item-in-loop-part-2.result c.loop-part-2.any c.loop-part-2-test.true c.part-item-in-loop-part-2.is c.loop-part-2.invariant.rest);
  bounded = bounded_more (kinds_of c.args.slots.now) c.as_slice-part-items-in-Or.result.now c.loop-part-2.part-index c.part-item-in-loop-part-2.result c.loop-part-2-test.true c.part-item-in-loop-part-2.is c.loop-part-2.invariant.bounded;
}
