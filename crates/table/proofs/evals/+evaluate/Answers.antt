use Rattle.std.proofs.Common.{◌+◌, ◌*◌, pos, ◌+ℤ◌, ◌*ℤ◌}
use Rattle.value.specs.declared.values.Value.TheVariants.{Null, Int}
use Rattle.table.specs.Eval.{answer}
use Rattle.table.specs.Shown.{lent_value}
use Rattle.table.specs.Slots.{kinds_of, values_of}
use Rattle.table.proofs.ExprLemmas.{answer-Sum, answer-Product, bound-Sum, bound-Product, room, within_more, total_more, total_done, within_done, add_mono, mul_mono, within_slot}
use Rattle.table.proofs.evals.+evaluate.Goals as goal

pub loop-part-preserved : goal.loop-part-preserved
loop-part-preserved t c = record {
  rest = rw (c.sum-total.ensures.value, c.evaluate-in-loop-part.ensures.value) (total_more (λ m n. m +ℤ n) (answer c.args.row.now (values_of c.args.slots.now)) c.as_slice-part-items.result.now c.loop-part.part-index c.part-item.result (lent_value c.loop-part.total) (Int (pos 0)) c.loop-part-test.true c.part-item.is c.loop-part.invariant.rest);
  bounded = within_more (kinds_of c.args.slots.now) (λ a b. a + b) add_mono c.as_slice-part-items.result.now 0 c.loop-part.part-index c.part-item.result (lent_value c.loop-part.total) (lent_value c.evaluate-in-loop-part.result) (lent_value c.sum-total.result)
      c.loop-part-test.true c.part-item.is (rw (c.in-Sum.is, bound-Sum (kinds_of c.args.slots.now) c.in-Sum.parts, ← c.as_slice-part-items.ensures) at c.requires.bounded) c.loop-part.invariant.bounded c.evaluate-in-loop-part.ensures.small c.sum-total.ensures.small;
}

pub returns-after-loop-part-clause-value : goal.returns-after-loop-part-clause-value
returns-after-loop-part-clause-value t c =
    rw (c.in-Sum.is, answer-Sum c.args.row.now (values_of c.args.slots.now) c.in-Sum.parts, ← c.as_slice-part-items.ensures)
    (total_done (λ m n. m +ℤ n) (answer c.args.row.now (values_of c.args.slots.now)) c.as_slice-part-items.result.now c.loop-part.part-index (lent_value c.loop-part.total) (Int (pos 0)) c.loop-part-test.false c.loop-part.invariant.rest)

pub returns-after-loop-part-clause-small : goal.returns-after-loop-part-clause-small
returns-after-loop-part-clause-small t c =
    rw (c.in-Sum.is, bound-Sum (kinds_of c.args.slots.now) c.in-Sum.parts, ← c.as_slice-part-items.ensures)
    (within_done (kinds_of c.args.slots.now) (λ a b. a + b) c.as_slice-part-items.result.now 0 c.loop-part.part-index (lent_value c.loop-part.total) c.loop-part-test.false c.loop-part.invariant.bounded)

pub product-total-requires : goal.product-total-requires
product-total-requires t c =
    room (kinds_of c.args.slots.now) (λ a b. a * b) mul_mono c.as_slice-part-items-in-Product.result.now 1 c.loop-part-2.part-index c.part-item-in-loop-part-2.result (lent_value c.loop-part-2.total) (lent_value c.evaluate-in-loop-part-2.result) Null
    c.loop-part-2-test.true c.part-item-in-loop-part-2.is (rw (c.in-Product.is, bound-Product (kinds_of c.args.slots.now) c.in-Product.parts, ← c.as_slice-part-items-in-Product.ensures) at c.requires.bounded) c.loop-part-2.invariant.bounded c.evaluate-in-loop-part-2.ensures.small

pub loop-part-2-preserved : goal.loop-part-2-preserved
loop-part-2-preserved t c = record {
  rest = rw (c.product-total.ensures.value, c.evaluate-in-loop-part-2.ensures.value) (total_more (λ m n. m *ℤ n) (answer c.args.row.now (values_of c.args.slots.now)) c.as_slice-part-items-in-Product.result.now c.loop-part-2.part-index c.part-item-in-loop-part-2.result (lent_value c.loop-part-2.total) (Int (pos 1)) c.loop-part-2-test.true c.part-item-in-loop-part-2.is c.loop-part-2.invariant.rest);
  bounded = within_more (kinds_of c.args.slots.now) (λ a b. a * b) mul_mono c.as_slice-part-items-in-Product.result.now 1 c.loop-part-2.part-index c.part-item-in-loop-part-2.result (lent_value c.loop-part-2.total) (lent_value c.evaluate-in-loop-part-2.result) (lent_value c.product-total.result)
      c.loop-part-2-test.true c.part-item-in-loop-part-2.is (rw (c.in-Product.is, bound-Product (kinds_of c.args.slots.now) c.in-Product.parts, ← c.as_slice-part-items-in-Product.ensures) at c.requires.bounded) c.loop-part-2.invariant.bounded c.evaluate-in-loop-part-2.ensures.small c.product-total.ensures.small;
}

pub returns-after-loop-part-2-clause-value : goal.returns-after-loop-part-2-clause-value
returns-after-loop-part-2-clause-value t c =
    rw (c.in-Product.is, answer-Product c.args.row.now (values_of c.args.slots.now) c.in-Product.parts, ← c.as_slice-part-items-in-Product.ensures)
    (total_done (λ m n. m *ℤ n) (answer c.args.row.now (values_of c.args.slots.now)) c.as_slice-part-items-in-Product.result.now c.loop-part-2.part-index (lent_value c.loop-part-2.total) (Int (pos 1)) c.loop-part-2-test.false c.loop-part-2.invariant.rest)

pub returns-after-loop-part-2-clause-small : goal.returns-after-loop-part-2-clause-small
returns-after-loop-part-2-clause-small t c =
    rw (c.in-Product.is, bound-Product (kinds_of c.args.slots.now) c.in-Product.parts, ← c.as_slice-part-items-in-Product.ensures)
    (within_done (kinds_of c.args.slots.now) (λ a b. a * b) c.as_slice-part-items-in-Product.result.now 1 c.loop-part-2.part-index (lent_value c.loop-part-2.total) c.loop-part-2-test.false c.loop-part-2.invariant.bounded)

pub returns-in-Slot-clause-small : goal.returns-in-Slot-clause-small
returns-in-Slot-clause-small t c = rw (c.in-Slot.is) (within_slot (kinds_of c.args.slots.now) c.in-Slot.slot (lent_value c.get-in-Slot.result) c.get-in-Slot.ensures.small)
