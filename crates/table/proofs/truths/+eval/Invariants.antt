use Rattle.std.proofs.Common.{◌≡◌, drop, map}
use Rattle.std.specs.Prelude.{IsTrue}
use Rattle.value.specs.Truths.{and_of, or_of}
use Rattle.table.specs.Bounds.{is_bounded, all_true}
use Rattle.table.specs.Eval.{truth}
use Rattle.table.specs.Values.{all_of, any_of}
use Rattle.table.specs.Slots.{kinds_of, values_of}
use Rattle.table.proofs.truths.+eval.Given as goal

-- the truth so far with that of the rest is the whole's
abbrev pub invariant-loop-part : goal.invariant-loop-part
invariant-loop-part l = record {
  rest : and_of l.all (all_of (map (truth l.row (values_of l.slots)) (drop l.part-index l.part-items))) ≡ all_of (map (truth l.row (values_of l.slots)) l.part-items);
  bounded : IsTrue (all_true (map (is_bounded (kinds_of l.slots)) (drop l.part-index l.part-items)));
}

abbrev pub invariant-loop-part-2 : goal.invariant-loop-part-2
invariant-loop-part-2 l = record {
  rest : or_of l.any (any_of (map (truth l.row (values_of l.slots)) (drop l.part-index l.part-items))) ≡ any_of (map (truth l.row (values_of l.slots)) l.part-items);
  bounded : IsTrue (all_true (map (is_bounded (kinds_of l.slots)) (drop l.part-index l.part-items)));
}
