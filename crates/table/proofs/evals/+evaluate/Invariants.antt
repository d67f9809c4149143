use Rattle.std.proofs.Common.{ℕ, ◌≡◌, ◌+◌, ◌*◌, ◌≤◌, ◌^◌, drop, map}
use Rattle.std.specs.Prelude.{pos, ◌+ℤ◌, ◌*ℤ◌}
use Rattle.value.specs.declared.values.Value.TheVariants.{Int}
use Rattle.table.specs.Bounds.{joined_bound, bound_of}
use Rattle.table.specs.Eval.{answer}
use Rattle.table.specs.Values.{total}
use Rattle.table.specs.Shown.{lent_value}
use Rattle.table.specs.Slots.{kinds_of, magnitude, values_of}
use Rattle.table.proofs.evals.+evaluate.Given as goal

-- the sum so far with the rest is the whole, and it is within a bound that the rest takes up
abbrev pub invariant-loop-part : goal.invariant-loop-part
invariant-loop-part l = record {
  rest : total (λ m n. m +ℤ n) (lent_value l.total) (map (answer l.row (values_of l.slots)) (drop l.part-index l.part-items)) ≡ total (λ m n. m +ℤ n) (Int (pos 0)) (map (answer l.row (values_of l.slots)) l.part-items);
  bounded : (b : ℕ) × ((magnitude (lent_value l.total) ≤ b) × (b ≤ 2 ^ 126) × (joined_bound (λ a b. a + b) b (map (bound_of (kinds_of l.slots)) (drop l.part-index l.part-items)) ≡ joined_bound (λ a b. a + b) 0 (map (bound_of (kinds_of l.slots)) l.part-items)));
}

abbrev pub invariant-loop-part-2 : goal.invariant-loop-part-2
invariant-loop-part-2 l = record {
  rest : total (λ m n. m *ℤ n) (lent_value l.total) (map (answer l.row (values_of l.slots)) (drop l.part-index l.part-items)) ≡ total (λ m n. m *ℤ n) (Int (pos 1)) (map (answer l.row (values_of l.slots)) l.part-items);
  bounded : (b : ℕ) × ((magnitude (lent_value l.total) ≤ b) × (b ≤ 2 ^ 126) × (joined_bound (λ a b. a * b) b (map (bound_of (kinds_of l.slots)) (drop l.part-index l.part-items)) ≡ joined_bound (λ a b. a * b) 1 (map (bound_of (kinds_of l.slots)) l.part-items)));
}
