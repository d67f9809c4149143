use Rattle.std.proofs.Common.{◌≡◌, ◌+◌, ◌*◌, ◌≤◌, ◌^◌, drop, map}
use Rattle.table.specs.Bounds.{joined_bound, bound_of}
use Rattle.table.proofs.bounds.+bound_within.Given as goal

-- the bound so far with those of the rest gives the whole's
abbrev pub invariant-loop-part : goal.invariant-loop-part
invariant-loop-part l = record {
  rest : joined_bound (λ a b. a + b) l.total (map (bound_of l.kinds) (drop l.part-index l.part-items)) ≡ joined_bound (λ a b. a + b) 0 (map (bound_of l.kinds) l.part-items);
  limited : l.total ≤ 2 ^ 126;
}

abbrev pub invariant-loop-factor : goal.invariant-loop-factor
invariant-loop-factor l = record {
  rest : joined_bound (λ a b. a * b) l.total (map (bound_of l.kinds) (drop l.factor-index l.factor-items)) ≡ joined_bound (λ a b. a * b) 1 (map (bound_of l.kinds) l.factor-items);
  limited : l.total ≤ 2 ^ 126;
}
