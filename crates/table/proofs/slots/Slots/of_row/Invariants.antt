use Rattle.std.proofs.Common.{◌≡◌, take, map}
use Rattle.table.specs.Slots.{kinds_of, values_of}
use Rattle.table.specs.declared.slots.SlotKind.TheVariants.{Extreme}
use Rattle.table.proofs.slots.Slots.of_row.Given as goal

-- a slot for each value so far
abbrev pub invariant-loop-value : goal.invariant-loop-value
invariant-loop-value l = record {
  kinds : kinds_of l.slots ≡ map (λ v. Extreme) (take l.value-index l.value-items);
  values : values_of l.slots ≡ take l.value-index l.value-items;
}
