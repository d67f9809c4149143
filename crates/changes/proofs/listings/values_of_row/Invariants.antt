use Rattle.std.proofs.Common.{◌≡◌, ◌++◌, drop, map}
use Rattle.table.specs.Eval.{answer}
use Rattle.table.specs.Slots.{values_of}
use Rattle.alone.specs.Results.{value_of}
use Rattle.changes.proofs.listings.values_of_row.Given as goal

-- the values so far, and those of the other expressions
abbrev pub invariant-loop-value : goal.invariant-loop-value
invariant-loop-value l =
    map value_of l.made.items ++ map (answer l.row (values_of l.slots)) (drop l.value-index l.values)
    ≡ map (answer l.row (values_of l.slots)) l.values
