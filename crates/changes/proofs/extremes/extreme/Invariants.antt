use Rattle.std.proofs.Common.{◌≡◌, ◌≤◌, drop, length, map}
use Rattle.std.specs.Prelude.{unwrap_or}
use Rattle.value.specs.Ordered.{least}
use Rattle.value.specs.declared.values.Value.TheVariants.{Null}
use Rattle.table.specs.Aggregates.{values_in}
use Rattle.changes.specs.Extremes.{toward}
use Rattle.changes.proofs.extremes.extreme.Given as goal

-- the one of the rows from here on
abbrev pub invariant-loop-from : goal.invariant-loop-from
invariant-loop-from l = record {
  extreme : l.extreme ≡ unwrap_or (least (toward l.is_greatest) (values_in l.column (map (λ row. row.now) (drop l.from l.rows)))) Null;
  within : l.from ≤ length l.rows;
}

abbrev pub decreases-loop-from : goal.decreases-loop-from
decreases-loop-from l = l.from
