use Rattle.std.proofs.Common.{◌≡◌, ◌++◌, ◌≤◌, ◌-◌, drop, length, map}
use Rattle.alone.specs.Groups.{runs}
use Rattle.changes.specs.Keyed.{compare_keyed, row_of}
use Rattle.changes.proofs.groupings.runs.Given as goal

-- the runs so far, and those of the rows that are left
abbrev pub invariant-loop-from : goal.invariant-loop-from
invariant-loop-from l = record {
  groups : map (λ group. map (λ row. row.now) group.items) l.groups.items ++ map (map row_of) (runs compare_keyed (drop l.from l.keyed))
      ≡ map (map row_of) (runs compare_keyed l.keyed);
  within : l.from ≤ length l.keyed;
}

abbrev pub decreases-loop-from : goal.decreases-loop-from
decreases-loop-from l = length l.keyed - l.from
