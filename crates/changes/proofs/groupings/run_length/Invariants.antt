use Rattle.std.proofs.Common.{◌≡◌, ◌+◌, ◌-◌, ◌<◌, drop, length}
use Rattle.changes.specs.Keyed.{compare_keyed, run_length}
use Rattle.changes.proofs.groupings.run_length.Given as goal

-- all up to the last one are of the run
abbrev pub invariant-loop-last : goal.invariant-loop-last
invariant-loop-last l = record {
  run : run_length compare_keyed l.keyed ≡ l.last + run_length compare_keyed (drop l.last l.keyed);
  within : l.last < length l.keyed;
}

abbrev pub decreases-loop-last : goal.decreases-loop-last
decreases-loop-last l = length l.keyed - l.last
