use Rattle.std.proofs.Common.{◌≡◌, length, map}
use Rattle.pages.specs.Differences.{with_differences}
use Rattle.pages.specs.Reach.{value_of, AreInOrder}
use Rattle.pages.proofs.values.take_next.Given as goal

-- nothing was taken yet but differences by which nothing stands
abbrev pub invariant-loop-main : goal.invariant-loop-main
invariant-loop-main g l = record {
  same : map value_of (with_differences l.differences.now l.main) ≡ map value_of (with_differences l.initial.differences.now l.initial.main);
  main : AreInOrder l.main;
  differences : AreInOrder l.differences.now;
}

abbrev pub decreases-loop-main : goal.decreases-loop-main
decreases-loop-main g l = length l.differences.now
