use Rattle.std.proofs.Common.{◌≡◌, ◌+◌, ◌≤◌, length}
use Rattle.pages.specs.Differences.{with_differences}
use Rattle.pages.specs.Reach.{AreInOrder}
use Rattle.pages.specs.Shapes.{IsPage}
use Rattle.pages.proofs.differential.merge.Given as goal

-- what is left beside the map, with the map, is what it was
abbrev pub invariant-loop-last : goal.invariant-loop-last
invariant-loop-last g l = record {
  same : with_differences l.differences.items l.main ≡ with_differences l.initial.differences.items l.initial.main;
  page : IsPage l.differences.items;
  order : AreInOrder l.main;
  short : length l.main + length l.differences.items ≤ length l.initial.main + length l.initial.differences.items;
}

abbrev pub decreases-loop-last : goal.decreases-loop-last
decreases-loop-last g l = length l.differences.items
