use Rattle.std.proofs.Common.{◌≡◌, ◌-◌, ◌≤◌, false, take, drop, length}
use Rattle.value.specs.Ordered.{AreAbove}
use Rattle.value.specs.ValueOrder.{value_cmp}
use Rattle.pages.specs.Reach.{key_of, reaches}
use Rattle.pages.proofs.search.seek.Given as goal

-- the entries before `low` are below the key, and those from `high` on above it
abbrev pub invariant-loop-low : goal.invariant-loop-low
invariant-loop-low g l = record {
  order : l.low ≤ l.high;
  within : l.high ≤ length l.page;
  before : reaches l.key (take l.low l.page) ≡ false;
  behind : AreAbove value_cmp key_of l.key (drop l.high l.page);
}

abbrev pub decreases-loop-low : goal.decreases-loop-low
decreases-loop-low g l = l.high - l.low
