use Rattle.std.proofs.Common.{◌-◌, ◌≤◌, take, drop, length}
use Rattle.value.specs.Ordered.{AreAbove}
use Rattle.value.specs.ValueOrder.{value_cmp}
use Rattle.pages.specs.Parts.{own}
use Rattle.pages.proofs.Separators.{NoneAbove}
use Rattle.pages.proofs.search.route.Given as goal

-- no separator before `low` is above the key, and those from `high` on are
abbrev pub invariant-loop-low : goal.invariant-loop-low
invariant-loop-low l = record {
  order : l.low ≤ l.high;
  within : l.high ≤ length l.seps;
  before : NoneAbove l.key (take l.low l.seps);
  behind : AreAbove value_cmp own l.key (drop l.high l.seps);
}

abbrev pub decreases-loop-low : goal.decreases-loop-low
decreases-loop-low l = l.high - l.low
