use Rattle.std.proofs.Common.{◌≡◌, length}
use Rattle.pages.proofs.differential.DifferentialMap.len.Given as goal

-- the values so far
abbrev pub invariant-loop : goal.invariant-loop
invariant-loop g l = l.count ≡ length l.yielded
