use Rattle.std.proofs.Common.{◌≡◌, ◌++◌, length, reverse}
use Rattle.threads.proofs.grouping.reverse.Given as goal

-- the lines so far, and then those that are left, the last first
abbrev pub invariant-turn : goal.invariant-turn
invariant-turn l = l.turned ++ reverse l.lines ≡ reverse l.initial.lines

abbrev pub decreases-turn : goal.decreases-turn
decreases-turn l = length l.lines
