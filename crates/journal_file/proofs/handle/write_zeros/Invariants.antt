use Rattle.std.proofs.Common.{◌≤◌, ◌-◌}
use Rattle.journal_file.proofs.handle.write_zeros.Given as goal

abbrev pub invariant-loop-written : goal.invariant-loop-written
invariant-loop-written l = l.written ≤ l.count

abbrev pub decreases-loop-written : goal.decreases-loop-written
decreases-loop-written l = l.count - l.written
