use Rattle.std.proofs.Common.{◌≡◌}
use Rattle.std.specs.Prelude.{drop}
use Rattle.conflict.specs.Live.{least_writing}
use Rattle.conflict.proofs.open_snapshots.Live.least_writing.Given as goal

-- what is the least so far counts as newest for the rest
abbrev pub invariant-loop-live : goal.invariant-loop-live
invariant-loop-live l =
    least_writing l.least (drop l.live-index l.live-items) ≡ least_writing l.newest l.self.snapshots
