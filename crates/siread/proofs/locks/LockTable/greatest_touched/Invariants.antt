use Rattle.std.proofs.Common.{◌≡◌}
use Rattle.std.specs.Prelude.{max}
use Rattle.siread.specs.Locks.{last_touched}
use Rattle.siread.specs.Readers.{last_reaching}
use Rattle.siread.proofs.locks.LockTable.greatest_touched.Given as goal

-- what is found so far, and what is left
abbrev pub invariant-loop-family : goal.invariant-loop-family
invariant-loop-family l =
    max l.greatest (last_touched (last_reaching l.reach.least l.reach.reaches.now) l.change l.family-iterator)
    ≡ last_touched (last_reaching l.reach.least l.reach.reaches.now) l.change l.self
