use Rattle.std.proofs.Common.{◌≡◌, take}
use Rattle.siread.specs.Readers.{last_reaching}
use Rattle.siread.proofs.readers.last_reaching.Given as goal

-- none of those at the end reaches so far
abbrev pub invariant-loop-at : goal.invariant-loop-at
invariant-loop-at l =
    last_reaching l.reach.least l.reach.reaches.now (take l.at l.readers)
    ≡ last_reaching l.reach.least l.reach.reaches.now l.readers
