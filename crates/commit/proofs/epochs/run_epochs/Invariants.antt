use Rattle.commit.proofs.Continuing.{HavePassed}
use Rattle.commit.proofs.epochs.run_epochs.Given as goal

-- the epochs so far have passed, each whole
abbrev pub invariant-loop-epoch : goal.invariant-loop-epoch
invariant-loop-epoch l = HavePassed l.limit l.loaded l.epochs l.epoch-index l.outcomes.items
