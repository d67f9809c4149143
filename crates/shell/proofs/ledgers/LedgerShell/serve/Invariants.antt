use Rattle.std.proofs.Common.{◌+◌, length}
use Rattle.durable.specs.Promise.{IsReadyFor}
use Rattle.shell.proofs.ledgers.LedgerShell.serve.Given as goal

-- the next commit can be kept
abbrev pub invariant-loop-turn : goal.invariant-loop-turn
invariant-loop-turn g l =
    IsReadyFor g.D.Device.seen g.D.Device.may_leave (length l.ledger.engine.core.records + 1) l.ledger.writer
