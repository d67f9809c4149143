use Rattle.std.proofs.Common.{◌+◌, length}
use Rattle.durable.specs.Promise.{IsReadyFor}
use Rattle.journal_file.specs.Files.{file_bytes, file_may_leave}
use Rattle.skewguard.proofs.ledgers.serve.Given as goal

-- the next commit can be kept
abbrev pub invariant-loop-turn : goal.invariant-loop-turn
invariant-loop-turn g l = IsReadyFor file_bytes file_may_leave (length l.ledger.engine.core.records + 1) l.ledger.writer
