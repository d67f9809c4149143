use Rattle.std.proofs.Common.{[]}
use Rattle.durable.specs.Promise.{entries_in}
use Rattle.durable.proofs.opening.take_up.Given as goal

abbrev pub ghost-reopen_at : goal.ghost-reopen_at
ghost-reopen_at g a = record { first = a._first; entries = entries_in a._first a.bytes.now; batch = [] }

abbrev pub ghost-repair : goal.ghost-repair
ghost-repair g a = record { first = a._first; entries = entries_in a._first (g.D.Device.seen a.journal.now.device); batch = [] }
