use denote.Param.Send.{sendable}
use Rattle.std.proofs.Crossing.{crosses}
use Rattle.skewguard.proofs.Crossing.{JournalFile-send}
use Rattle.skewguard.proofs.runs_on_journal.run_threads.Goals as goal

pub threads_on_journal-requires-send-D : goal.threads_on_journal-requires-send-D
threads_on_journal-requires-send-D g c κs = search (JournalFile-send, crosses, sendable) depth 60 fits 20000
