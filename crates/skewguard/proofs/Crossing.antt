-- A journal's file may cross threads.
use denote.RattleType.{RattleType}
use denote.Param.Send.{IsSend, owning_send, sendable}
use Rattle.std.proofs.Crossing.{crosses}
use Rattle.journal_file.specs.contracts.files.JournalFile as JournalFile
use Rattle.journal_file.specs.contracts.record.Record as Record

-- the record of its calls holds no memory
Record-send : IsSend Record.the_row
Record-send = owning_send Record.the_type (search (crosses, sendable) depth 60 fits 20000, tt) (λ d. tt) (λ k x w. tt)

pub JournalFile-send : (F : RattleType) → IsSend F → IsSend ((JournalFile.the_field F).row)
JournalFile-send F s = search (Record-send, crosses, sendable) depth 60 fits 20000
