use Rattle.std.proofs.Common.{rules}
use Rattle.journal_file.proofs.Noted.{wrote}
use Rattle.journal_file.proofs.files.JournalFileDevice.write_at.Goals as goal

pub returns-clause-written : goal.returns-clause-written
returns-clause-written g c =
    wrote c.write-outcome.result c.args.at c.args.bytes.now c.args.self.now.calls.events c.note.new.self.events c.requires (search rules)
