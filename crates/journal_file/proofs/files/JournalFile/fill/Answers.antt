use Rattle.std.proofs.Common.{rules, ◌≡◌, ◌+◌, length}
use Rattle.journal_file.specs.Files.{file_bytes}
use Rattle.journal_file.proofs.Noted.{filled}
use Rattle.journal_file.proofs.files.JournalFile.fill.Goals as goal

pub returns-clause-bytes : goal.returns-clause-bytes
returns-clause-bytes g c =
    let long : c.in-Some.length ≡ length c.args.bytes.now + c.args.room = search rules in
    filled c.sync.result c.args.bytes.now (file_bytes c.args.self.now) (file_bytes c.grow.new.self) (file_bytes c.write_at.new.self) (file_bytes c.sync.new.self) c.in-Some.length c.args.room
    c.requires c.in_ok-grow.ensures.grown long c.in_ok-write_at.ensures.written c.sync.ensures.seen
