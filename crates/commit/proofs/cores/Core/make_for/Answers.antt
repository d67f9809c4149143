use Rattle.std.specs.Prelude.{◌==◌, ◌+◌, length}
use Rattle.txn.specs.Transactions.{outcome_of}
use Rattle.commit.specs.Cores.{record_of}
use Rattle.commit.proofs.Deciding.{passed}
use Rattle.commit.proofs.cores.Core.make_for.Goals as goal

pub make_tables-requires-clause-free : goal.make_tables-requires-clause-free
make_tables-requires-clause-free c = λ session other listed conflict.
    let all = passed c.args.self.now (record_of c.args.self.now c.args.session.now c.args.closed.now) (outcome_of c.args.closed.now).refused (length c.args.self.now.records == c.args.self.now.limit) (length c.args.self.now.records + 1) c.requires.answered in
    all.answer.1 other listed (record { after_snapshot = conflict.after_snapshot; common = conflict.common })

pub returns-clause-tables : goal.returns-clause-tables
returns-clause-tables c = c.in_ok-tables.ensures c.args.session.now
