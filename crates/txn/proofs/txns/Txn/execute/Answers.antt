use Rattle.std.proofs.Common.{◌∙◌, ap}
use Rattle.alone.specs.Resolve.{is_read_only, resolution_of}
use Rattle.alone.proofs.ReadOnly.{resolved_reads}
use Rattle.txn.specs.Transactions.{OpenTransaction}
use Rattle.txn.proofs.txns.Txn.execute.Goals as goal

pub run-requires-clause-may_run : goal.run-requires-clause-may_run
run-requires-clause-may_run c = λ read_only.
    let declared = c.self.inside.start.declared in
    ap is_read_only c.in_ok-statement.ensures.resolved
    ∙ ap (λ b. is_read_only (resolution_of declared b c.args.statement.now)) (ap (λ (t : OpenTransaction). t.read_only) c.self.view_is ∙ read_only)
    ∙ resolved_reads declared c.args.statement.now
