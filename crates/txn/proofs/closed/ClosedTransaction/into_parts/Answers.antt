use Rattle.std.proofs.Common.{List, ap, ◌∙◌}
use Rattle.std.specs.Prelude.{unwrap_or}
use Rattle.siread.specs.declared.keys.LockKey.{LockKey}
use Rattle.txn.specs.Transactions.{OpenTransaction, keys_of, outcome_of}
use Rattle.txn.proofs.closed.ClosedTransaction.into_parts.Goals as goal

pub returns : goal.returns
returns c = record {
  trace_is = c.from_vec.ensures ∙ c.into_trace_and_reads-trace.ensures.trace ∙ ap (λ (t : OpenTransaction). t.trace) c.self.view_is;
  reads_are =
      c.all_or.ensures ∙ ap (λ (ks : List LockKey). unwrap_or c.self.inside.keys ks) c.into_trace_and_reads-trace.ensures.reads
      ∙ c.self.invariant.reads_are ∙ ap (λ (t : OpenTransaction). keys_of t) c.self.view_is;
  changes_are = c.from_vec-2.ensures ∙ c.self.invariant.changes_are ∙ ap (λ (t : OpenTransaction). (outcome_of t).changes) c.self.view_is;
}
