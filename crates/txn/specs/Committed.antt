-- What stays of a transaction that is committed.
use Rattle.std.specs.Prelude.{◌≡◌}
use Rattle.txn.specs.declared.closed.Parts.{Parts}
use Rattle.txn.specs.Transactions.{OpenTransaction, keys_of, outcome_of}

-- its statements, what it has read, the check of COMMIT included, and its net change
pub record AreParts (t : OpenTransaction) (parts : Parts) : Type 0 where
  pub trace_is : parts.trace ≡ t.trace
  pub reads_are : parts.reads ≡ keys_of t
  pub changes_are : parts.changes ≡ (outcome_of t).changes
