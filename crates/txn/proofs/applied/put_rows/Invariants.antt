use Rattle.std.proofs.Common.{drop}
use Rattle.txn.proofs.Inserting.{PutSoFar}
use Rattle.txn.proofs.applied.put_rows.Given as goal

-- the changes so far with those of the rows that are left are all, and the view is what they leave
abbrev pub invariant-loop-row : goal.invariant-loop-row
invariant-loop-row l = PutSoFar l.own l.table l.rows l.changes.items l.view (drop l.row-index l.rows)
