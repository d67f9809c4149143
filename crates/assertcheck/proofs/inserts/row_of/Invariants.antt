use Rattle.std.proofs.Common.{◌≡◌, ◌++◌, drop, length}
use Rattle.assertcheck.specs.Statements.{row_from}
use Rattle.assertcheck.proofs.inserts.row_of.Given as goal

-- the values so far with those from here on are the row
abbrev pub invariant-loop-column : goal.invariant-loop-column
invariant-loop-column l = l.row.items ++ row_from (length l.row.items) (drop l._column-index l.columns) l.places l.values ≡ row_from 0 l.columns l.places l.values
