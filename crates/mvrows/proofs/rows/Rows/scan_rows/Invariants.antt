use Rattle.std.proofs.Common.{◌≡◌, ◌++◌, map}
use Rattle.mvrows.specs.Looked.{rows_with}
use Rattle.mvrows.proofs.rows.Rows.scan_rows.Given as goal

-- the rows so far and those of the rows that are left are all
abbrev pub invariant-loop-row : goal.invariant-loop-row
invariant-loop-row l = map (λ row. row.now) l.rows.items ++ rows_with l.column l.value l.row-iterator ≡ rows_with l.column l.value l.self
