use Rattle.std.proofs.Common.{◌≡◌, ◌++◌, map}
use Rattle.mvrows.proofs.rows.collect.Given as goal

-- the rows so far and those that are left are all
abbrev pub invariant-loop-row : goal.invariant-loop-row
invariant-loop-row l = map (λ row. row.now) l.list.items ++ l.row-iterator ≡ l.fn.rows
