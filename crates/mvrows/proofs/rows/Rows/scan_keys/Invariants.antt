use Rattle.std.proofs.Common.{◌≡◌, ◌++◌}
use Rattle.mvrows.specs.Looked.{keys_with}
use Rattle.mvrows.proofs.rows.Rows.scan_keys.Given as goal

-- the keys so far and those of the rows that are left are all
abbrev pub invariant-loop-row : goal.invariant-loop-row
invariant-loop-row l = l.keys.items ++ keys_with l.key_column l.column l.value l.row-iterator ≡ keys_with l.key_column l.column l.value l.self
