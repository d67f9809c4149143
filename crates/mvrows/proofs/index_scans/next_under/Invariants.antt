use Rattle.std.proofs.Common.{◌≡◌, length}
use Rattle.std.specs.Prelude.{filter_map}
use Rattle.table.specs.Rows.{row_at}
use Rattle.mvrows.proofs.index_scans.next_under.Given as goal

-- under the keys passed over stands no row
abbrev pub invariant-loop-key : goal.invariant-loop-key
invariant-loop-key l = filter_map (λ key. row_at l.key_column key l.rows) l.keys ≡ filter_map (λ key. row_at l.key_column key l.rows) l.initial.keys

abbrev pub decreases-loop-key : goal.decreases-loop-key
decreases-loop-key l = length l.keys
