use Rattle.std.proofs.Common.{◌≡◌, ◌++◌}
use Rattle.std.specs.Prelude.{flat_map}
use Rattle.changes.specs.Nets.{change_noted}
use Rattle.changes.proofs.touched.TouchedRows.net_change.Given as goal

-- the changes so far, and those of the places that are left
abbrev pub invariant-loop-place : goal.invariant-loop-place
invariant-loop-place l = l.made.items ++ flat_map change_noted l.place-iterator ≡ flat_map change_noted l.self
