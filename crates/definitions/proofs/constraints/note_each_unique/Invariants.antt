use Rattle.std.proofs.Common.{◌≡◌, ◌++◌, drop}
use Rattle.std.specs.List.{flat_map}
use Rattle.definitions.specs.Constraints.{unique_by}
use Rattle.definitions.proofs.constraints.note_each_unique.Given as goal

-- what was noted and what is to come is the whole
abbrev pub invariant-loop-constraint : goal.invariant-loop-constraint
invariant-loop-constraint l =
    l.all.items ++ flat_map (unique_by l.table) (drop l.constraint-index l.constraints) ≡ l.initial.all.items ++ flat_map (unique_by l.table) l.constraints
