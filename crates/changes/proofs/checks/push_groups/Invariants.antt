use Rattle.std.proofs.Common.{◌≡◌, ◌++◌, drop}
use Rattle.std.specs.Prelude.{flat_map}
use Rattle.changes.specs.Lookups.{group_keys}
use Rattle.changes.proofs.checks.push_groups.Given as goal

-- what was pushed and what is to come is the whole
abbrev pub invariant-loop-change : goal.invariant-loop-change
invariant-loop-change l =
    let groups = group_keys l.table l.group in
    l.keys.items ++ flat_map groups (drop l.change-index l.changes) ≡ l.initial.keys.items ++ flat_map groups l.changes
