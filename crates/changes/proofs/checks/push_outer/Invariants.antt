use Rattle.std.proofs.Common.{◌≡◌, ◌++◌, drop}
use Rattle.std.specs.Prelude.{flat_map}
use Rattle.alone.specs.Checks.{outer_keys}
use Rattle.changes.proofs.checks.push_outer.Given as goal

-- what was pushed and what is to come is the whole
abbrev pub invariant-loop-query : goal.invariant-loop-query
invariant-loop-query l =
    let outer = outer_keys l.table l.key_column l.change in
    l.keys.items ++ flat_map outer (drop l.query-index l.queries) ≡ l.initial.keys.items ++ flat_map outer l.queries
