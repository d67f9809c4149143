use Rattle.std.proofs.Common.{◌≡◌, ◌++◌, drop}
use Rattle.std.specs.Prelude.{flat_map}
use Rattle.assertion.specs.Declarations.{layouts_in}
use Rattle.alone.specs.States.{row_in}
use Rattle.alone.specs.Checks.{query_keys}
use Rattle.changes.proofs.checks.push_links.Given as goal

-- what was pushed and what is to come is the whole
abbrev pub invariant-loop-query : goal.invariant-loop-query
invariant-loop-query l =
    let layouts = layouts_in l.view.declared in
    let linked = query_keys layouts l.key_column l.key (row_in layouts l.view.state (record { table = l.table; key = l.key })) in
    l.keys.items ++ flat_map linked (drop l.query-index l.queries) ≡ l.initial.keys.items ++ flat_map linked l.queries
