use Rattle.std.proofs.Common.{◌≡◌, ◌++◌, drop}
use Rattle.std.specs.Prelude.{flat_map}
use Rattle.assertion.specs.Candidates.{query_candidates}
use Rattle.assertion.specs.Meaning.{rows_of}
use Rattle.roots.proofs.candidate_roots.push_links.Given as goal

-- what was pushed and what is to come is the whole
abbrev pub invariant-loop-query : goal.invariant-loop-query
invariant-loop-query l =
    let linked = query_candidates l.of.key (rows_of l.of.table l.of.tables.now) l.change in
    l.roots.items ++ flat_map linked (drop l.query-index l.queries) ≡ l.initial.roots.items ++ flat_map linked l.queries
