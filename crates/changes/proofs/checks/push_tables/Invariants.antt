use Rattle.std.proofs.Common.{◌≡◌, ◌++◌, drop, map}
use Rattle.siread.specs.declared.keys.LockKey.TheVariants.{Table as WholeTable}
use Rattle.changes.proofs.checks.push_tables.Given as goal

-- what was pushed and what is to come is the whole
abbrev pub invariant-loop-query : goal.invariant-loop-query
invariant-loop-query g l =
    l.keys.items ++ map WholeTable (map (λ q. q.table) (drop l.query-index l.queries))
    ≡ l.initial.keys.items ++ map WholeTable (map (λ q. q.table) l.queries)
