use Rattle.std.proofs.Common.{◌≡◌, ◌++◌, drop, filter, map}
use Rattle.alone.specs.Statements.{is_kept, summary_value}
use Rattle.changes.proofs.listings.each_group.Given as goal

-- what is listed so far, and of the groups that are left
abbrev pub invariant-loop-group : goal.invariant-loop-group
invariant-loop-group l =
    l.made.items
    ++ map (λ group. map (summary_value group) l.grouping.values)
    (filter (is_kept l.grouping.having) (map (λ group. map (λ row. row.now) group.items) (drop l.group-index l.group-items)))
    ≡ map (λ group. map (summary_value group) l.grouping.values)
    (filter (is_kept l.grouping.having) (map (λ group. map (λ row. row.now) group.items) l.group-items))
