use Rattle.std.proofs.Common.{◌≡◌, ◌++◌, drop, map}
use Rattle.alone.specs.Results.{value_of}
use Rattle.alone.specs.Statements.{summary_value}
use Rattle.changes.proofs.listings.summary_row.Given as goal

-- the values so far, and those of the other expressions
abbrev pub invariant-loop-summary : goal.invariant-loop-summary
invariant-loop-summary l =
    map value_of l.made.items ++ map (summary_value (map (λ row. row.now) l.rows)) (drop l.summary-index l.summaries)
    ≡ map (summary_value (map (λ row. row.now) l.rows)) l.summaries
