use Rattle.std.proofs.Common.{◌≡◌, drop, length}
use Rattle.value.specs.Results.{behind, each}
use Rattle.assertcheck.specs.Groupings.{own_summary}
use Rattle.assertcheck.specs.Statements.{places_from}
use Rattle.assertcheck.proofs.groupings.own_summaries.Given as goal

-- those made so far with those from here on are all
abbrev pub invariant-loop-column : goal.invariant-loop-column
invariant-loop-column l =
    behind l.made.items (each (own_summary l.grouping) (places_from (length l.made.items) (drop l._column-index l.columns)))
    ≡ each (own_summary l.grouping) (places_from 0 l.columns)
