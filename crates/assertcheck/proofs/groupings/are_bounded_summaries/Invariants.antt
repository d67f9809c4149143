use Rattle.std.proofs.Common.{◌≡◌, drop}
use Rattle.std.specs.List.{list_all}
use Rattle.assertcheck.specs.Groupings.{is_bounded_summary}
use Rattle.assertcheck.proofs.groupings.are_bounded_summaries.Given as goal

-- all are bounded where those that are left are
abbrev pub invariant-loop-summary : goal.invariant-loop-summary
invariant-loop-summary l =
    list_all is_bounded_summary (drop l.summary-index l.summaries) ≡ list_all is_bounded_summary l.summaries
