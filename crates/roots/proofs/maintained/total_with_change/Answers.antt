use Rattle.std.proofs.Common.{subst, sym}
use Rattle.std.proofs.lemmas.Result.{IfOk-weaker}
use Rattle.assertion.specs.Meaning.{rows_of}
use Rattle.assertion.specs.Changes.{state_after}
use Rattle.groups.specs.Totals.{AreTotalsOf, Entries}
use Rattle.groups.proofs.RowLemmas.{members_within}
use Rattle.roots.specs.Shown.{lent_query}
use Rattle.roots.specs.Summaries.{place, row_members}
use Rattle.roots.proofs.MaintainedLemmas.{members-changed}
use Rattle.roots.proofs.maintained.total_with_change.Goals as goal

pub returns : goal.returns
returns c =
    let q = lent_query c.args.summary in
    IfOk-weaker c.with.result _ _
    (λ (made : Entries) h. λ layouts state is small totals.
    let after = state_after layouts c.args.change.now state in
    h (row_members q (rows_of q.table state)) (row_members q (rows_of q.table after))
    (rw (c.in_ok-add.ensures, c.in_ok-remove.ensures) (members-changed layouts c.args.change.now state is q c.if-summary-change.false))
    (subst (AreTotalsOf q.aggregate (row_members q (rows_of q.table state))) (sym c.in_ok-same.ensures) totals) (members_within (place q) q.aggregate (rows_of q.table after) (small.short q.table) (small.small q.table)))
    c.with.ensures
