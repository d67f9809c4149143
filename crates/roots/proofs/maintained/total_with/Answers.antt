use Rattle.std.proofs.lemmas.Result.{IfOk-weaker}
use Rattle.std.proofs.Common.{[], ◌∷◌, ◌++◌}
use Rattle.groups.specs.Answers.{value_for}
use Rattle.groups.specs.Totals.{Entries}
use Rattle.groups.proofs.RowLemmas.{members_added}
use Rattle.roots.specs.Shown.{lent_query}
use Rattle.roots.specs.Summaries.{place, row_members}
use Rattle.roots.proofs.maintained.total_with.Goals as goal

pub returns : goal.returns
returns c =
    let s = lent_query c.args.summary in
    let row = c.args.row.now in
    IfOk-weaker c.with.result _ _
    (λ (made : Entries) h. λ rows within totals.
    h (row_members s rows) (row_members s (rows ++ row ∷ [])) (rw c.in_ok-add.ensures (members_added (place s) (value_for s.aggregate) row rows)) totals within)
    c.with.ensures
