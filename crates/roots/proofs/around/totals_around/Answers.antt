use Rattle.std.proofs.Common.{[], List, Some, subst}
use Rattle.std.proofs.lemmas.Result.{IfOk-weaker}
use Rattle.table.specs.Rows.{RowValues}
use Rattle.assertion.specs.Meaning.{rows_of}
use Rattle.groups.specs.Totals.{AreTotalsOf, Entries}
use Rattle.roots.specs.Around.{around_members}
use Rattle.roots.specs.Shown.{lent_query}
use Rattle.roots.proofs.MaintainedLemmas.{totals-as}
use Rattle.roots.proofs.around.totals_around.Goals as goal

pub returns-in-Some : goal.returns-in-Some
returns-in-Some c =
    let q = lent_query c.args.summary in
    IfOk-weaker c.totals_for_rows.result _ _
    (λ (made : Entries) h. totals-as q (Some c.args.around) c.requires.around c.args.tables.now made
    (subst (λ (rows : List RowValues). AreTotalsOf q.aggregate (around_members c.args.around q rows (rows_of q.table c.args.tables.now)) made) (c.in-Some.ensures.lookup.3.1 []) h))
    c.totals_for_rows.ensures
