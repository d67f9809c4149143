use Rattle.std.proofs.Common.{None, ◌∙◌, sym}
use Rattle.std.proofs.lemmas.Result.{IfOk-weaker}
use Rattle.groups.specs.Totals.{Entries}
use Rattle.roots.specs.Shown.{lent_query}
use Rattle.roots.proofs.MaintainedLemmas.{totals-as}
use Rattle.roots.proofs.maintained.total_of.Goals as goal

pub returns-in-None : goal.returns-in-None
returns-in-None c =
    IfOk-weaker c.total_of_table.result _ _
    (λ (made : Entries) h. totals-as (lent_query c.args.summary) None (sym c.rows_around.ensures ∙ c.in-None.is) c.args.tables.now made h)
    c.total_of_table.ensures
