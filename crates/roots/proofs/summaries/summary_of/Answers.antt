use Rattle.std.proofs.Common.{sym, ap, ◌∙◌}
use Rattle.roots.specs.Summaries.{group_query}
use Rattle.roots.proofs.AnswerLemmas.{group-summary}
use Rattle.roots.proofs.summaries.summary_of.Goals as goal

pub returns-in-ByGroup-clause-summary : goal.returns-in-ByGroup-clause-summary
returns-in-ByGroup-clause-summary c =
    ap (group_query c.in-ByGroup.table c.in-ByGroup.filter c.in-ByGroup.group) (rw c.as_slice-in-ByGroup.ensures at c.function_at.ensures)
    ∙ sym (group-summary c.args.schemas.now c.args.form.now _ _ _ _ _ c.in-ByGroup.is c.args.index c.requires.within _)
