use Rattle.std.proofs.Common.{◌∙◌, ap}
use Rattle.table.specs.Eval.{truth}
use Rattle.roots.specs.Bad.{answers}
use Rattle.roots.specs.Summaries.{queries_of}
use Rattle.roots.proofs.bad_roots.truth_of_whole.Goals as goal

pub returns : goal.returns
returns c =
    let empty = c.in_ok-row.ensures ∙ c.new.ensures.items in
    c.eval.ensures ∙ ap (λ vs. truth c.in_ok-row.row vs c.args.condition.now) c.in_ok-slots.ensures.values
    ∙ ap (λ row. truth row (answers c.args.tables.now (queries_of c.args.schemas.now c.args.form.now) row) c.args.condition.now) empty
