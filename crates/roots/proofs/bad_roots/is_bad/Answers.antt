use Rattle.std.proofs.Common.{◌∙◌, Bool}
use Rattle.std.proofs.lemmas.Result.{IfOk-weaker}
use Rattle.roots.proofs.BadLemmas.{row-bad, group-bad, group-some, whole-bad}
use Rattle.roots.proofs.BoundLemmas.{row-bounded, having-bounded, whole-bounded}
use Rattle.roots.proofs.ItemLemmas.{item_in}
use Rattle.roots.specs.Summaries.{summaries_of}
use Rattle.std.specs.Option.{option_copied}
use Rattle.roots.proofs.bad_roots.is_bad.Goals as goal

pub row_passes-requires-clause-bounded : goal.row_passes-requires-clause-bounded
row_passes-requires-clause-bounded c = row-bounded c.args.schemas.now c.args.form.now _ _ _ c.in-ByRow-Of.is-0 c.requires.bounded

pub group_passes-requires-clause-bounded : goal.group_passes-requires-clause-bounded
group_passes-requires-clause-bounded c = having-bounded c.args.schemas.now c.args.form.now _ _ _ _ _ c.in-ByGroup-Of.is-0 c.requires.bounded

pub group_passes-requires-clause-some : goal.group_passes-requires-clause-some
group_passes-requires-clause-some c = group-some c.args.schemas.now c.args.form.now _ _ _ _ _ c.in-ByGroup-Of.is-0

pub whole_is_false-requires-clause-bounded : goal.whole_is_false-requires-clause-bounded
whole_is_false-requires-clause-bounded c = whole-bounded c.args.schemas.now c.args.form.now _ _ c.in-Single-All.is-0 c.requires.bounded

pub returns-in-ByRow-Of : goal.returns-in-ByRow-Of
returns-in-ByRow-Of c =
    IfOk-weaker c.row_passes.result _ _
    (λ (b : Bool) h. λ is_row. h ∙ row-bad c.args.schemas.now c.args.tables.now c.args.form.now c.args.root.now (option_copied c.args.row) _ _ _ _ c.in-ByRow-Of.is-0 c.in-ByRow-Of.is-1 is_row)
    c.row_passes.ensures

pub returns-in-ByGroup-Of : goal.returns-in-ByGroup-Of
returns-in-ByGroup-Of c =
    let d = item_in (summaries_of c.args.schemas.now c.args.form.now) 0 (group-some c.args.schemas.now c.args.form.now _ _ _ _ _ c.in-ByGroup-Of.is-0) in
    IfOk-weaker c.group_passes.result _ _
    (λ (b : Bool) h. λ is_row. h d ∙ group-bad c.args.schemas.now c.args.tables.now c.args.form.now c.args.root.now _ _ _ _ _ _ d c.in-ByGroup-Of.is-0 c.in-ByGroup-Of.is-1)
    c.group_passes.ensures

pub returns-in-Single-All : goal.returns-in-Single-All
returns-in-Single-All c =
    IfOk-weaker c.whole_is_false.result _ _
    (λ (b : Bool) h. λ is_row. h ∙ whole-bad c.args.schemas.now c.args.tables.now c.args.form.now c.args.root.now _ _ c.in-Single-All.is-0 c.in-Single-All.is-1)
    c.whole_is_false.ensures
