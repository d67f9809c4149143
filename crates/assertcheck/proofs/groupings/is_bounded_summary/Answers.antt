use Rattle.std.proofs.Common.{◌∙◌, ap, map}
use Rattle.std.specs.Prelude.{is_ok, is_some}
use Rattle.table.specs.Bounds.{bound_of}
use Rattle.table.specs.Kinds.{kind_of_aggregate}
use Rattle.assertcheck.proofs.SelectedNames.{bound_is_some}
use Rattle.assertcheck.proofs.groupings.is_bounded_summary.Goals as goal

pub returns : goal.returns
returns c =
    let value = c.args.summary.now.value in
    c.is_ok.ensures.value ∙ ap is_ok c.bound.ensures.value ∙ bound_is_some (bound_of c.deref.result.now value)
    ∙ ap (λ kinds. is_some (bound_of kinds value)) (c.deref.ensures.value ∙ c.in_ok-slots.ensures ∙ ap (map kind_of_aggregate) c.as_slice.ensures)
