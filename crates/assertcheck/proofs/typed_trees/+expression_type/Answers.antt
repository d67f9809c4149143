use Rattle.std.proofs.Common.{sym, ap, ◌∙◌, map}
use Rattle.assertcheck.specs.Types.{expression_type, arithmetic_type}
use Rattle.assertcheck.proofs.ExprTypes.{computed, all_found}
use Rattle.assertcheck.proofs.typed_trees.+expression_type.Goals as goal

pub returns-after-loop-part : goal.returns-after-loop-part
returns-after-loop-part t c =
    let found = expression_type c.args.columns.now c.args.slots.now in
    all_found found c.as_slice-part-items.result.now c.loop-part.part-index c.loop-part-test.false c.loop-part.invariant
    ∙ ap (λ parts. arithmetic_type (map found parts)) c.as_slice-part-items.ensures
    ∙ sym (computed c.args.columns.now c.args.slots.now c.args.expr.now c.in-Sum.parts c.in-Sum.is)
