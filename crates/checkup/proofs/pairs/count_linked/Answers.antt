use Rattle.std.proofs.Common.{subst, sym, ◌∙◌, ap}
use Rattle.std.specs.Prelude.{IsTrue}
use Rattle.table.specs.Bounds.{is_bounded}
use Rattle.table.proofs.SlotlessLemmas.{bounded_beside}
use Rattle.checkup.proofs.pairs.count_linked.Goals as goal

-- what is bounded with no slots is bounded beside a row
pub count_kept-requires-clause-bounded : goal.count_kept-requires-clause-bounded
count_kept-requires-clause-bounded c =
    subst IsTrue
    (sym (ap (λ kinds. is_bounded kinds c.args.query.now.filter) c.in_ok-slots.ensures.kinds ∙ bounded_beside c.args.around.now c.args.query.now.filter))
    c.requires.bounded
