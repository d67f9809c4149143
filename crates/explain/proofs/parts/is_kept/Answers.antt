use Rattle.std.proofs.Common.{subst, sym, ◌∙◌, ap}
use Rattle.std.specs.Prelude.{IsTrue}
use Rattle.table.specs.Bounds.{is_bounded}
use Rattle.table.proofs.SlotlessLemmas.{bounded_beside}
use Rattle.explain.proofs.parts.is_kept.Goals as goal

pub keeps-requires-clause-bounded : goal.keeps-requires-clause-bounded
keeps-requires-clause-bounded c =
    subst IsTrue (sym (ap (λ kinds. is_bounded kinds c.args.filter.now) c.in_ok-slots-in-Some.ensures.kinds ∙ bounded_beside c.in-Some.around.now c.args.filter.now)) c.requires.bounded
