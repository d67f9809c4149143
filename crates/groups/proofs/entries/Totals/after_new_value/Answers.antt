use Rattle.std.proofs.Common.{sym, subst}
use Rattle.std.proofs.lemmas.Result.{IfOk-weaker}
use Rattle.groups.specs.Totals.{Entries, AreTotalsOf}
use Rattle.groups.proofs.EntryLemmas.{AreTotalsOf-moved, AreTotalsOf-same}
use Rattle.groups.proofs.entries.Totals.after_new_value.Goals as goal

pub returns-in-Equal : goal.returns-in-Equal
returns-in-Equal c = λ before after change are within.
    AreTotalsOf-same c.args.asked c.args.old.now c.args.new.now before after c.args.self c.requires.same (c.order.ensures.exact.0 c.in-Equal.is) change are

pub returns-in-Less : goal.returns-in-Less
returns-in-Less c =
    IfOk-weaker c.after_move.result _ _
    (λ (t : Entries) h. λ before after change are within.
    subst (AreTotalsOf c.args.asked after) (sym h) (AreTotalsOf-moved c.args.asked c.args.old.now c.args.new.now before after c.args.self c.requires.same change are within))
    c.after_move.ensures
