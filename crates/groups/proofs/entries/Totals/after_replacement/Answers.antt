use Rattle.std.proofs.Common.{◌≡◌, sym, ◌∙◌, ap, subst}
use Rattle.std.proofs.lemmas.Result.{IfOk-weaker}
use Rattle.std.specs.Prelude.{Some}
use Rattle.groups.specs.Steps.{entries_more, entries_less}
use Rattle.groups.specs.Totals.{Entries, AreTotalsOf}
use Rattle.groups.proofs.EntryLemmas.{AreTotalsOf-change}
use Rattle.groups.proofs.entries.Totals.after_replacement.Goals as goal

pub returns-in_ok-less-in-Less : goal.returns-in_ok-less-in-Less
returns-in_ok-less-in-Less c =
    let es = c.args.self in
    let old = c.args.old.now in
    let new = c.args.new.now in
    IfOk-weaker c.more.result _ _
    (λ (t : Entries) h. λ before after change are within.
    let made : t ≡ entries_more c.args.asked new (entries_less c.args.asked old es) = h ∙ ap (entries_more c.args.asked new) c.in_ok-less-in-Less.ensures in
    subst (AreTotalsOf c.args.asked after) (sym made) (AreTotalsOf-change c.args.asked (Some new) (Some old) before after es change are within))
    c.more.ensures
