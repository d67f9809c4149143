use Rattle.std.proofs.Common.{◌≡◌, sym, subst}
use Rattle.std.proofs.lemmas.Result.{IfOk-weaker}
use Rattle.groups.specs.Totals.{Entries, AreTotalsOf}
use Rattle.groups.proofs.EntryLemmas.{entries_with, entries_without, AreTotalsOf-change}
use Rattle.groups.proofs.entries.Totals.with.Goals as goal

pub returns-in-None-Some : goal.returns-in-None-Some
returns-in-None-Some c =
    IfOk-weaker c.more.result _ _
    (λ (t : Entries) h. λ before after change are within.
    let made : t ≡ entries_with c.args.asked c.args.add.now (entries_without c.args.asked c.args.remove.now c.args.self) = rw (c.in-None-Some.is-0, c.in-None-Some.is-1) h in
    subst (AreTotalsOf c.args.asked after) (sym made) (AreTotalsOf-change c.args.asked c.args.add.now c.args.remove.now before after c.args.self change are within))
    c.more.ensures

pub returns-in-Some-None : goal.returns-in-Some-None
returns-in-Some-None c =
    IfOk-weaker c.less.result _ _
    (λ (t : Entries) h. λ before after change are within.
    let made : t ≡ entries_with c.args.asked c.args.add.now (entries_without c.args.asked c.args.remove.now c.args.self) = rw (c.in-Some-None.is-0, c.in-Some-None.is-1) h in
    subst (AreTotalsOf c.args.asked after) (sym made) (AreTotalsOf-change c.args.asked c.args.add.now c.args.remove.now before after c.args.self change are within))
    c.less.ensures

pub returns-in-Some-Some : goal.returns-in-Some-Some
returns-in-Some-Some c =
    IfOk-weaker c.after_replacement.result _ _
    (λ (t : Entries) h. λ before after change are within. h before after (rw (c.in-Some-Some.is-0, c.in-Some-Some.is-1) at change) are within)
    c.after_replacement.ensures
