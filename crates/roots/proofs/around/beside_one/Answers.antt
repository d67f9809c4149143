use Rattle.std.proofs.Common.{Bool, [], ◌∷◌, ◌∙◌, ◌++◌, ap, sym, subst}
use Rattle.std.specs.Prelude.{IsTrue, is_some, ◌||◌, if◌then◌else◌}
use Rattle.std.proofs.lemmas.Result.{IfOk-weaker}
use Rattle.value.specs.declared.values.Root.TheVariants.{Of}
use Rattle.table.specs.Bounds.{is_bounded}
use Rattle.table.specs.Rows.{value_in}
use Rattle.table.proofs.SlotlessLemmas.{bounded_beside}
use Rattle.groups.specs.Answers.{value_for}
use Rattle.groups.specs.Totals.{Entries}
use Rattle.roots.specs.Shown.{lent_query}
use Rattle.roots.specs.Turned.{is_beside}
use Rattle.roots.proofs.AroundLemmas.{turned}
use Rattle.roots.proofs.TurnedLemmas.{member_is}
use Rattle.roots.proofs.around.beside_one.Goals as goal

pub member_beside-requires-clause-bounded : goal.member_beside-requires-clause-bounded
member_beside-requires-clause-bounded c =
    let f = c.args.summary.filter.now in
    subst IsTrue (sym (ap (λ kinds. is_bounded kinds f) c.in_ok-slots.ensures.kinds ∙ bounded_beside c.args.row.now f)) c.requires.bounded

pub member_beside-requires-2-clause-bounded : goal.member_beside-requires-2-clause-bounded
member_beside-requires-2-clause-bounded c =
    let f = c.args.summary.filter.now in
    subst IsTrue (sym (ap (λ kinds. is_bounded kinds f) c.in_ok-slots.ensures.kinds ∙ bounded_beside c.args.row.now f)) c.requires.bounded

pub returns-clause-totals : goal.returns-clause-totals
returns-clause-totals c =
    IfOk-weaker c.with.result _ _
    (λ (made : Entries) h. λ key rows before after stands was is elsewhere within old.
    h before after
    (rw (c.in_ok-add.ensures, c.in_ok-remove.ensures)
    (turned c.args.around (lent_query c.args.summary) c.args.row.now key c.args.change.now.key c.args.change.now.old c.args.change.now.new rows stands before after was is elsewhere))
    old within)
    c.with.ensures

pub returns-clause-turned : goal.returns-clause-turned
returns-clause-turned c =
    let around = c.args.around in
    let q = lent_query c.args.summary in
    let row = c.args.row.now in
    let change = c.args.change.now in
    let with_root = λ (a b : Bool). c.args.turned.now.items ++ (if a || b then Of (value_in around.key row) ∷ [] else []) in
    let old = c.is_some.ensures ∙ ap is_some c.in_ok-remove.ensures ∙ member_is around q.filter row (value_for q.aggregate) change.old in
    let new = c.is_some-2.ensures ∙ ap is_some c.in_ok-add.ensures ∙ member_is around q.filter row (value_for q.aggregate) change.new in
    IfOk-weaker c.with.result _ _
    (λ (made : Entries) h. c.in_ok-push_turned.ensures ∙ ap (λ b. with_root b c.is_some-2.result) old ∙ ap (with_root (is_beside around q.filter row change.old)) new)
    c.with.ensures
