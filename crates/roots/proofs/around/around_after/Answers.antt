use Rattle.std.proofs.Common.{[], ◌++◌, ◌∙◌, List, Some, ap, sym, subst}
use Rattle.std.specs.Prelude.{flat_map}
use Rattle.std.proofs.lemmas.Result.{IfOk-weaker}
use Rattle.value.specs.ValueOrder.{value_cmp}
use Rattle.value.specs.Ordered.{IsAscending}
use Rattle.value.specs.declared.values.Root.{Root}
use Rattle.table.specs.Rows.{RowValues, put_row, value_in, key_of}
use Rattle.assertion.specs.Meaning.{rows_of}
use Rattle.groups.specs.Totals.{AreTotalsOf, AreWithin, Entries}
use Rattle.roots.specs.Around.{around_members}
use Rattle.roots.specs.Shown.{lent_query}
use Rattle.roots.specs.Turned.{linked_around, turned_root}
use Rattle.roots.proofs.AroundSteps.{around_within, key_is, ordered_after, outer_in_order, table_changed, table_stands}
use Rattle.roots.proofs.MaintainedLemmas.{totals-as}
use Rattle.roots.proofs.TurnedLemmas.{nothing_more, turned_elsewhere, turned_here}
use Rattle.roots.proofs.around.around_after.Goals as goal

pub linked_after-requires-clause-in_order : goal.linked_after-requires-clause-in_order
linked_after-requires-clause-in_order c =
    let q = lent_query c.args.summary in
    let around = c.args.around in
    let layouts = c.args.schemas.now in
    subst (λ (rows : List RowValues). IsAscending value_cmp (value_in around.key) rows) (sym (c.in-Some.ensures.lookup.3.1 []))
    (outer_in_order layouts c.args.change.now c.args.before.now c.args.after.now c.requires.step around q (key_is layouts q around c.requires.around c.requires.keyed) c.args.after.now
    (ordered_after layouts c.args.change.now c.args.before.now c.args.after.now c.requires.step))

pub returns-in-Some-clause-totals : goal.returns-in-Some-clause-totals
returns-in-Some-clause-totals c =
    let q = lent_query c.args.summary in
    let around = c.args.around in
    let layouts = c.args.schemas.now in
    let change = c.args.change.now in
    let before = c.args.before.now in
    let after = c.args.after.now in
    let outer = c.in-Some.ensures.lookup.3.1 [] in
    let rows = rows_of q.table before in
    let changed = table_changed layouts change before after c.requires.step q.table c.if-summary-change.false in
    IfOk-weaker c.linked_after.result _ _
    (λ (made : Entries) h. totals-as q (Some around) c.requires.around after made
    (subst (λ (xs : List RowValues). AreTotalsOf q.aggregate (around_members around q (rows_of around.table after) xs) made) (sym changed)
    (subst (λ (xs : List RowValues). AreTotalsOf q.aggregate (around_members around q xs (put_row (key_of q.table layouts) change.key change.new rows)) made) outer
    (h (key_of q.table layouts) rows (table_stands layouts change before after c.requires.step q.table c.if-summary-change.false)
    (around_within around q before c.requires.step.small c.in-Some.outer.now)
    (subst (λ (xs : List RowValues). AreWithin (around_members around q c.in-Some.outer.now xs)) changed (around_within around q after c.requires.step.small_after c.in-Some.outer.now))
    (subst (λ (xs : List RowValues). AreTotalsOf q.aggregate (around_members around q xs rows) c.in_ok-made.made) (sym outer) c.in_ok-made.ensures)))))
    c.linked_after.ensures.totals

pub returns-then-summary-change-clause-turned : goal.returns-then-summary-change-clause-turned
returns-then-summary-change-clause-turned c =
    let q = lent_query c.args.summary in
    let old = c.args.turned.now.items in
    sym (nothing_more old) ∙ ap (λ (roots : List Root). old ++ roots) (sym (turned_elsewhere c.args.around c.args.after.now c.args.change.now q c.if-summary-change.true))

pub returns-in-Some-clause-turned : goal.returns-in-Some-clause-turned
returns-in-Some-clause-turned c =
    let q = lent_query c.args.summary in
    let around = c.args.around in
    let after = c.args.after.now in
    let old = c.args.turned.now.items in
    let T = turned_root around q.filter c.args.change.now in
    let outer = c.in-Some.ensures.lookup.3.1 [] in
    IfOk-weaker c.linked_after.result _ _
    (λ (made : Entries) h. h ∙ ap (λ (rows : List RowValues). old ++ flat_map T (linked_around around c.args.change.now rows)) outer
    ∙ ap (λ (roots : List Root). old ++ roots) (turned_here around after c.args.change.now q c.if-summary-change.false))
    c.linked_after.ensures.turned
