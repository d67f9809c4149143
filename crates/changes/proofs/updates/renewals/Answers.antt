use Rattle.std.proofs.Common.{◌≡◌, ◌∙◌, ◌++◌, List, [], map, None, ap, sym, subst}
use Rattle.std.specs.Prelude.{All}
use Rattle.std.proofs.lemmas.List.Elements.{All-nil, All-filter, All-weaker}
use Rattle.value.specs.Ordered.{HoldsOf}
use Rattle.table.specs.declared.rows.Change.{Change}
use Rattle.table.specs.Rows.{RowValues, FitsColumns}
use Rattle.table.specs.Bounds.{IsSmallRow}
use Rattle.table.specs.Eval.{keeps}
use Rattle.table.proofs.SmallRows.{IsSmallRow-fits}
use Rattle.assertion.specs.Meaning.{filtered_rows}
use Rattle.alone.specs.Statements.{renewal, update_fault}
use Rattle.changes.proofs.Due.{renewals_due, renewals_fit}
use Rattle.changes.proofs.Walks.{made_more, rest_has, all_more, all_done, fault_left}
use Rattle.changes.proofs.updates.renewals.Goals as goal

pub filtered_rows-row-items-requires-clause-small : goal.filtered_rows-row-items-requires-clause-small
filtered_rows-row-items-requires-clause-small c = All-weaker (FitsColumns c.args.columns.now) IsSmallRow (IsSmallRow-fits c.args.columns.now) c.args.rows.now c.requires.table.fitting

pub loop-row-init : goal.loop-row-init
loop-row-init c =
    let all : c.into_iter-row-iterator.result ≡ filtered_rows c.args.filter.now.condition c.args.rows.now = c.into_iter-row-iterator.ensures.into_iter_gives ∙ c.filtered_rows-row-items.ensures in
    record {
      fits = subst (All (FitsColumns c.args.columns.now)) (sym all) (All-filter (λ (row : RowValues). keeps row [] c.args.filter.now.condition) (FitsColumns c.args.columns.now) c.args.rows.now c.requires.table.fitting);
      made = ap (λ (changes : List Change). changes ++ map (renewal c.args.filter.now.table c.args.filter.now.key c.args.sets.now) c.into_iter-row-iterator.result) c.new-made.ensures.items ∙ ap (map (renewal c.args.filter.now.table c.args.filter.now.key c.args.sets.now)) all;
      fault = ap (update_fault c.args.columns.now c.args.sets.now) (sym all);
      new_fit = subst (All (λ (change : Change). HoldsOf (FitsColumns c.args.columns.now) change.new)) (sym c.new-made.ensures.items) (All-nil (λ (change : Change). HoldsOf (FitsColumns c.args.columns.now) change.new));
    }

pub loop-row-preserved : goal.loop-row-preserved
loop-row-preserved c = record {
  fits = rest_has (FitsColumns c.args.columns.now) c.loop-row.row-iterator c.in-Some.row.now c.next.new.self c.in-Some.ensures.steps c.loop-row.invariant.fits;
  made = made_more (renewal c.args.filter.now.table c.args.filter.now.key c.args.sets.now) (filtered_rows c.args.filter.now.condition c.args.rows.now) c.loop-row.made.items c.loop-row.row-iterator c.in-Some.row.now c.next.new.self c.in-Some.ensures.steps c.loop-row.invariant.made
      c.in_ok-renewal.field-0 c.push.new.self.items c.in_ok-push.ensures.items c.in_ok-renewal.ensures.made;
  fault = c.loop-row.invariant.fault ∙ fault_left c.args.columns.now c.args.sets.now c.loop-row.row-iterator c.in-Some.row.now c.next.new.self c.in-Some.ensures.steps None c.in_ok-renewal.ensures.faultless;
  new_fit = all_more (λ (change : Change). HoldsOf (FitsColumns c.args.columns.now) change.new) c.loop-row.made.items c.push.new.self.items c.in_ok-renewal.field-0 c.in_ok-push.ensures.items c.loop-row.invariant.new_fit
      (subst (λ (change : Change). HoldsOf (FitsColumns c.args.columns.now) change.new) (sym c.in_ok-renewal.ensures.made) c.in_ok-renewal.ensures.fits);
}

pub returns-clause-due : goal.returns-clause-due
returns-clause-due c = λ layouts state fit k r leaves.
    renewals_due layouts state fit c.args.filter.now.table c.args.filter.now.key c.args.filter.now.condition c.args.rows.now c.loop-row.made.items k r c.args.sets.now leaves
    (all_done (renewal c.args.filter.now.table c.args.filter.now.key c.args.sets.now) (filtered_rows c.args.filter.now.condition c.args.rows.now) c.loop-row.made.items c.loop-row.row-iterator c.in-None.ensures.steps.0 c.loop-row.invariant.made)

pub returns-clause-fitting : goal.returns-clause-fitting
returns-clause-fitting c = λ layouts l.
    renewals_fit c.args.filter.now.table c.args.columns.now c.args.filter.now.key c.args.sets.now (filtered_rows c.args.filter.now.condition c.args.rows.now) c.loop-row.made.items
    (all_done (renewal c.args.filter.now.table c.args.filter.now.key c.args.sets.now) (filtered_rows c.args.filter.now.condition c.args.rows.now) c.loop-row.made.items c.loop-row.row-iterator c.in-None.ensures.steps.0 c.loop-row.invariant.made)
    c.loop-row.invariant.new_fit layouts l
