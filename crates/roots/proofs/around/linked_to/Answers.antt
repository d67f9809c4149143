use Rattle.std.proofs.Common.{◌≡◌, ◌+◌, ◌∷◌, ◌++◌, ◌∙◌, List, ap, arith, drop, map, refl, subst, sym}
use Rattle.std.specs.Prelude.{All, flat_map}
use Rattle.std.proofs.lemmas.List.{length-map}
use Rattle.std.proofs.lemmas.List.Elements.{All-filter}
use Rattle.table.specs.Bounds.{IsSmallRow}
use Rattle.table.specs.Rows.{RowValues, put_row, value_in}
use Rattle.groups.specs.Totals.{AreTotalsOf}
use Rattle.groups.proofs.EntryLemmas.{AreTotalsOf-along}
use Rattle.roots.specs.Around.{is_equal}
use Rattle.roots.specs.Shown.{lent_query}
use Rattle.roots.specs.Turned.{turned_root}
use Rattle.roots.proofs.AroundLemmas.{StandAll, first_left, midway, midway_first, midway_new, midway_old, midway_other, midway_within, none_left, row_has, stand_kept, stand_left}
use Rattle.roots.proofs.TurnedLemmas.{all_done, step_done}
use Rattle.roots.proofs.around.linked_to.Goals as goal

pub loop-row-init : goal.loop-row-init
loop-row-init c = record {
  turned = refl;
  totals = λ key rows before after stands turn old.
      let around = c.args.around in
      let outer = c.args.outer.now in
      let changed = put_row key c.args.change.now.key c.args.change.now.new rows in
      let at_first = midway_first around (lent_query c.args.summary) outer c.args.value.now rows changed before after turn c.requires.in_order in
      let lent = ap (map (λ row. row.now)) c.deref-row-items.ensures.value ∙ c.in_ok-rows.ensures in
      let left = midway around (lent_query c.args.summary) outer c.args.value.now rows changed before after turn (map (λ row. row.now) c.deref-row-items.result.now) in
      AreTotalsOf-along c.args.summary.aggregate before left c.args.totals
      (λ v. subst (λ xs. midway around (lent_query c.args.summary) outer c.args.value.now rows changed before after turn xs v ≡ before v) (sym lent) (at_first v)) old;
}

pub beside_one-requires-clause-row_small : goal.beside_one-requires-clause-row_small
beside_one-requires-clause-row_small c =
    let test = λ (row : RowValues). is_equal c.args.value.now (value_in c.args.around.link.outer row) in
    let lent = ap (map (λ row. row.now)) c.deref-row-items.ensures.value ∙ c.in_ok-rows.ensures in
    row_has (λ row. row.now) c.deref-row-items.result.now c.loop-row.row-index c.row-item.result (omega (arith, c.loop-row-test.true)) c.row-item.is IsSmallRow
    (subst (All IsSmallRow) (sym lent) (All-filter test IsSmallRow c.args.outer.now c.requires.outer_small))

pub loop-row-preserved : goal.loop-row-preserved
loop-row-preserved c =
    let around = c.args.around in
    let q = lent_query c.args.summary in
    let outer = c.args.outer.now in
    let v = c.args.value.now in
    let i = c.loop-row.row-index in
    let row = c.row-item.result.now in
    let all = map (λ row. row.now) c.deref-row-items.result.now in
    let left = drop (i + 1) all in
    let test = λ (row : RowValues). is_equal v (value_in around.link.outer row) in
    let lent = ap (map (λ row. row.now)) c.deref-row-items.ensures.value ∙ c.in_ok-rows.ensures in
    let split = first_left (λ row. row.now) c.deref-row-items.result.now i c.row-item.result (omega (arith, c.loop-row-test.true)) c.row-item.is in
    let stand = subst (StandAll around.key test outer) split (stand_left around.key test i outer all (subst (StandAll around.key test outer) (sym lent) (stand_kept around.key test outer c.requires.in_order))) in
    record {
      turned = step_done (turned_root around q.filter c.args.change.now) c.loop-row.turned.items c.beside_one.new.turned.items (c.args.turned.now.items ++ flat_map (turned_root around q.filter c.args.change.now) all)
          row (drop i all) left split c.in_ok-made.ensures.turned c.loop-row.invariant.turned;
      totals = λ key rows before after stands turn old.
          let changed = put_row key c.args.change.now.key c.args.change.now.new rows in
          c.in_ok-made.ensures.totals key rows
          (midway around q outer v rows changed before after turn (row ∷ left)) (midway around q outer v rows changed before after turn left) stands
          (midway_old around q outer v rows changed before after turn row left stand) (midway_new around q outer v rows changed before after turn row left stand)
          (midway_other around q outer v rows changed before after turn row left stand) (midway_within around q outer v rows changed before after turn left)
          (subst (λ xs. AreTotalsOf c.args.summary.aggregate (midway around q outer v rows changed before after turn xs) c.loop-row.made) split (c.loop-row.invariant.totals key rows before after stands turn old));
    }

pub returns-clause-totals : goal.returns-clause-totals
returns-clause-totals c = λ key rows before after stands turn old.
    let changed = put_row key c.args.change.now.key c.args.change.now.new rows in
    subst (λ xs. AreTotalsOf c.args.summary.aggregate (midway c.args.around (lent_query c.args.summary) c.args.outer.now c.args.value.now rows changed before after turn xs) c.loop-row.made)
    (none_left c.loop-row.row-index (map (λ row. row.now) c.deref-row-items.result.now) (omega (arith, length-map c.deref-row-items.result.now (λ row. row.now)))) (c.loop-row.invariant.totals key rows before after stands turn old)

pub returns-clause-turned : goal.returns-clause-turned
returns-clause-turned c =
    let T = turned_root c.args.around (lent_query c.args.summary).filter c.args.change.now in
    let all = map (λ row. row.now) c.deref-row-items.result.now in
    let lent = ap (map (λ row. row.now)) c.deref-row-items.ensures.value ∙ c.in_ok-rows.ensures in
    all_done T c.loop-row.turned.items (c.args.turned.now.items ++ flat_map T all) (drop c.loop-row.row-index all)
    (none_left c.loop-row.row-index all (omega (arith, length-map c.deref-row-items.result.now (λ row. row.now)))) c.loop-row.invariant.turned
    ∙ ap (λ (rows : List RowValues). c.args.turned.now.items ++ flat_map T rows) lent
