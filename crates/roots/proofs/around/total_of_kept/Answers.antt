use Rattle.std.proofs.Common.{List, arith, map, subst, sym, take}
use Rattle.std.proofs.lemmas.List.{length-map}
use Rattle.std.specs.Prelude.{filter}
use Rattle.table.specs.Bounds.{IsSmallRow}
use Rattle.table.specs.Eval.{keeps}
use Rattle.table.specs.Rows.{RowValues}
use Rattle.table.specs.Slots.{values_of}
use Rattle.groups.specs.Answers.{value_for}
use Rattle.groups.specs.Totals.{IsTotalOf, IsWithin}
use Rattle.roots.proofs.AroundLemmas.{all_taken, next_taken, row_has, taken_within}
use Rattle.roots.proofs.around.total_of_kept.Goals as goal

pub counted_if_kept-requires-clause-small : goal.counted_if_kept-requires-clause-small
counted_if_kept-requires-clause-small c = row_has (λ row. row.now) c.args.rows.now c.loop-row.row-index c.row-item.result (omega (arith, c.loop-row-test.true)) c.row-item.is IsSmallRow c.requires.small

pub loop-row-preserved : goal.loop-row-preserved
loop-row-preserved c =
    let a = c.args.summary.aggregate in
    let rows = map (λ row. row.now) c.args.rows.now in
    let i = c.loop-row.row-index in
    let kept = λ (xs : List RowValues). map (value_for a) (filter (λ row. keeps row (values_of c.args.slots.now) c.args.summary.filter.now) xs) in
    let more = next_taken (λ row. row.now) c.args.rows.now i c.row-item.result (omega (arith, c.loop-row-test.true)) c.row-item.is in
    subst (λ xs. IsTotalOf a (kept xs) c.in_ok-total.total) (sym more)
    (c.in_ok-total.ensures (take i rows) c.loop-row.invariant
    (subst (λ xs. IsWithin (kept xs)) more (taken_within (λ row. keeps row (values_of c.args.slots.now) c.args.summary.filter.now) a _ rows c.requires.short c.requires.small)))

pub returns : goal.returns
returns c =
    let a = c.args.summary.aggregate in
    let rows = map (λ row. row.now) c.args.rows.now in
    let kept = λ (xs : List RowValues). map (value_for a) (filter (λ row. keeps row (values_of c.args.slots.now) c.args.summary.filter.now) xs) in
    let all = all_taken c.loop-row.row-index rows (omega (arith, c.loop-row-test.false, length-map c.args.rows.now (λ row. row.now))) in
    subst (λ xs. IsTotalOf a (kept xs) c.loop-row.total) all c.loop-row.invariant
