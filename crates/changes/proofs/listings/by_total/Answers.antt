use Rattle.std.proofs.Common.{◌+◌, ◌++◌, ◌∷◌, [], List, arith, map, subst, sym, take, ap, ◌∙◌}
use Rattle.std.proofs.lemmas.List.{length-map, map-append, take_all}
use Rattle.std.proofs.lemmas.Result.{IfOk-weaker}
use Rattle.value.specs.declared.values.Value.{Value}
use Rattle.table.specs.Rows.{RowValues}
use Rattle.groups.specs.Answers.{value_for}
use Rattle.groups.specs.Totals.{IsTotalOf, IsWithin}
use Rattle.changes.proofs.LentRows.{first_within, one_more_taken, within}
use Rattle.changes.proofs.listings.by_total.Goals as goal

pub loop-row-preserved : goal.loop-row-preserved
loop-row-preserved c =
    let a = c.args.aggregate in
    let rows = map (λ row. row.now) c.args.rows.now in
    let i = c.loop-row.row-index in
    let taken = one_more_taken (λ row. row.now) c.args.rows.now i c.row-item.result (omega (arith, c.loop-row-test.true)) c.row-item.is in
    let more = ap (map (value_for a)) taken ∙ map-append (value_for a) (take i rows) (c.row-item.result.now ∷ [])
    ∙ ap (λ (v : Value). map (value_for a) (take i rows) ++ v ∷ []) (sym c.in_ok-value.ensures) in
    subst (λ (vs : List Value). IsTotalOf a vs c.in_ok-total.total) (sym more)
    (c.in_ok-total.ensures (map (value_for a) (take i rows)) c.loop-row.invariant
    (subst IsWithin more (first_within a (i + 1) rows c.requires.short c.requires.small)))

pub returns-clause-within : goal.returns-clause-within
returns-clause-within c =
    let a = c.args.aggregate in
    let rows = map (λ row. row.now) c.args.rows.now in
    let all = take_all c.loop-row.row-index rows (omega (arith, c.loop-row-test.false, length-map c.args.rows.now (λ row. row.now))) in
    IfOk-weaker c.answer.result _ _
    (λ answer h. h (map (value_for a) rows) (subst (λ (taken : List RowValues). IsTotalOf a (map (value_for a) taken) c.loop-row.total) all c.loop-row.invariant) (within a rows c.requires.short c.requires.small))
    c.answer.ensures.within
