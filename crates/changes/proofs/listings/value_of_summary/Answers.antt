use Rattle.std.proofs.Common.{◌∙◌, List, ap, map, subst, sym}
use Rattle.std.proofs.lemmas.Result.{IfOk-weaker}
use Rattle.value.specs.declared.values.Value.{Value}
use Rattle.table.specs.Aggregates.{aggregate}
use Rattle.table.specs.Bounds.{IsSmallRow}
use Rattle.table.specs.Eval.{answer}
use Rattle.table.specs.Rows.{RowValues}
use Rattle.table.specs.Slots.{values_of}
use Rattle.alone.specs.Statements.{first_row}
use Rattle.changes.proofs.GroupWalks.{first_small}
use Rattle.changes.proofs.listings.value_of_summary.Goals as goal

pub evaluate-requires-clause-small_row : goal.evaluate-requires-clause-small_row
evaluate-requires-clause-small_row c = subst IsSmallRow (sym c.requires.first) (first_small (map (λ row. row.now) c.args.rows.now) c.requires.small)

pub returns : goal.returns
returns c =
    let value = c.args.summary.now.value in
    let rows = map (λ row. row.now) c.args.rows.now in
    IfOk-weaker c.of.result _ _
    (λ made h. h ∙ c.evaluate.ensures.value
    ∙ ap (λ (row : RowValues). answer row (values_of c.in_ok-slots.slots) value) c.requires.first
    ∙ ap (λ (slots : List Value). answer (first_row rows) slots value) c.in_ok-slots.ensures.values
    ∙ ap (λ aggregates. answer (first_row rows) (map (λ a. aggregate a rows) aggregates) value) c.as_slice.ensures)
    c.of.ensures
