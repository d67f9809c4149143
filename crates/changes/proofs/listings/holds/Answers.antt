use Rattle.std.proofs.Common.{◌∙◌, List, ap, map, subst, sym}
use Rattle.value.specs.declared.values.Value.{Value}
use Rattle.table.specs.Aggregates.{aggregate}
use Rattle.table.specs.Bounds.{IsSmallRow}
use Rattle.table.specs.Eval.{keeps}
use Rattle.table.specs.Rows.{RowValues}
use Rattle.table.specs.Slots.{values_of}
use Rattle.alone.specs.Statements.{first_row}
use Rattle.changes.proofs.GroupWalks.{first_small}
use Rattle.changes.proofs.listings.holds.Goals as goal

pub keeps-requires-clause-small_row : goal.keeps-requires-clause-small_row
keeps-requires-clause-small_row c = subst IsSmallRow (sym c.in_ok-first.ensures) (first_small (map (λ row. row.now) c.args.rows.now) c.requires.small)

pub returns : goal.returns
returns c =
    let condition = c.args.having.now.condition in
    let rows = map (λ row. row.now) c.args.rows.now in
    c.keeps.ensures.value
    ∙ ap (λ (row : RowValues). keeps row (values_of c.in_ok-slots.slots) condition) c.in_ok-first.ensures
    ∙ ap (λ (slots : List Value). keeps (first_row rows) slots condition) c.in_ok-slots.ensures.values
    ∙ ap (λ aggregates. keeps (first_row rows) (map (λ a. aggregate a rows) aggregates) condition) c.as_slice.ensures
