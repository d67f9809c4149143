use Rattle.std.proofs.Common.{Bor, ◌<◌, ◌∙◌, ap, length, map, subst, sym, ℕ}
use Rattle.std.proofs.lemmas.List.{get_or-map, length-map}
use Rattle.table.specs.Bounds.{IsSmallRow}
use Rattle.table.specs.Rows.{RowValues}
use Rattle.checkup.proofs.pairs.count_kept.Goals as goal

-- a row of the list stands at the same place among what its rows hold
pub keeps-requires-clause-small_row : goal.keeps-requires-clause-small_row
keeps-requires-clause-small_row c =
    let i : ℕ = c.loop-row.row-index in
    let held : Bor RowValues → RowValues = λ row. row.now in
    let there : i < length (map held c.args.rows.now)
    = subst (λ n. i < n) (sym (length-map c.args.rows.now held)) c.loop-row-test.true in
    subst IsSmallRow
    (get_or-map held c.args.rows.now i c.row-item.result c.row-item.result.now c.loop-row-test.true ∙ ap held (sym c.row-item.is))
    (c.requires.small i c.row-item.result.now there)
