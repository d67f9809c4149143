use Rattle.std.proofs.Common.{◌∙◌, ℕ, ap, List, subst, sym}
use Rattle.std.specs.Prelude.{filter}
use Rattle.std.proofs.lemmas.Result.{IfOk-weaker}
use Rattle.std.specs.Ordering.{eq_by_cmp}
use Rattle.value.specs.ValueOrder.{value_cmp}
use Rattle.value.specs.Ordered.{IsAscending}
use Rattle.table.specs.Rows.{RowValues, value_in}
use Rattle.mvrows.proofs.FoundRows.{found_by_key}
use Rattle.mvrows.proofs.IndexedRows.{ascending-rows, version_keyed}
use Rattle.mvrows.proofs.rows.Rows.rows_with.Goals as goal

pub returns-then-is_keyed : goal.returns-then-is_keyed
returns-then-is_keyed c =
    let key = c.args.key_column in
    let version = version_keyed c.self.inside.column key c.self.inside.pages c.self.inside.indexes (c.is_keyed.ensures.keyed c.if-is_keyed.true) c.self.invariant in
    let ascending : IsAscending value_cmp (value_in key) c.args.self.now =
    subst (λ (rows : List RowValues). IsAscending value_cmp (value_in key) rows) c.self.view_is (ascending-rows key c.self.inside.pages version.keyed c.is_keyed.ensures.order) in
    IfOk-weaker c.row_alone.result _ _
    (λ rows h. h ∙ sym (found_by_key key c.args.value.now c.args.self.now ascending)
    ∙ ap (λ (n : ℕ). filter (λ row. eq_by_cmp value_cmp c.args.value.now (value_in n row)) c.args.self.now) (sym c.if-column-key_column.true))
    c.row_alone.ensures
