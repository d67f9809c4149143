use Rattle.std.proofs.Common.{◌∙◌, ℕ, ap, List, subst, sym}
use Rattle.std.specs.Prelude.{filter_map}
use Rattle.std.specs.Ordering.{eq_by_cmp}
use Rattle.value.specs.declared.values.Value.{Value}
use Rattle.value.specs.ValueOrder.{value_cmp}
use Rattle.value.specs.Ordered.{IsAscending}
use Rattle.table.specs.Rows.{RowValues, value_in, row_at}
use Rattle.mvrows.proofs.FoundRows.{found_by_keys}
use Rattle.mvrows.proofs.IndexedRows.{ascending-rows, version_keyed}
use Rattle.mvrows.proofs.rows.Rows.index_scan.Goals as goal

pub returns : goal.returns
returns c =
    let key = c.args.key_column in
    let version = version_keyed c.self.inside.column key c.self.inside.pages c.self.inside.indexes (c.is_keyed.ensures.keyed c.if-not-is_keyed.false) c.self.invariant in
    let ascending : IsAscending value_cmp (value_in key) c.args.self.now =
    subst (λ (rows : List RowValues). IsAscending value_cmp (value_in key) rows) c.self.view_is (ascending-rows key c.self.inside.pages version.keyed c.is_keyed.ensures.order) in
    c.new.ensures ∙ ap (λ (keys : List Value). filter_map (λ k. row_at key k c.args.self.now) keys) (c.keys.ensures.value ∙ c.in_ok-index.ensures)
    ∙ found_by_keys key (λ row. eq_by_cmp value_cmp c.args.value.now (value_in c.args.column row)) c.args.self.now ascending
