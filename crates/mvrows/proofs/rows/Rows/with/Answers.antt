use Rattle.std.proofs.Common.{◌≡◌, ◌∙◌, ap, sym, subst, arith, List, Option}
use Rattle.value.specs.Ordered.{put, IsAscending}
use Rattle.value.specs.ValueOrder.{value_cmp}
use Rattle.value.specs.declared.values.Value.{Value}
use Rattle.value.proofs.ValueOrders.{value_cmp_total}
use Rattle.value.proofs.OrderedLists.{IsAscending-put, at-put}
use Rattle.table.specs.Rows.{RowValues, value_in, row_at, put_row}
use Rattle.pages.specs.Reach.{key_of, entry_of}
use Rattle.mvrows.specs.Keyed.{rows_of, AreKeyed}
use Rattle.mvrows.specs.Indexed.{AreIndexesOf}
use Rattle.mvrows.proofs.KeyedRows.{keyed-put, put-rows, length-rows_of}
use Rattle.mvrows.proofs.rows.Rows.with.Goals as goal

pub invariant_of-result : goal.invariant_of-result
invariant_of-result c =
    let k = c.args.change.now.key in
    let column = c.args.key_column in
    let new = c.args.change.now.new in
    let keyed : List (Value × RowValues) = c.in_ok-pages.pages in
    let made : c.put.new.self ≡ put value_cmp key_of k (entry_of k new) keyed =
    c.in_ok-put.ensures.changed ∙ ap (λ (r : Option RowValues). put value_cmp key_of k (entry_of k r) keyed) c.in_ok-new.ensures in
    let rows : rows_of c.put.new.self ≡ put_row column k new c.args.self =
    ap rows_of made ∙ put-rows column k new keyed c.in_ok-pages.ensures.keyed ∙ ap (put_row column k new) (c.in_ok-pages.ensures.rows ∙ c.self.view_is) in
    record {
      keyed = subst (AreKeyed column) (sym made) (keyed-put column k new keyed c.requires.keyed c.in_ok-pages.ensures.keyed);
      indexed = subst (λ (rs : List RowValues). AreIndexesOf column rs c.in_ok-indexes.indexes) (sym rows) c.in_ok-indexes.ensures;
    }

pub returns : goal.returns
returns c =
    let k = c.args.change.now.key in
    let column = c.args.key_column in
    let new = c.args.change.now.new in
    let keyed : List (Value × RowValues) = c.in_ok-pages.pages in
    let made : c.put.new.self ≡ put value_cmp key_of k (entry_of k new) keyed =
    c.in_ok-put.ensures.changed ∙ ap (λ (r : Option RowValues). put value_cmp key_of k (entry_of k r) keyed) c.in_ok-new.ensures in
    let changed : rows_of c.put.new.self ≡ put_row column k new c.args.self =
    ap rows_of made ∙ put-rows column k new keyed c.in_ok-pages.ensures.keyed ∙ ap (put_row column k new) (c.in_ok-pages.ensures.rows ∙ c.self.view_is) in
    record {
      changed = changed;
      ordered = subst (IsAscending value_cmp (value_in column)) (sym changed) (IsAscending-put value_cmp_total (value_in column) k new c.args.self c.requires.keyed c.requires.ordered);
      others = λ other. ap (row_at column other) changed ∙ at-put value_cmp_total (value_in column) k new c.args.self c.requires.keyed c.requires.ordered other;
      short = omega (arith, c.put.ensures.short, length-rows_of c.put.new.self);
    }
