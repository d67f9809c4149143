use Rattle.std.proofs.Common.{◌≡◌, ◌<◌, List, length, ap, arith, subst}
use Rattle.std.proofs.lemmas.Result.{IfOk-weaker}
use Rattle.value.specs.declared.values.Value.{Value}
use Rattle.table.specs.Rows.{RowValues}
use Rattle.groups.specs.Indexes.{IsIndexOf}
use Rattle.mvrows.specs.Keyed.{rows_of}
use Rattle.mvrows.proofs.KeyedRows.{length-rows_of}
use Rattle.mvrows.proofs.IndexedRows.{more_indexes, version_keyed}
use Rattle.mvrows.proofs.rows.Rows.with_index.Goals as goal

pub returns-then-not-is_keyed-clause-short : goal.returns-then-not-is_keyed-clause-short
returns-then-not-is_keyed-clause-short c =
    IfOk-weaker c.copy.result (λ (rows : List RowValues). rows ≡ c.args.self.now) (λ (rows : List RowValues). length rows < 9223372036854775808)
    (λ (rows : List RowValues) is. omega (arith, ap length is, ap length c.self.view_is, length-rows_of c.self.inside.pages, c.is_keyed.ensures.short))
    c.copy.ensures

pub invariant_of-result : goal.invariant_of-result
invariant_of-result c =
    let own = version_keyed c.self.inside.column c.args.key_column c.self.inside.pages c.self.inside.indexes (c.is_keyed.ensures.keyed c.if-not-is_keyed.false) c.self.invariant in
    more_indexes c.args.key_column c.args.column c.self.inside.pages c.in_ok-copy-2.field-0 c.in_ok-index.index c.self.inside.indexes c.in_ok-copy.field-0 c.in_ok-indexes.indexes
    c.in_ok-copy-2.ensures c.in_ok-copy.ensures c.in_ok-indexes.ensures
    (subst (λ (es : List (Value × RowValues)). IsIndexOf c.args.key_column c.args.column (rows_of es) c.in_ok-index.index) c.in_ok-merged.ensures c.in_ok-index.ensures) own

pub returns-clause-short : goal.returns-clause-short
returns-clause-short c =
    omega (arith, ap length c.in_ok-copy-2.ensures, length-rows_of c.in_ok-copy-2.field-0, c.is_keyed.ensures.short)
